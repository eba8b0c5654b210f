-- Whether unsealing makes a frame hangs on key, frame and fields alone, not on layer or output; the scratch has room.
use mathlib.Core.Path.{◌∙◌}
use native.Mathlib.Omega.{arith}
use lib.ListN.{replicate}
use Rattle.settings.specs.Settings.{ours, longest}
use Rattle.octets.specs.Keys.{the_key}
use Rattle.seals.proofs.Looked.{looked, made-some}
use Rattle.frames.specs.declared.Layer.TheVariants.{Aps}
use Rattle.seals.proofs.look.Goals as goal

pub returns : goal.returns
returns c =
    let y = c.args in
    c.is_some.ensures ∙ made-some c.unseal.result
    ∙ looked ours (the_key y.key) Aps y.frame.now y.secured (replicate longest 0) (omega arith)
    c.unseal.result _ c.unseal.ensures
