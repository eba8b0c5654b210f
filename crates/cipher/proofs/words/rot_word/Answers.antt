-- A number of four octets without its lowest, and that one put on top.
use mathlib.Core.Path.{ap, ◌∙◌}
use Rattle.std.proofs.Common.{rules}
use Rattle.octets.specs.Least.{spelled}
use Rattle.cipher.proofs.Lanes.{turned-or, spelled-turned}
use Rattle.cipher.proofs.words.rot_word.Goals as goal

pub returns : goal.returns
returns c =
    let w = c.args.w in
    ap (spelled 4) (c.rotate_right.ensures ∙ turned-or w (search rules)) ∙ spelled-turned w (search rules)
