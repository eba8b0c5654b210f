-- The header that was read is within the frame.
use mathlib.Core.Path.{sym, ap, ◌∙◌}
use Rattle.frames.specs.Reading.{told_plain}
use Rattle.network.proofs.Sends.{plain-bounds}
use Rattle.network.proofs.sealing.seal_read.Goals as goal

pub invariant_of-x : goal.invariant_of-x
invariant_of-x c =
    record { headed = plain-bounds c.args.f.now _ (sym c.read_plain.ensures ∙ ap told_plain c.in_ok-h.was) }
