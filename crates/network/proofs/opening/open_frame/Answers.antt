-- A frame that was read as secured is what it announces.
use mathlib.Core.Path.{sym, ap, ◌∙◌}
use Rattle.std.proofs.Common.{Ok}
use Rattle.settings.specs.Settings.{ours}
use Rattle.frames.specs.Reading.{told_read}
use Rattle.network.proofs.Admission.{read-sound}
use Rattle.network.proofs.opening.open_frame.Goals as goal

pub invariant_of-x : goal.invariant_of-x
invariant_of-x c =
    let told = sym c.read_frame.ensures ∙ ap told_read (c.in_ok-read_frame.was ∙ ap Ok c.in-Secured.is) in
    record { fits = read-sound ours c.args.frame.now _ told c.if-frame-gt-LONGEST.false }
