-- A frame that was read as secured is what it announces.
use mathlib.Core.Path.{sym, ap, ◌∙◌}
use Rattle.std.proofs.Common.{Ok}
use Rattle.settings.specs.Settings.{ours}
use Rattle.frames.specs.Reading.{told_read}
use Rattle.aps.proofs.Admission.{read-sound}
use Rattle.aps.proofs.opening.open_read.Goals as goal

pub invariant_of-open_keyed : goal.invariant_of-open_keyed
invariant_of-open_keyed c =
    let told = sym c.read_frame.ensures ∙ ap told_read (c.in_ok-read_frame.was ∙ ap Ok c.in-Secured.is) in
    record { fits = read-sound ours c.args.f.now c.args.given _ told c.if-f-gt-LONGEST_APS.false }
