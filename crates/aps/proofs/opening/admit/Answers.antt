-- What unsealing answers, by the laws of seals, is what the definition asks; only a frame that was made moves the floor.
use Rattle.std.proofs.Common.{rules}
use Rattle.settings.specs.Settings.{ours}
use Rattle.seals.proofs.Fairly.{ours-fair}
use Rattle.aps.proofs.Admission.{admit-plain, admit-forged}
use Rattle.aps.proofs.opening.admit.Goals as goal

pub returns-in_err-length-clause-out_after : goal.returns-in_err-length-clause-out_after
returns-in_err-length-clause-out_after c =
    λ b el. let y = c.args in
    let h = admit-forged ours ours-fair _ y.x.frame.now y.x.secured y.out.now y.i y.x.fits c.requires.room _ _
    c.in_err-length.ensures.ok_part c.unseal.ensures b in
    search rules

pub returns-clause-out_after : goal.returns-clause-out_after
returns-clause-out_after c =
    λ b el. let y = c.args in
    let h = admit-plain ours ours-fair _ y.x.frame.now y.x.secured y.out.now y.i y.x.fits c.requires.room _ _
    _ _ c.in_ok-length.ensures.ok_part c.unseal.ensures c.identifier.ensures b in
    search rules
