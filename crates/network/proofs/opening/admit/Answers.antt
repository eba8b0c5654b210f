-- What `unseal` answers tells whether the tag fits; lists and floor change in that case alone.
use Rattle.std.proofs.Common.{Some, rules}
use Rattle.settings.specs.Settings.{ours}
use Rattle.octets.specs.Keys.{the_key}
use Rattle.seals.proofs.Fairly.{ours-fair}
use Rattle.network.specs.Opening.{lent}
use Rattle.network.proofs.Admission.{admit-plain, admit-forged}
use Rattle.network.proofs.opening.admit.Goals as goal

pub returns-in_err-length : goal.returns-in_err-length
returns-in_err-length c =
    let y = c.args in
    let w = lent y.addrs.now y.floors.now y.out.now in
    let h = admit-forged ours (the_key y.key) y.x.frame.now y.x.secured ours-fair w c.args.x.fits c.requires.room _ (Some y.r) _
    c.in_err-length.ensures.ok_part c.unseal-plain.ensures in
    search rules

pub returns : goal.returns
returns c =
    let y = c.args in
    let w = lent y.addrs.now y.floors.now y.out.now in
    admit-plain ours (the_key y.key) y.x.frame.now y.x.secured ours-fair w c.args.x.fits c.requires.room _
    c.in_ok-length.length y.r _ c.in_ok-length.ensures.ok_part c.unseal-plain.ensures
