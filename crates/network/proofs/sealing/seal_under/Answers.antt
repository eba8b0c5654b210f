-- The counter is judged before the key is used; that the frame can be sealed was judged before, so `seal` makes it.
use mathlib.Core.Path.{sym, ap, ◌∙◌}
use native.Mathlib.Omega.{arith}
use Rattle.std.proofs.lemmas.Grind.{common_steps}
use Rattle.settings.specs.Settings.{ours}
use Rattle.answers.specs.Numbers.{told}
use Rattle.seals.proofs.Fairly.{ours-fair}
use Rattle.network.proofs.Sends.{sealable-net, refused-slot, sent-slot}
use Rattle.network.proofs.sealing.seal_under.Goals as goal

pub returns-in_err-may_send : goal.returns-in_err-may_send
returns-in_err-may_send c =
    λ b e. let y = c.args in
    let h = refused-slot ours y.sending y.s y.x.frame.now y.x.header y.out.now _ (sym c.in_err-may_send.ensures) b e in
    grind (arith, common_steps)

pub returns : goal.returns
returns c =
    λ b e. let y = c.args in
    rw c.ok_or.ensures.value
    (sent-slot ours y.sending y.s y.x.frame.now y.x.header y.out.now ours-fair
    (sealable-net ours ours-fair y.x.frame.now y.x.header c.args.x.headed.0 c.args.x.headed.1 c.requires.0) c.requires.1
    (sym c.may_send.ensures ∙ ap told c.in_ok-may_send.was) _ _ c.seal.ensures b e)
