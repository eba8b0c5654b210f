-- The board's judgement refuses as the definition does; behind it the frame has what sealing asks, so that it is made.
use mathlib.Core.Path.{sym, ap, ◌∙◌}
use native.Mathlib.Omega.{arith}
use Rattle.std.proofs.lemmas.Grind.{common_steps}
use Rattle.settings.specs.Settings.{ours}
use Rattle.octets.specs.Keys.{the_key}
use Rattle.answers.specs.Numbers.{told}
use Rattle.aps.proofs.Sends.{refused-link, sent-link, sealable-aps, named-most}
use Rattle.aps.proofs.sealing.seal_under.Goals as goal

pub returns-in_err-may_send : goal.returns-in_err-may_send
returns-in_err-may_send c =
    λ b e. let y = c.args in
    let h = refused-link ours y.sending (the_key y.key) y.k y.x.frame.now y.x.header y.out.now _ (sym c.in_err-may_send.ensures) b e in
    grind (arith, common_steps)

pub returns : goal.returns
returns c =
    λ b e. let y = c.args in
    rw c.ok_or.ensures.value
    (sent-link ours y.sending (the_key y.key) y.k y.x.frame.now y.x.header y.out.now (named-most y.k c.requires.1.1)
    (sealable-aps ours y.k y.x.frame.now y.x.header c.requires.1.1 c.args.x.headed.0 c.args.x.headed.1 c.requires.0)
    c.requires.1.0 (sym c.may_send.ensures ∙ ap told c.in_ok-may_send.was) _ _ _ c.key_for-named.ensures c.seal.ensures b e)
