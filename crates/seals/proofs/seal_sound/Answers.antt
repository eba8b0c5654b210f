-- Both headers are laid before the cipher writes behind them, so what it authenticates is taken from what is sent; it never refuses.
use mathlib.Core.Path.{refl, sym, ◌∙◌}
use native.Mathlib.Omega.{arith}
use lib.ListN.{replicate}
use Rattle.settings.specs.Settings.{ours, longest}
use Rattle.octets.specs.Keys.{the_key}
use Rattle.cipher.proofs.Told.{ok-was, err-was}
use Rattle.seals.proofs.Fairly.{ours-fair}
use Rattle.seals.proofs.Securing.{Secures, sealable-tells, sealed-by, after-length, after-made, after-not}
use Rattle.seals.proofs.seal_sound.Goals as goal
use Rattle.seals.proofs.seal_sound.Goals.{After-seal_body}

there : (c : After-seal_body)
    → Secures ours (the_key c.args.key) c.args.l c.args.aux.identifier c.args.aux.counter c.args.aux.sender c.args.aux.sequence
    c.args.f.now c.args.h c.args.out.now c.sent_octets.result c.seal_body.result c.seal_body.new.out
there c =
    let y = c.args in
    sealed-by ours (the_key y.key) y.l y.aux.identifier y.aux.counter y.aux.sender y.aux.sequence y.f.now y.h y.out.now
    c.requires.0 (sealable-tells ours _ _ _ c.requires.1.0) c.requires.1.1 ours-fair (replicate longest 0)
    c.sent_octets.ensures.0 c.lay_secured_header.ensures
    c.lay_auxiliary.ensures refl c.lay_authenticated.ensures
    c.wire_control.ensures c.nonce-nonce.ensures c.seal_body.ensures.out_after c.seal_body.ensures.out_unchanged

pub overflow_add-result : goal.overflow_add-result
overflow_add-result c =
    let at = goal.at.overflow_add-result c in
    let t = sealable-tells ours _ _ _ c.requires.1.0 in
    let made = ok-was _ _ (sym c.ok.ensures.value ∙ c.in_ok-m.was) in
    omega (arith, after-length (there at.After-seal_body) c.in_ok-m.m made, (there at.After-seal_body).wide)

pub returns-in_err-m : goal.returns-in_err-m
returns-in_err-m c =
    let at = goal.at.returns-in_err-m c in
    after-not (there at.After-seal_body) _ (err-was _ (sym c.ok.ensures.value ∙ c.in_err-m.was)).1

pub returns : goal.returns
returns c =
    let at = goal.at.returns c in
    after-made (there at.After-seal_body) c.in_ok-m.m (ok-was _ _ (sym c.ok.ensures.value ∙ c.in_ok-m.was))
