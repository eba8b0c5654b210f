-- The cipher is asked what the definition asks and lays the message behind h octets; where it did, the plain header goes before.
use mathlib.Core.Path.{refl, sym, ◌∙◌}
use native.Mathlib.Omega.{arith}
use lib.ListN.{replicate}
use Rattle.settings.specs.Settings.{ours, longest}
use Rattle.octets.specs.Keys.{the_key}
use Rattle.cipher.proofs.Told.{ok-was, err-was}
use Rattle.seals.proofs.Fairly.{ours-fair}
use Rattle.seals.proofs.Opened.{sound-tells, asked, Unseals, after-length, after-made, after-not}
use Rattle.seals.proofs.unseal_sound.Goals as goal
use Rattle.seals.proofs.unseal_sound.Goals.{After-unseal_body}

there : (c : After-unseal_body)
    → Unseals ours (the_key c.args.key) c.args.f.now c.args.s c.args.out.now c.unseal_body.result c.unseal_body.new.out
there c =
    let y = c.args in
    let t = sound-tells ours _ _ c.requires.0 in
    record {
      fits = t;
      room = c.requires.1;
      outcome =
          c.unseal_body.ensures.out_after
          ∙ asked ours ours-fair (the_key y.key) y.l y.f.now y.s y.out.now t c.requires.1
          (replicate longest 0) _ _ refl
          c.lay_authenticated.ensures c.nonce-nonce.ensures;
    }

pub overflow_add-result : goal.overflow_add-result
overflow_add-result c =
    let t = sound-tells ours _ _ c.requires.0 in
    let at = goal.at.overflow_add-result c in
    let made = ok-was _ _ (sym c.ok.ensures.value ∙ c.in_ok-m.was) in
    omega (arith, after-length ours-fair (there at.After-unseal_body) c.args.l c.in_ok-m.m made)

pub returns-in_err-m : goal.returns-in_err-m
returns-in_err-m c =
    let at = goal.at.returns-in_err-m c in
    rw c.from_residual.ensures
    (after-not ours-fair (there at.After-unseal_body) c.args.l _
    (err-was _ (sym c.ok.ensures.value ∙ c.in_err-m.was)).1 c.unseal_body.ensures.out_unchanged)

pub returns : goal.returns
returns c =
    let at = goal.at.returns c in
    let made = ok-was _ _ (sym c.ok.ensures.value ∙ c.in_ok-m.was) in
    after-made ours-fair (there at.After-unseal_body) c.args.l c.in_ok-m.m _ made c.unseal_body.auto.out
    c.lay_plain_header.ensures
