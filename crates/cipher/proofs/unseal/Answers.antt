-- The returns are the tests of `opening`, in its order. An allowed tag has at most 16 octets, so 128 + m does not overflow.
use mathlib.Core.Path.{◌≡◌, sym, ap, ◌∙◌}
use Prim.Native.Nat.{ℕ}
use native.Mathlib.Omega.{arith}
use borrow.Author.Tests.{le-leb, lt-leb}
use Rattle.std.proofs.Common.{rules, Result, Err}
use Rattle.cipher.specs.declared.Fault.{Fault}
use Rattle.cipher.specs.Answers.{product, counted, opening}
use Rattle.cipher.specs.Aes.{aes128}
use Rattle.cipher.proofs.Opens.{tag-most}
use Rattle.cipher.proofs.Refusals.{passed, not-opened}
use Rattle.cipher.proofs.unseal.Goals as goal

pub returns-in_err-judged : goal.returns-in_err-judged
returns-in_err-judged c =
    let x = c.args in
    let e : c.from_residual.result ≡ Err c.in_err-judged.field-0.0 = search rules in
    ap (λ (r : Result ℕ Fault). product (counted r) x.out.now) e
    ∙ not-opened x.tag x.authenticated.now x.key x.nonce x.sealed.now x.out.now _
    (sym c.judged.ensures ∙ c.in_err-judged.was)

pub overflow_add-tag : goal.overflow_add-tag
overflow_add-tag c =
    let h = tag-most _ (passed _ _ (sym c.judged.ensures ∙ c.in_ok-judged.was)).0 in
    omega arith

pub returns-then-tag-sealed : goal.returns-then-tag-sealed
unfolding opening
returns-then-tag-sealed c =
    let p = passed _ _ (sym c.judged.ensures ∙ c.in_ok-judged.was) in
    simp (p.0, p.1, lt-leb _ _ c.if-tag-sealed.true)

pub returns-then-sealed-tag : goal.returns-then-sealed-tag
unfolding opening
returns-then-sealed-tag c =
    let p = passed _ _ (sym c.judged.ensures ∙ c.in_ok-judged.was) in
    simp (p.0, p.1, le-leb _ _ c.if-tag-sealed.false, lt-leb _ _ c.if-sealed-tag.true)

pub returns-then-out-sealed : goal.returns-then-out-sealed
unfolding opening
returns-then-out-sealed c =
    let p = passed _ _ (sym c.judged.ensures ∙ c.in_ok-judged.was) in
    simp (
      p.0,
      p.1,
      le-leb _ _ c.if-tag-sealed.false,
      le-leb _ _ c.if-sealed-tag.false,
      lt-leb _ _ c.if-out-sealed.true,
    )

pub invariant_of-ccm : goal.invariant_of-ccm
invariant_of-ccm c = record { short = tag-most _ (passed _ _ (sym c.judged.ensures ∙ c.in_ok-judged.was)).0 }

pub returns : goal.returns
unfolding opening aes128
returns c =
    let p = passed _ _ (sym c.judged.ensures ∙ c.in_ok-judged.was) in
    simp (
      p.0,
      p.1,
      le-leb _ _ c.if-tag-sealed.false,
      le-leb _ _ c.if-sealed-tag.false,
      le-leb _ _ c.if-out-sealed.false,
      ← c.expand.ensures,
    )
    c.open.ensures
