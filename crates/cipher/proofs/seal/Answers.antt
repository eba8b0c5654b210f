-- The returns are the tests of `sealing`, in its order. An allowed tag has at most 16 octets, so no sum overflows.
use mathlib.Core.Path.{◌≡◌, sym, ap, ◌∙◌}
use Prim.Native.Nat.{ℕ}
use native.Mathlib.Omega.{arith}
use borrow.Author.Tests.{le-leb, lt-leb}
use Rattle.std.proofs.Common.{rules, Result, Err}
use Rattle.cipher.specs.declared.Fault.{Fault}
use Rattle.cipher.specs.Answers.{product, counted, sealing}
use Rattle.cipher.specs.Aes.{aes128}
use Rattle.cipher.proofs.Opens.{tag-most}
use Rattle.cipher.proofs.Refusals.{passed, not-sealed}
use Rattle.cipher.proofs.seal.Goals as goal

pub returns-in_err-judged : goal.returns-in_err-judged
returns-in_err-judged c =
    let x = c.args in
    let e : c.from_residual.result ≡ Err c.in_err-judged.field-0.0 = search rules in
    ap (λ (r : Result ℕ Fault). product (counted r) x.out.now) e
    ∙ not-sealed x.tag x.authenticated.now x.key x.nonce x.payload.now x.out.now _
    (sym c.judged.ensures ∙ c.in_err-judged.was)

pub returns-then-payload-gt128 : goal.returns-then-payload-gt128
unfolding sealing
returns-then-payload-gt128 c =
    let p = passed _ _ (sym c.judged.ensures ∙ c.in_ok-judged.was) in
    simp (p.0, p.1, lt-leb _ _ c.if-payload-gt128.true)

pub overflow_add-payload : goal.overflow_add-payload
overflow_add-payload c =
    let h = tag-most _ (passed _ _ (sym c.judged.ensures ∙ c.in_ok-judged.was)).0 in
    omega arith

pub returns-then-out-payload : goal.returns-then-out-payload
unfolding sealing
returns-then-out-payload c =
    let p = passed _ _ (sym c.judged.ensures ∙ c.in_ok-judged.was) in
    simp (p.0, p.1, le-leb _ _ c.if-payload-gt128.false, lt-leb _ _ c.if-out-payload.true)

pub invariant_of-ccm : goal.invariant_of-ccm
invariant_of-ccm c = record { short = tag-most _ (passed _ _ (sym c.judged.ensures ∙ c.in_ok-judged.was)).0 }

pub returns : goal.returns
unfolding sealing aes128
returns c =
    let p = passed _ _ (sym c.judged.ensures ∙ c.in_ok-judged.was) in
    simp (
      p.0,
      p.1,
      le-leb _ _ c.if-payload-gt128.false,
      le-leb _ _ c.if-out-payload.false,
      c.seal.ensures,
      c.expand.ensures,
    )
