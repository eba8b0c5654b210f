-- What does not fit 32 bits is above every limit; and reading on never makes it less.
use Rattle.std.proofs.Common.{◌≡◌, ℕ, ◌+◌, Bool, true, false, if◌then◌else◌, leb, Some, None, drop, refl, sym, ◌∙◌, ap, arith}
use Rattle.std.specs.Bool.{then_some}
use Rattle.text.specs.Decimal.{at_most}
use Rattle.text.specs.Digits.{spelt}
use Rattle.text.proofs.Decimals.{too_many}
use Rattle.text.proofs.Reading.{spelt-more, spelt-end, spelt-above}
use Rattle.text.proofs.decimal.value.Goals as goal

chosen : (t : Bool) (n : ℕ) → then_some t n ≡ (if t then Some n else None)
chosen true n = refl
chosen false n = refl

pub returns-in_err-checked_mul : goal.returns-in_err-checked_mul
returns-in_err-checked_mul c =
    let x = c.args in
    let l = c.loop-c in
    let above = spelt-above x.s.now l.c-index l.n (omega arith) in
    c.from_residual.ensures ∙ sym (too_many x.most (spelt 10 0 x.s.now) (omega (arith, c.in_err-checked_mul.ensures, above)))

pub returns-in_err-n : goal.returns-in_err-n
returns-in_err-n c =
    let x = c.args in
    let l = c.loop-c in
    let above = spelt-above x.s.now l.c-index l.n (omega arith) in
    c.from_residual-in_err-n.ensures
    ∙ sym (too_many x.most (spelt 10 0 x.s.now) (omega (arith, c.in_err-n.ensures, c.in_ok-checked_mul.ensures, above)))

pub loop-c-preserved : goal.loop-c-preserved
loop-c-preserved c =
    let x = c.args in
    let l = c.loop-c in
    l.invariant ∙ spelt-more 10 x.s.now l.c-index l.n (omega arith)
    ∙ ap (λ n. spelt 10 n (drop (l.c-index + 1) x.s.now)) (omega (arith, c.in_ok-n.ensures, c.in_ok-checked_mul.ensures))

pub returns : goal.returns
unfolding at_most
returns c =
    let x = c.args in
    let l = c.loop-c in
    c.then_some.ensures ∙ chosen (leb l.n x.most) l.n
    ∙ ap (at_most x.most) (sym (l.invariant ∙ spelt-end 10 x.s.now l.c-index l.n (omega arith)))
