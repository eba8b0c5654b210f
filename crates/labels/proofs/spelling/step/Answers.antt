-- A separator, a digit, or neither: of each the text spells on as the definition says.
use mathlib.Core.Path.{sym, ◌∙◌}
use mathlib.Core.Logic.{inl, inr}
use native.Mathlib.Omega.{arith}
use borrow.Author.Tests.{lt-ltb, le-ltb}
use Rattle.text.specs.Digits.{digit_of}
use Rattle.labels.specs.Code.{spells_on}
use Rattle.labels.specs.Reading.{hex_digit}
use Rattle.labels.proofs.Texts.{digit-separator, no-digit}
use Rattle.labels.proofs.spelling.step.Goals as goal
use Rattle.labels.proofs.spelling.step.Goals.{in_default-via-in-Behind+else-is_separator, in_default-via-in-Octet-1}

pub returns-in-Behind : goal.returns-in-Behind
unfolding spells_on
returns-in-Behind c = λ s. simp (c.in-Behind.is, sym c.is_separator.ensures ∙ c.if-is_separator.true)

pub returns-in_default : goal.returns-in_default
unfolding hex_digit
returns-in_default c =
    let no_digit = le-ltb (digit_of c.args.c) 16 (omega (arith, c.digit.ensures)) in
    λ s. elim c.in_default.branch [
      | in_default-via-in-Behind+else-is_separator w ↦ no-digit _ s _ no_digit (λ _. sym w.is_separator.ensures ∙ w.if-is_separator.false)
      | in_default-via-in-Octet-1 w ↦ no-digit _ s _ no_digit (λ e. absurd (w.in_default.not-Behind e))
    ]

pub returns-in-Octet : goal.returns-in-Octet
unfolding spells_on hex_digit
returns-in-Octet c =
    let x = lt-ltb (digit_of c.args.c) 16 (omega (arith, c.digit.ensures)) in
    λ s. elim c.in-Octet.is [
      | inl e ↦ simp (e, x)
      | inr e ↦ simp (e, digit-separator _ x, x)
    ]

pub returns-in-Digit : goal.returns-in-Digit
unfolding spells_on hex_digit
returns-in-Digit c = λ s. simp (c.in-Digit.is, lt-ltb (digit_of c.args.c) 16 (omega (arith, c.digit.ensures)))
