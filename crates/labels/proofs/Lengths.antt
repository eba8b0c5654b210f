-- A code has at most 16 octets. A text that spells octets has two digits for each, and nothing that is no digit.
-- Assumes nothing.
use mathlib.Core.Path.{◌≡◌, refl, sym, ◌∙◌}
use mathlib.Core.Bool.{Bool, true, false}
use mathlib.Core.List.{List, [], ◌∷◌}
use Prim.Native.Nat.{ℕ, ◌+◌, ◌%◌, ◌≤◌, ◌<◌}
use native.Mathlib.Omega.{arith}
use lib.Dec.{eqb}
use lib.ListN.{length}
use borrow.Author.Tests.{eqb-true}
use Rattle.std.specs.Prelude.{if◌then◌else◌}
use Rattle.octets.specs.Choice.{both}
use Rattle.octets.proofs.Choices.{both-parts}
use Rattle.text.specs.Digits.{all_digits}
use Rattle.labels.specs.declared.spelling.Next.{Next}
use Rattle.labels.specs.declared.spelling.Next.TheVariants.{Octet, Digit, Behind}
use Rattle.labels.specs.Codes.{code_length}
use Rattle.labels.specs.Reading.{separator, hex_digit, spells, digits_in}
use Rattle.labels.specs.Code.{spells_on}
use Rattle.labels.proofs.Texts.{never, digit-separator, spells-on}

pub code-most : (n : ℕ) → code_length n ≡ true → n ≤ 16
unfolding code_length
code-most n e = go (eqb n 6) refl (eqb n 8) refl (eqb n 12) refl (eqb n 16) refl e
  where
    go : (a : Bool) → eqb n 6 ≡ a → (b : Bool) → eqb n 8 ≡ b → (c : Bool) → eqb n 12 ≡ c → (d : Bool) → eqb n 16 ≡ d
        → code_length n ≡ true → n ≤ 16
    go true p b q c r d s e = omega (arith, eqb-true n 6 p)
    go false p true q c r d s e = omega (arith, eqb-true n 8 q)
    go false p false q true r d s e = omega (arith, eqb-true n 12 r)
    go false p false q false r true s e = omega (arith, eqb-true n 16 s)
    go false p false q false r false s e = never (sym (rw (p, q, r, s)) ∙ e)

pub code-over : (n : ℕ) → 16 < n → code_length n ≡ false
code-over n h = go (code_length n) refl
  where
    go : (t : Bool) → code_length n ≡ t → code_length n ≡ false
    go true e = absurd (omega (arith, code-most n e))
    go false e = e

-- how many digits are to come before the next octet, where one began
abbrev begun : Next → ℕ
begun Octet = 0
begun Digit = 1
begun Behind = 0

-- what the digits of a text have that spells on
pub record Digits (s : List ℕ) (n : Next) : Type 0 where
  pub plain : all_digits 16 (digits_in s) ≡ true
  pub pairs : length (digits_in s) % 2 ≡ begun n

-- a digit more
led : (c : ℕ) (s : List ℕ) (n m : Next) → hex_digit c ≡ true → Digits s m → begun m + begun n ≡ 1 → Digits (c ∷ s) n
unfolding digits_in all_digits hex_digit
led c s n m h w e =
    record {
      plain = rw (digit-separator c h, h) w.plain;
      pairs = rw (digit-separator c h) (omega (arith, w.pairs, e));
    }

-- a separator more
passed : (c : ℕ) (s : List ℕ) → separator c ≡ true → Digits s Octet → Digits (c ∷ s) Behind
unfolding digits_in
passed c s h w = record { plain = rw h w.plain; pairs = rw h w.pairs }

digits-on : (s : List ℕ) (n : Next) → spells_on s n ≡ true → Digits s n
unfolding spells_on digits_in all_digits
digits-on [] Octet e = never e
digits-on [] Digit e = never e
digits-on [] Behind e = record { plain = refl; pairs = refl }
digits-on (c ∷ s) Octet e = let p = both-parts (hex_digit c) (spells_on s Digit) e in led c s Octet Digit p.0 (digits-on s Digit p.1) refl
digits-on (c ∷ s) Digit e = let p = both-parts (hex_digit c) (spells_on s Behind) e in led c s Digit Behind p.0 (digits-on s Behind p.1) refl
digits-on (c ∷ s) Behind e = go (separator c) refl e (digits-on s Octet) (digits-on s Digit)
  where
    go : (t : Bool) → separator c ≡ t → (if t then spells_on s Octet else both (hex_digit c) (spells_on s Digit)) ≡ true
        → (spells_on s Octet ≡ true → Digits s Octet) → (spells_on s Digit ≡ true → Digits s Digit) → Digits (c ∷ s) Behind
    go true h q f g = passed c s h (f q)
    go false h q f g = let p = both-parts (hex_digit c) (spells_on s Digit) q in led c s Behind Digit p.0 (g p.1) refl

-- two digits for each octet, and nothing besides
pub spelt-digits : (s : List ℕ) → spells s ≡ true → Digits s Octet
spelt-digits s e = digits-on s Octet (sym (spells-on s) ∙ e)
