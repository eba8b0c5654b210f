-- The security control taken apart and put together, by shifts and masks, and what it tells of the auxiliary header.
-- Assumes nothing.
use mathlib.Core.Path.{◌≡◌, ap, ◌∙◌}
use Prim.Native.Nat.{ℕ, ◌+◌, ◌*◌, ◌/◌, ◌%◌, ◌≤◌, ◌<◌}
use native.Mathlib.Omega.{arith}
use lib.Bits.{bit_and, bit_or, and_high, or_shifted}
use borrow.Author.Tests.{eq-eqb, ne_eqb}
use Rattle.frames.specs.Security.{identifier_of, extended_of, wire_control, numbered, aux_length}

-- a level of three bits in place of the one that is there
pub level_laid : (c v : ℕ) → c < 256 → v < 8 → bit_or (bit_and c 0xf8) v ≡ c / 8 * 8 + v
level_laid c v h k = ap (λ (x : ℕ). bit_or x v) (and_high c 5 3) ∙ or_shifted (c / 8 % 32) 3 v k ∙ omega arith

pub extended-most : (c : ℕ) → extended_of c ≤ 1
unfolding extended_of
extended-most c = omega arith

pub aux-numbered : (c : ℕ) → identifier_of c ≡ 1 → aux_length c ≡ 6 + 8 * extended_of c
unfolding aux_length numbered
aux-numbered c e = rw (eq-eqb _ _ e) (omega arith)

pub aux-unnumbered : (c : ℕ) → (identifier_of c ≡ 1 → ⊥) → aux_length c ≡ 5 + 8 * extended_of c
unfolding aux_length numbered
aux-unnumbered c n = rw (ne_eqb _ _ n) (omega arith)

-- ---- as sent

module _ (k : ℕ) (h : k < 4) where
  pub wire-identifier : identifier_of (wire_control k) ≡ k
  unfolding identifier_of wire_control
  wire-identifier = omega arith

  pub wire-extended : extended_of (wire_control k) ≡ 1
  unfolding extended_of wire_control
  wire-extended = omega arith
