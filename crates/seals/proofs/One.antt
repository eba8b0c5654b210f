-- An answer of unsealing or sealing is known by what it tells: contracts that speak of lengths and of 01's numbers leave one.
-- Assumes nothing.
use Prim.Native.Nat.{ℕ}
use Rattle.std.proofs.Common.{Option, Some, None}
use mathlib.Core.Path.{◌≡◌, refl, sym, ap, ◌∙◌}
use Rattle.cipher.specs.Answers.{Count, made, refused}
use Rattle.seals.specs.Sealing.{told_unsealed, told_enclosed}

unsealed_of : Count → Option ℕ
unsealed_of (made n) = Some n
unsealed_of (refused n) = None

unsealed-back : (r : Option ℕ) → unsealed_of (told_unsealed r) ≡ r
unfolding unsealed_of
unsealed-back (Some n) = refl
unsealed-back None = refl

pub unsealed-one : (r s : Option ℕ) → told_unsealed r ≡ told_unsealed s → r ≡ s
unsealed-one r s e = sym (unsealed-back r) ∙ ap unsealed_of e ∙ unsealed-back s

enclosed_of : Count → Option ℕ
enclosed_of (made n) = Some n
enclosed_of (refused n) = None

enclosed-back : (r : Option ℕ) → enclosed_of (told_enclosed r) ≡ r
unfolding enclosed_of
enclosed-back (Some n) = refl
enclosed-back None = refl

pub enclosed-one : (r s : Option ℕ) → told_enclosed r ≡ told_enclosed s → r ≡ s
enclosed-one r s e = sym (enclosed-back r) ∙ ap enclosed_of e ∙ enclosed-back s
