-- `eq_list` tells equal lists from all others; and a fold that gathers what is apart, without leaving early, tells the same.
-- Assumes nothing.
use mathlib.Core.Path.{◌≡◌, refl, sym, ap, ap₂, ◌∙◌}
use mathlib.Core.Bool.{Bool, true, false}
use mathlib.Core.List.{List, [], ◌∷◌}
use Prim.Native.Nat.{ℕ}
use lib.Bits.{bit_xor, bit_or, xor_self}
use lib.Dec.{eqb}
use lib.ListN.{length}
use native.Mathlib.Omega.{arith}
use Rattle.std.proofs.Common.{fold, zip}
use borrow.Author.Tests.{eqb-true, eq-eqb}
use Rattle.octets.proofs.Choices.{both-assoc, both_true}
use Rattle.octets.proofs.Xor.{xor-zero, or-zero}
use Rattle.octets.specs.Choice.{both}
use Rattle.octets.specs.Lists.{eq_list}

pub same_self : (a : List ℕ) → eq_list a a ≡ true
same_self [] = refl
same_self (x ∷ a) = rw (eq-eqb x x refl) (same_self a)

pub same-equal : (a b : List ℕ) → eq_list a b ≡ true → a ≡ b
same-equal [] [] e = refl
same-equal [] (y ∷ b) e = let z : ◌≡◌ {A = Bool} false true = e in cc
same-equal (x ∷ a) [] e = let z : ◌≡◌ {A = Bool} false true = e in cc
same-equal (x ∷ a) (y ∷ b) e = go (same-equal a b) (eqb x y) refl e
  where
    go : (eq_list a b ≡ true → a ≡ b) → (t : Bool) → eqb x y ≡ t → both t (eq_list a b) ≡ true → x ∷ a ≡ y ∷ b
    go ih true q r = ap₂ (λ (u : ℕ) (v : List ℕ). u ∷ v) (eqb-true x y q) (ih r)
    go ih false q r = cc

pub same_length : (a b : List ℕ) → (length a ≡ length b → ⊥) → eq_list a b ≡ false
same_length a b n = go (eq_list a b) refl
  where
    go : (t : Bool) → eq_list a b ≡ t → eq_list a b ≡ false
    go true e = absurd (n (ap length (same-equal a b e)))
    go false e = e

-- no digit apart so far and none in this octet, or a digit apart
pub apart_more : (p x y : ℕ) → eqb (bit_or p (bit_xor x y)) 0 ≡ both (eqb p 0) (eqb x y)
apart_more p x y = go (eqb (bit_or p (bit_xor x y)) 0) refl (eqb p 0) refl (eqb x y) refl
  where
    go : (t : Bool) → eqb (bit_or p (bit_xor x y)) 0 ≡ t → (u : Bool) → eqb p 0 ≡ u → (v : Bool) → eqb x y ≡ v → t ≡ both u v
    go true e u f v g =
        let z = or-zero p (bit_xor x y) (eqb-true _ _ e) in
        sym (ap₂ both (sym f ∙ eq-eqb p 0 z.0) (sym g ∙ eq-eqb x y (xor-zero x y z.1)))
    go false e true f true g = sym e ∙ eq-eqb _ _ (joined (eqb-true p 0 f) (eqb-true x y g))
      where
        joined : p ≡ 0 → x ≡ y → bit_or p (bit_xor x y) ≡ 0
        joined m n = ap₂ (λ (a b : ℕ). bit_or a (bit_xor x b)) m (sym n) ∙ ap (bit_or 0) (xor_self x)
    go false e true f false g = refl
    go false e false f v g = refl

-- what a fold over the pairs gathers: 0 just where nothing was apart before and nothing is in the lists
pub gathered : (p : ℕ) (a b : List ℕ) → length a ≡ length b
    → eqb (fold (λ (q : ℕ) (o : ℕ × ℕ). bit_or q (bit_xor o.0 o.1)) p (zip a b)) 0 ≡ both (eqb p 0) (eq_list a b)
gathered p [] [] e = sym (both_true (eqb p 0))
gathered p [] (y ∷ b) e = absurd (omega (arith, e))
gathered p (x ∷ a) [] e = absurd (omega (arith, e))
gathered p (x ∷ a) (y ∷ b) e =
    gathered (bit_or p (bit_xor x y)) a b (omega (arith, e))
    ∙ ap (λ (t : Bool). both t (eq_list a b)) (apart_more p x y)
    ∙ both-assoc (eqb p 0) (eqb x y) (eq_list a b)
