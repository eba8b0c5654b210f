-- Laws of searches where at most one place passes, and of how many places pass.
-- Assumes nothing.
use Rattle.std.proofs.Common.{Option, Some, None}
use mathlib.Core.Path.{◌≡◌, refl, ap, ap₂, ◌∙◌}
use mathlib.Core.Logic.{◌⊎◌, inl, inr, ⊎_elim}
use mathlib.Core.Bool.{Bool, true, false, not}
use Prim.Native.Nat.{ℕ, zero, suc, ◌+◌, ◌<◌, ◌≤◌}
use native.Mathlib.Omega.{arith}
use lib.Dec.{eqb}
use borrow.Author.Tests.{eqb-true, eqb-false}
use Rattle.std.specs.Prelude.{if◌then◌else◌}
use Rattle.board.specs.Places.{first_at}
use Rattle.board.proofs.Found.{first_found, first-none}

pub clash : {A : Type 0} {t : Bool} → t ≡ true → t ≡ false → A
clash e f = let never : ◌≡◌ {A = ℕ} 0 1 = cc in absurd (omega arith)

pub not-twice : (t : Bool) → not (not t) ≡ t
not-twice true = refl
not-twice false = refl

pub same_or : (a b : ℕ) → (a ≡ b) ⊎ (a ≡ b → ⊥)
same_or a b = go (eqb a b) refl
  where
    go : (t : Bool) → eqb a b ≡ t → (a ≡ b) ⊎ (a ≡ b → ⊥)
    go true e = inl (eqb-true a b e)
    go false e = inr (eqb-false a b e)

-- ---- searches

pub first-ext : (p q : ℕ → Bool) (n i : ℕ) → ((k : ℕ) → i ≤ k → k < i + n → p k ≡ q k) → first_at p i n ≡ first_at q i n
unfolding first_at
first-ext p q zero i h = refl
first-ext p q (suc n) i h =
    ap₂ (λ (t : Bool) (r : Option ℕ). if t then Some i else r) (h i (omega arith) (omega arith))
    (first-ext p q n (i + 1) (λ k a b. h k (omega arith) (omega arith)))

pub first-only : (p : ℕ → Bool) (i n r : ℕ) → i ≤ r → r < i + n → p r ≡ true
    → ((k : ℕ) → i ≤ k → k < i + n → p k ≡ true → k ≡ r) → first_at p i n ≡ Some r
first-only p i n r a b t h = go (first_at p i n) refl
  where
    go : (x : Option ℕ) → first_at p i n ≡ x → first_at p i n ≡ Some r
    go (Some k) e = let w = first_found p n i k e in e ∙ ap Some (h k w.low w.high w.passes)
    go None e = clash t (first-none p n i e r a b)

pub first-nowhere : (p : ℕ → Bool) (n i : ℕ) → ((k : ℕ) → i ≤ k → k < i + n → p k ≡ false) → first_at p i n ≡ None
first-nowhere p n i h = go (first_at p i n) refl
  where
    go : (x : Option ℕ) → first_at p i n ≡ x → first_at p i n ≡ None
    go (Some k) e = let w = first_found p n i k e in clash w.passes (h k w.low w.high)
    go None e = e

-- ---- counts

abbrev pub bit : Bool → ℕ
bit true = 1
bit false = 0

-- how many of the n places from i on pass
abbrev pub count : (ℕ → Bool) → ℕ → ℕ → ℕ
count p i zero = 0
count p i (suc n) = bit (p i) + count p (i + 1) n

pub bit-most : (t : Bool) → bit t ≤ 1
bit-most true = omega arith
bit-most false = omega arith

pub count_most : (p : ℕ → Bool) (n i : ℕ) → count p i n ≤ n
count_most p zero i = omega arith
count_most p (suc n) i = omega (arith, bit-most (p i), count_most p n (i + 1))

pub count-ext : (p q : ℕ → Bool) (n i : ℕ) → ((k : ℕ) → i ≤ k → k < i + n → p k ≡ q k) → count p i n ≡ count q i n
count-ext p q zero i h = refl
count-ext p q (suc n) i h =
    ap₂ (λ (t : Bool) (c : ℕ). bit t + c) (h i (omega arith) (omega arith))
    (count-ext p q n (i + 1) (λ k a b. h k (omega arith) (omega arith)))

pub count_none : (p : ℕ → Bool) (n i : ℕ) → ((k : ℕ) → i ≤ k → k < i + n → p k ≡ false) → count p i n ≡ 0
count_none p zero i h = refl
count_none p (suc n) i h =
    omega (arith, ap bit (h i (omega arith) (omega arith)), count_none p n (i + 1) (λ k a b. h k (omega arith) (omega arith)))

pub count-all : (p : ℕ → Bool) (n i : ℕ) → ((k : ℕ) → i ≤ k → k < i + n → p k ≡ true) → count p i n ≡ n
count-all p zero i h = refl
count-all p (suc n) i h =
    omega (arith, ap bit (h i (omega arith) (omega arith)), count-all p n (i + 1) (λ k a b. h k (omega arith) (omega arith)))

-- the tests differ at most at place r
pub count-change : (p q : ℕ → Bool) (r n i : ℕ) → i ≤ r → r < i + n
    → ((k : ℕ) → i ≤ k → k < i + n → (k ≡ r → ⊥) → p k ≡ q k) → count q i n + bit (p r) ≡ count p i n + bit (q r)
count-change p q r zero i a b h = absurd (omega arith)
count-change p q r (suc n) i a b h = ⊎_elim here (λ ne. there ne (count-change p q r n (i + 1))) (same_or i r)
  where
    here : i ≡ r → bit (q i) + count q (i + 1) n + bit (p r) ≡ bit (p i) + count p (i + 1) n + bit (q r)
    here e =
        omega (
          arith,
          ap (λ (k : ℕ). bit (p k)) e,
          ap (λ (k : ℕ). bit (q k)) e,
          count-ext p q n (i + 1) (λ k a b. h k (omega arith) (omega arith) (λ f. absurd (omega arith))),
        )

    there : (i ≡ r → ⊥)
        → (i + 1 ≤ r → r < i + 1 + n → ((k : ℕ) → i + 1 ≤ k → k < i + 1 + n → (k ≡ r → ⊥) → p k ≡ q k)
        → count q (i + 1) n + bit (p r) ≡ count p (i + 1) n + bit (q r))
        → bit (q i) + count q (i + 1) n + bit (p r) ≡ bit (p i) + count p (i + 1) n + bit (q r)
    there ne ih =
        omega (
          arith,
          ap bit (h i (omega arith) (omega arith) ne),
          ih (omega arith) (omega arith) (λ k a b. h k (omega arith) (omega arith)),
        )

-- one that does not pass
pub count_less : (p : ℕ → Bool) (r n i : ℕ) → i ≤ r → r < i + n → p r ≡ false → count p i n < n
count_less p r zero i a b e = absurd (omega arith)
count_less p r (suc n) i a b e = ⊎_elim here (λ ne. there ne (λ c d. count_less p r n (i + 1) c d e)) (same_or i r)
  where
    here : i ≡ r → bit (p i) + count p (i + 1) n < suc n
    here f = omega (arith, ap (λ (k : ℕ). bit (p k)) f, ap bit e, count_most p n (i + 1))

    there : (i ≡ r → ⊥) → (i + 1 ≤ r → r < i + 1 + n → count p (i + 1) n < n) → bit (p i) + count p (i + 1) n < suc n
    there ne ih = omega (arith, bit-most (p i), ih (omega arith) (omega arith))
