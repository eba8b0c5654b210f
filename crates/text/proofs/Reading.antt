-- Laws of reading a list of digits from the front: a turn of the loop that does it, and its end.
-- Assumes nothing.
use mathlib.Core.Path.{◌≡◌, refl, ap, ◌∙◌}
use mathlib.Core.Bool.{Bool, true, false}
use mathlib.Core.List.{List, [], ◌∷◌}
use Prim.Native.Nat.{ℕ, zero, suc, ◌+◌, ◌*◌, ◌≤◌, ◌<◌}
use native.Mathlib.Nat.{le_of_suc-le-suc, not-suc-le-zero}
use native.Mathlib.Omega.{arith}
use lib.Dec.{ltb}
use Rattle.std.proofs.Common.{◌&&◌}
use Rattle.std.specs.List.{list_all}
use lib.ListN.{length, get_or, drop, drop_of_length-le}
use borrow.Author.Tests.{ltb-true}
use Rattle.octets.proofs.Tabs.{drop-step}
use Rattle.octets.specs.Choice.{both}
use Rattle.text.specs.Digits.{digit_of, all_digits, spelt}

and-both : (t u : Bool) → (t && u) ≡ both t u
and-both true u = refl
and-both false u = refl

-- a test of each digit, by itself
pub all-digits : (b : ℕ) (l : List ℕ) → list_all (λ c. ltb (digit_of c) b) l ≡ all_digits b l
unfolding all_digits
all-digits b [] = refl
all-digits b (c ∷ l) =
    and-both (ltb (digit_of c) b) (list_all (λ d. ltb (digit_of d) b) l) ∙ ap (both (ltb (digit_of c) b)) (all-digits b l)

module _ (b : ℕ) (l : List ℕ) (i : ℕ) where
  pub spelt-more : (n : ℕ) → i < length l → spelt b n (drop i l) ≡ spelt b (n * b + digit_of (get_or l i 0)) (drop (i + 1) l)
  unfolding spelt
  spelt-more n h = rw (drop-step l i h)

  pub spelt-end : (n : ℕ) → length l ≤ i → spelt b n (drop i l) ≡ n
  unfolding spelt
  spelt-end n h = rw (drop_of_length-le l h)

-- a digit of a list that has only digits
pub digit_at : (b : ℕ) (l : List ℕ) (i : ℕ) → all_digits b l ≡ true → i < length l → digit_of (get_or l i 0) < b
unfolding all_digits
digit_at b [] i e h = absurd (not-suc-le-zero h)
digit_at b (c ∷ l) i e h = go (ltb (digit_of c) b) refl e i h (digit_at b l)
  where
    go : (t : Bool) → ltb (digit_of c) b ≡ t → both t (all_digits b l) ≡ true → (i : ℕ) → i < length (c ∷ l)
        → ((i : ℕ) → all_digits b l ≡ true → i < length l → digit_of (get_or l i 0) < b) → digit_of (get_or (c ∷ l) i 0) < b
    go true p q zero h r = ltb-true (digit_of c) b p
    go true p q (suc i) h r = r i q (le_of_suc-le-suc h)
    go false p q i h r = let z : ◌≡◌ {A = Bool} false true = q in let n : ◌≡◌ {A = ℕ} 0 1 = cc in absurd (omega arith)

-- reading on never makes a decimal smaller
pub spelt-low : (l : List ℕ) (n : ℕ) → n ≤ spelt 10 n l
unfolding spelt
spelt-low [] n = omega arith
spelt-low (c ∷ l) n = omega (arith, spelt-low l (n * 10 + digit_of c))

-- a digit more makes it no smaller than what it adds up to
pub spelt-above : (l : List ℕ) (i n : ℕ) → i < length l → n * 10 + digit_of (get_or l i 0) ≤ spelt 10 n (drop i l)
spelt-above l i n h = omega (arith, spelt-more 10 l i n h, spelt-low (drop (i + 1) l) (n * 10 + digit_of (get_or l i 0)))
