-- An array that `map` or `from_fn` makes by a closure that changes nothing: what holds of each call holds at each place.
-- Assumes nothing.
use mathlib.Core.Path.{◌≡◌, sym, subst, ◌∙◌}
use mathlib.Core.List.{List}
use Prim.Native.Nat.{ℕ, zero, suc, ◌+◌, ◌<◌}
use native.Mathlib.Nat.{le_of_suc-le-suc, not-suc-le-zero, zero-add, add-zero}
use native.Mathlib.Omega.{arith}
use lib.ListN.{length}
use lib.Seq.{ext_get_or}
use Rattle.std.specs.Array.{MapsFrom, IsMapOf, IsFromFnResultFrom, IsFromFnResult}
use Rattle.std.specs.Fn.{Called, Mut}
use Rattle.octets.proofs.Tabs.{length-tab, get_or-tab}
use Rattle.octets.specs.Lists.{at, tab}

-- a list of n octets, each of them the value of h at its place
pub tab-made : (n : ℕ) (ys : List ℕ) (h : ℕ → ℕ) → length ys ≡ n → ((k : ℕ) → k < n → at ys k ≡ h k) → ys ≡ tab n h
tab-made n ys h l e =
    ext_get_or 0 ys (tab n h) (l ∙ sym (length-tab n h))
    (λ k b. e k (omega (arith, l)) ∙ sym (get_or-tab n h k 0 (omega (arith, l))))

module _ {F : Type 0} (g : Mut F (ℕ × Unit {0}) ℕ) (P : ℕ → ℕ → Type 0) (f : F)
    (call : (x y : ℕ) (q : F) → Called g f (x, tt) y q → P x y × (q ≡ f)) where
  maps-from : (xs ys : List ℕ) (i n : ℕ) → MapsFrom g f xs ys i n → (k : ℕ) → k < n → P (at xs (i + k)) (at ys (i + k))
  maps-from xs ys i zero m k h = absurd (not-suc-le-zero h)
  maps-from xs ys i (suc n) m zero h = rw (add-zero i, m.3.1 0, m.4.1 0) (call m.1 m.2 m.0 m.5).0
  maps-from xs ys i (suc n) m (suc k) h =
      let rest = subst (λ p. MapsFrom g p xs ys (i + 1) n) (call m.1 m.2 m.0 m.5).1 m.6 in
      let e : i + suc k ≡ i + 1 + k = omega arith in
      rw e (maps-from xs ys (i + 1) n rest k (le_of_suc-le-suc h))

  pub mapped-at : (xs ys : List ℕ) (n : ℕ) → IsMapOf g f xs ys n → (k : ℕ) → k < n → P (at xs k) (at ys k)
  mapped-at xs ys n m k h = rw (← zero-add k) (maps-from xs ys 0 n m.each k h)

  makes-from : (ys : List ℕ) (i n : ℕ) → IsFromFnResultFrom g f ys i n → (k : ℕ) → k < n → P (i + k) (at ys (i + k))
  makes-from ys i zero m k h = absurd (not-suc-le-zero h)
  makes-from ys i (suc n) m zero h = rw (add-zero i, m.2.1 0) (call i m.1 m.0 m.3).0
  makes-from ys i (suc n) m (suc k) h =
      let rest = subst (λ p. IsFromFnResultFrom g p ys (i + 1) n) (call i m.1 m.0 m.3).1 m.4 in
      let e : i + suc k ≡ i + 1 + k = omega arith in
      rw e (makes-from ys (i + 1) n rest k (le_of_suc-le-suc h))

  pub made-at : (ys : List ℕ) (n : ℕ) → IsFromFnResult g f ys n → (k : ℕ) → k < n → P k (at ys k)
  made-at ys n m k h = rw (← zero-add k) (makes-from ys 0 n m.each k h)

module _ {F : Type 0} (g : Mut F (ℕ × Unit {0}) ℕ) (h : ℕ → ℕ) (f : F)
    (call : (x y : ℕ) (q : F) → Called g f (x, tt) y q → (y ≡ h x) × (q ≡ f)) where
  pub mapped : (xs ys : List ℕ) (n : ℕ) → IsMapOf g f xs ys n → ys ≡ tab n (λ i. h (at xs i))
  mapped xs ys n m = tab-made n ys (λ i. h (at xs i)) m.long (mapped-at g (λ x y. y ≡ h x) f call xs ys n m)

  pub made : (ys : List ℕ) (n : ℕ) → IsFromFnResult g f ys n → ys ≡ tab n h
  made ys n m = tab-made n ys h m.long (made-at g (λ x y. y ≡ h x) f call ys n m)
