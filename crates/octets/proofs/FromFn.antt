-- An array that `array::from_fn` makes: where the closure acts as h and stays as it was, the array has h's first values.
-- Assumes nothing.
use Rattle.std.proofs.Common.{◌≡◌, ℕ, zero, suc, ◌+◌, ◌<◌, List, get_or, refl, sym, ◌∙◌, subst, add-zero, zero-add, arith}
use Rattle.std.proofs.Math.Nat.{not-suc-le-zero}
use Rattle.std.proofs.Math.Seq.{ext_get_or}
use Rattle.std.specs.Array.{IsFromFnResult, IsFromFnResultFrom}
use Rattle.std.specs.Fn.{Called}
use denote.Param.Members.{Mut}
use Rattle.octets.proofs.Tabs.{length-tab, get_or-tab}
use Rattle.octets.specs.Lists.{tab}

module _ {F : Type 0} (g : Mut F (ℕ × Unit {0}) ℕ) (f : F) (h : ℕ → ℕ) (ys : List ℕ)
    (acts : (i y : ℕ) (q : F) → Called g f (i, tt) y q → (q ≡ f) × (y ≡ h i)) where
  each : (i n : ℕ) (q : F) → q ≡ f → IsFromFnResultFrom g q ys i n → (k : ℕ) → k < n → get_or ys (i + k) 0 ≡ h (i + k)
  each i zero q e w k l = absurd (not-suc-le-zero l)
  each i (suc n) q e w zero l =
      let here = acts i w.1 w.0 (subst (λ p. Called g p (i, tt) w.1 w.0) e w.3) in
      rw add-zero (w.2.1 0 ∙ here.1)
  each i (suc n) q e w (suc k) l =
      let here = acts i w.1 w.0 (subst (λ p. Called g p (i, tt) w.1 w.0) e w.3) in
      let next : i + suc k ≡ i + 1 + k = omega arith in
      rw next (each (i + 1) n w.0 here.0 w.4 k (omega (arith, l)))

  pub made : (n : ℕ) → IsFromFnResult g f ys n → ys ≡ tab n h
  made n w =
      ext_get_or 0 ys (tab n h) (w.long ∙ sym (length-tab n h))
      (λ k l.
      let m : k < n = omega (arith, l, w.long) in
      simp zero-add at (each 0 n f refl w.each k m) ∙ sym (get_or-tab n h k 0 m))
