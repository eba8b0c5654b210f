-- What `judged` refuses, sealing and opening refuse first; what it passes has an allowed tag and few enough octets.
-- Assumes nothing.
use mathlib.Core.Path.{◌≡◌, refl}
use mathlib.Core.Bool.{Bool, true, false}
use mathlib.Core.List.{List}
use Prim.Native.Nat.{ℕ}
use native.Mathlib.Omega.{arith}
use lib.Dec.{leb}
use lib.ListN.{length}
use Rattle.std.specs.Prelude.{if◌then◌else◌, Result, Ok, Err}
use Rattle.cipher.specs.declared.Fault.{Fault}
use Rattle.cipher.specs.declared.Fault.TheVariants.{Long, Argument}
use Rattle.cipher.specs.Code.{judged}
use Rattle.cipher.specs.Answers.{number, refused, product, tag_length, most, sealing, opening}

judged_by : Bool → Bool → Result (Unit {0}) Fault
judged_by t u = if t then (if u then Ok tt else Err Long) else Err Argument

module _ (M : ℕ) (a : List ℕ) where
  pub passed : judged M a ≡ Ok tt → (tag_length M ≡ true) × (leb (length a) most ≡ true)
  unfolding judged_by
  passed e = go (tag_length M) (leb (length a) most) refl refl e
    where
      go : (t u : Bool) → tag_length M ≡ t → leb (length a) most ≡ u → judged_by t u ≡ Ok tt
          → (tag_length M ≡ true) × (leb (length a) most ≡ true)
      go true true p q r = (p, q)
      go true false p q r = let z : ◌≡◌ {A = ℕ} 0 1 = cc in absurd (omega arith)
      go false u p q r = let z : ◌≡◌ {A = ℕ} 0 1 = cc in absurd (omega arith)

  module _ (k n m o : List ℕ) (f : Fault) (e : judged M a ≡ Err f) where
    pub not-sealed : product (refused (number f)) o ≡ sealing M k n a m o
    unfolding sealing judged_by
    not-sealed = go (tag_length M) (leb (length a) most) refl refl e
      where
        go : (t u : Bool) → tag_length M ≡ t → leb (length a) most ≡ u → judged_by t u ≡ Err f
            → product (refused (number f)) o ≡ sealing M k n a m o
        go true true p q r = let z : ◌≡◌ {A = ℕ} 0 1 = cc in absurd (omega arith)
        go true false p q r = let g : Long ≡ f = cc in rw (p, q, ← g) refl
        go false u p q r = let g : Argument ≡ f = cc in rw (p, ← g) refl

    pub not-opened : product (refused (number f)) o ≡ opening M k n a m o
    unfolding opening judged_by
    not-opened = go (tag_length M) (leb (length a) most) refl refl e
      where
        go : (t u : Bool) → tag_length M ≡ t → leb (length a) most ≡ u → judged_by t u ≡ Err f
            → product (refused (number f)) o ≡ opening M k n a m o
        go true true p q r = let z : ◌≡◌ {A = ℕ} 0 1 = cc in absurd (omega arith)
        go true false p q r = let g : Long ≡ f = cc in rw (p, q, ← g) refl
        go false u p q r = let g : Argument ≡ f = cc in rw (p, ← g) refl
