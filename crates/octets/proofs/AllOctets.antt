-- Lists whose every element is an octet stay so when joined or cut; so are zeros, and what is made place by place of octets.
-- Assumes nothing.
use mathlib.Core.Path.{◌≡◌, refl}
use mathlib.Core.Bool.{Bool, true, false}
use mathlib.Core.List.{List, [], ◌∷◌, ◌++◌}
use Prim.Native.Nat.{ℕ, zero, suc, ◌+◌, ◌<◌}
use native.Mathlib.Omega.{arith}
use lib.Bits.{bit_xor, xor_lt}
use lib.Dec.{ltb}
use lib.ListN.{take, drop, replicate}
use lib.Seq.{get_or-drop}
use borrow.Author.Tests.{ltb-true, ltb-false}
use Rattle.octets.proofs.Tabs.{get_or-tab, at-tab-out}
use Rattle.octets.specs.Lists.{at, tab, Octets}

pub xor-octet : {a b : ℕ} → a < 256 → b < 256 → bit_xor a b < 256
xor-octet {a} {b} h k = xor_lt 8 a b h k

pub tab-octets : (n : ℕ) (f : ℕ → ℕ) → ((i : ℕ) → i < n → f i < 256) → Octets (tab n f)
tab-octets n f h = record { octet = λ i. go i (ltb i n) refl }
  where
    go : (i : ℕ) (t : Bool) → ltb i n ≡ t → at (tab n f) i < 256
    go i true e = let l = ltb-true i n e in rw (get_or-tab n f i 0 l) (h i l)
    go i false e = rw (at-tab-out n f i (ltb-false i n e)) (omega arith)

pub nil-octets : Octets []
nil-octets = record { octet = go }
  where
    go : (i : ℕ) → at [] i < 256
    go zero = omega arith
    go (suc i) = omega arith

pub cons-octets : (x : ℕ) (l : List ℕ) → x < 256 → Octets l → Octets (x ∷ l)
cons-octets x l h o = record { octet = go }
  where
    go : (i : ℕ) → at (x ∷ l) i < 256
    go zero = h
    go (suc i) = o.octet i

pub tail-octets : {x : ℕ} {l : List ℕ} → Octets (x ∷ l) → Octets l
tail-octets o = record { octet = λ i. o.octet (suc i) }

pub append-octets : (s t : List ℕ) → Octets s → Octets t → Octets (s ++ t)
append-octets [] t o p = p
append-octets (x ∷ s) t o p = cons-octets x (s ++ t) (o.octet 0) (append-octets s t (tail-octets o) p)

pub take-octets : (n : ℕ) (s : List ℕ) → Octets s → Octets (take n s)
take-octets zero s o = nil-octets
take-octets (suc n) [] o = nil-octets
take-octets (suc n) (x ∷ s) o = cons-octets x (take n s) (o.octet 0) (take-octets n s (tail-octets o))

pub drop-octets : (n : ℕ) (s : List ℕ) → Octets s → Octets (drop n s)
drop-octets n s o = record { octet = λ i. rw (get_or-drop n s i 0) (o.octet (n + i)) }

pub zeros-octets : (n : ℕ) → Octets (replicate n 0)
zeros-octets zero = nil-octets
zeros-octets (suc n) = cons-octets 0 (replicate n 0) (omega arith) (zeros-octets n)
