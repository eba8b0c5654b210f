-- Numbers in octets, least octet first: how they are put together, how large they are, and that spelling loses nothing.
-- Assumes nothing.
use mathlib.Core.Path.{◌≡◌, refl, sym, ap, ap₂, ◌∙◌}
use mathlib.Core.List.{List, [], ◌∷◌, ◌++◌}
use Prim.Native.Nat.{ℕ, zero, suc, ◌+◌, ◌*◌, ◌^◌, ◌/◌, ◌%◌, ◌≤◌, ◌<◌}
use native.Mathlib.Nat.{add-zero, add_assoc, mul_assoc, pow-succ'}
use native.Mathlib.Omega.{arith}
use lib.ListN.{length, get_or-eq_default, get_or-append}
use lib.Seq.{get_or-append-add}
use Rattle.octets.proofs.AllOctets.{nil-octets, cons-octets, tail-octets, tab-octets}
use Rattle.octets.proofs.Tabs.{length-tab, tab-add, tab-ext, tab-at}
use Rattle.octets.specs.Least.{least_first, number_at, spelled}
use Rattle.octets.specs.Lists.{at, tab, Octets}

-- ---- put together

pub least-append : (s t : List ℕ) → least_first (s ++ t) ≡ least_first s + 256 ^ length s * least_first t
least-append [] t = omega arith
least-append (x ∷ s) t =
    rw (least-append s t, pow-succ' 256 (length s), mul_assoc 256 (256 ^ length s) (least_first t)) (omega arith)

pub number-add : (j k : ℕ) (s : List ℕ) (i : ℕ) → number_at (j + k) s i ≡ number_at j s i + 256 ^ j * number_at k s (i + j)
unfolding number_at
number-add j k s i =
    ap least_first (tab-add j k (λ n. at s (i + n)))
    ∙ least-append (tab j (λ n. at s (i + n))) (tab k (λ n. at s (i + (j + n))))
    ∙ ap₂ (λ (n : ℕ) (l : List ℕ). least_first (tab j (λ m. at s (i + m))) + 256 ^ n * least_first l) (length-tab j (λ n. at s (i + n)))
    (tab-ext k (λ n. at s (i + (j + n))) (λ n. at s (i + j + n)) (λ n h. ap (at s) (sym (add_assoc i j n))))

pub number-two : (s : List ℕ) (i : ℕ) → number_at 2 s i ≡ at s i + 256 * at s (i + 1)
unfolding number_at
number-two s i = rw (add-zero i) (omega arith)

-- ---- past the end, and how large

pub number-out : (k : ℕ) (s : List ℕ) (i : ℕ) → length s ≤ i → number_at k s i ≡ 0
unfolding number_at
number-out k s i h = ap least_first (tab-ext k (λ n. at s (i + n)) (λ _. 0) (λ n _. get_or-eq_default s 0 (omega arith))) ∙ zeros k
  where
    zeros : (k : ℕ) → least_first (tab k (λ _. 0)) ≡ 0
    zeros zero = refl
    zeros (suc k) = rw (zeros k) refl

pub least_lt : (s : List ℕ) → Octets s → least_first s < 256 ^ length s
least_lt [] o = omega arith
least_lt (x ∷ s) o = rw (pow-succ' 256 (length s)) (omega (arith, o.octet 0, least_lt s (tail-octets o)))

pub number_lt : (k : ℕ) (s : List ℕ) (i : ℕ) → Octets s → number_at k s i < 256 ^ k
unfolding number_at
number_lt k s i o =
    let l = least_lt (tab k (λ n. at s (i + n))) (tab-octets k (λ n. at s (i + n)) (λ n _. o.octet (i + n))) in
    rw (length-tab k (λ n. at s (i + n))) at l

-- ---- spelled and read again

pub spelled-length : (k n : ℕ) → length (spelled k n) ≡ k
spelled-length zero n = refl
spelled-length (suc k) n = ap suc (spelled-length k (n / 256))

pub spelled-octets : (k n : ℕ) → Octets (spelled k n)
spelled-octets zero n = nil-octets
spelled-octets (suc k) n = cons-octets (n % 256) (spelled k (n / 256)) (omega arith) (spelled-octets k (n / 256))

pub least-spelled : (k n : ℕ) → n < 256 ^ k → least_first (spelled k n) ≡ n
least-spelled zero n h = omega arith
least-spelled (suc k) n h =
    let l : n / 256 < 256 ^ k = omega (arith, pow-succ' 256 k) in
    rw (least-spelled k (n / 256) l) (omega arith)

-- a number that stands behind a list
pub number_behind : (k : ℕ) (p s : List ℕ) (i : ℕ) → number_at k (p ++ s) (length p + i) ≡ number_at k s i
unfolding number_at
number_behind k p s i =
    ap least_first
    (tab-ext k (λ n. at (p ++ s) (length p + i + n)) (λ n. at s (i + n))
    (λ n _. ap (at (p ++ s)) (add_assoc (length p) i n) ∙ get_or-append-add p s (i + n) 0))

-- a part of a list, read where it stands
pub number-at : (k : ℕ) (p s r : List ℕ) → length s ≡ k → number_at k (p ++ (s ++ r)) (length p) ≡ least_first s
unfolding number_at
number-at k p s r e =
    ap least_first
    (tab-ext k (λ n. at (p ++ (s ++ r)) (length p + n)) (at s)
    (λ n h. get_or-append-add p (s ++ r) n 0 ∙ get_or-append s r 0 n (rw e h))
    ∙ ap (λ m. tab m (at s)) (sym e)
    ∙ tab-at s)

pub number_spelled : (k n : ℕ) (p r : List ℕ) → n < 256 ^ k → number_at k (p ++ (spelled k n ++ r)) (length p) ≡ n
number_spelled k n p r h = number-at k p (spelled k n) r (spelled-length k n) ∙ least-spelled k n h
