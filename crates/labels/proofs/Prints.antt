-- The octets of a label in print, place by place: each has a space and two digits, but for the first, which has no space.
-- Assumes nothing.
use mathlib.Core.Path.{◌≡◌, refl, sym, ap, ap₂, ◌∙◌}
use mathlib.Core.List.{List, [], ◌∷◌, ◌++◌}
use Prim.Native.Nat.{ℕ, zero, suc, ◌+◌, ◌-◌, ◌*◌, ◌/◌, ◌%◌, ◌≤◌, ◌<◌}
use native.Mathlib.Nat.{not-suc-le-zero, le_of_suc-le-suc}
use native.Mathlib.Omega.{arith}
use lib.ListN.{length, get_or, set, take, drop, length-append}
use lib.Seq.{take_at}
use borrow.Rule.Slice.PartMut.{put_mid}
use Rattle.std.proofs.lemmas.Slice.{take-put_mid}
use Rattle.octets.specs.Least.{spelled}
use Rattle.text.proofs.Placed.{front-more}
use Rattle.labels.specs.Crc.{crc}
use Rattle.labels.specs.Codes.{with_crc}
use Rattle.labels.specs.Spelling.{capital, digit_in, behind, in_print}
use Rattle.labels.specs.Printing.{as_printed, label_text}

length-behind : (s : List ℕ) → length (behind as_printed s) ≡ 3 * length s
unfolding behind
length-behind [] = refl
length-behind (x ∷ s) = omega (arith, length-behind s)

pub length-print : (s : List ℕ) → length (in_print as_printed s) ≡ 3 * length s - 1
unfolding in_print
length-print [] = refl
length-print (x ∷ s) = omega (arith, length-behind s)

-- place j of the three of octet k
placed : (s : List ℕ) (k j x : ℕ) → k < length s → get_or (behind as_printed (get_or s k 0 ∷ [])) j 0 ≡ x → j < 3
    → get_or (behind as_printed s) (3 * k + j) 0 ≡ x
unfolding behind
placed [] k j x h e l = absurd (not-suc-le-zero h)
placed (y ∷ s) zero zero x h e l = e
placed (y ∷ s) zero (suc zero) x h e l = e
placed (y ∷ s) zero (suc (suc zero)) x h e l = e
placed (y ∷ s) zero (suc (suc (suc j))) x h e l = absurd (omega arith)
placed (y ∷ s) (suc k) j x h e l =
    let n : 3 * suc k + j ≡ suc (suc (suc (3 * k + j))) = omega arith in
    rw n (placed s k j x (le_of_suc-le-suc h) e l)

-- in front of the text, a space would make all octets alike
print-behind : (s : List ℕ) (k : ℕ) → 1 ≤ k → k < 3 * length s → get_or (in_print as_printed s) (k - 1) 0 ≡ get_or (behind as_printed s) k 0
unfolding in_print behind
print-behind [] k h l = absurd (omega arith)
print-behind (x ∷ s) zero h l = absurd (omega arith)
print-behind (x ∷ s) (suc k) h l = let e : suc k - 1 ≡ k = omega arith in rw e

-- the places of octet k: a space, but before the first, and two digits
module _ (s : List ℕ) (k : ℕ) (h : k < length s) where
  there : (j x : ℕ) → 1 ≤ 3 * k + j → j < 3 → get_or (behind as_printed (get_or s k 0 ∷ [])) j 0 ≡ x
      → get_or (in_print as_printed s) (3 * k + j - 1) 0 ≡ x
  there j x l b e = print-behind s (3 * k + j) l (omega arith) ∙ placed s k j x h e b

  space-there : 1 ≤ k → get_or (in_print as_printed s) (3 * k - 1) 0 ≡ 0x20
  unfolding behind
  space-there l = let n : 3 * k + 0 - 1 ≡ 3 * k - 1 = omega arith in rw n at (there 0 0x20 (omega arith) (omega arith) refl)

  high-there : get_or (in_print as_printed s) (3 * k) 0 ≡ digit_in capital (get_or s k 0 / 16)
  unfolding behind
  high-there = let n : 3 * k + 1 - 1 ≡ 3 * k = omega arith in rw n at (there 1 _ (omega arith) (omega arith) refl)

  low-there : get_or (in_print as_printed s) (3 * k + 1) 0 ≡ digit_in capital (get_or s k 0 % 16)
  unfolding behind
  low-there = let n : 3 * k + 2 - 1 ≡ 3 * k + 1 = omega arith in rw n at (there 2 _ (omega arith) (omega arith) refl)

-- the octets s in print, of which n places are laid at the front of what was o
abbrev pub laid : List ℕ → List ℕ → ℕ → List ℕ
laid s o n = take n (in_print as_printed s) ++ drop n o

-- octet k laid, with the space before it
module _ (s o : List ℕ) (k : ℕ) (h : k < length s) (r : 3 * length s ≤ length o + 1) where
  more : (n x : ℕ) → n < 3 * length s - 1 → get_or (in_print as_printed s) n 0 ≡ x → set (laid s o n) n x ≡ laid s o (n + 1)
  more n x l e = ap (set (laid s o n) n) (sym e) ∙ front-more o (in_print as_printed s) n (omega arith) (omega (arith, length-print s))

  pub space-laid : 1 ≤ k → set (laid s o (3 * k - 1)) (3 * k - 1) 0x20 ≡ laid s o (3 * k)
  space-laid l = let n : 3 * k - 1 + 1 ≡ 3 * k = omega arith in rw n at (more (3 * k - 1) 0x20 (omega arith) (space-there s k h l))

  pub digits-laid : (m : List ℕ) (a b i : ℕ) → m ≡ laid s o (3 * k) → a ≡ digit_in capital (get_or s k 0 / 16)
      → b ≡ digit_in capital (get_or s k 0 % 16) → i ≡ k + 1 → set (set m (3 * k) a) (3 * k + 1) b ≡ laid s o (3 * i - 1)
  digits-laid m a b i e p q w =
      let n : 3 * (k + 1) - 1 ≡ 3 * k + 1 + 1 = omega arith in
      rw (e, p, q, w, n)
      (ap (λ (l : List ℕ). set l (3 * k + 1) (digit_in capital (get_or s k 0 % 16))) (more (3 * k) _ (omega arith) (high-there s k h))
      ∙ more (3 * k + 1) _ (omega arith) (low-there s k h))

-- ---- the whole label

pub length-with : (c : List ℕ) → length (with_crc c) ≡ length c + 2
unfolding with_crc
length-with c = length-append c (spelled 2 (crc c))

-- its text has three places an octet, code and CRC, but for the first space
pub label-length : (c : List ℕ) → length (label_text c) ≡ 3 * length c + 5
unfolding label_text
label-length c = length-print (with_crc c) ∙ omega (arith, length-with c)

-- code and CRC, laid into an array one behind the other
pub whole-laid : (c b r d : List ℕ) (k : ℕ) → b ≡ c → d ≡ spelled 2 (crc c) → take (length c + 2) (put_mid (length c) k (b ++ r) d) ≡ with_crc c
unfolding with_crc
whole-laid c b r d k p q =
    let n : length b ≡ length c = ap length p in
    take-put_mid (length c) k (b ++ r) d (length c + 2) (omega (arith, ap length q)) (omega (arith, n, length-append b r))
    ∙ ap₂ (λ (x y : List ℕ). x ++ y) (take_at b r (length c) n ∙ p) q
