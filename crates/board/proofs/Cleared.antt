-- Laws of freeing rows.
-- Assumes nothing.
use mathlib.Core.Path.{◌≡◌, sym, ap, ◌∙◌}
use mathlib.Core.List.{List}
use Prim.Native.Nat.{ℕ, ◌+◌, ◌-◌, ◌<◌, ◌≤◌, min}
use native.Mathlib.Nat.{le_refl}
use native.Mathlib.Omega.{arith}
use lib.ListN.{length, drop, set, replicate, length-replicate, get_or-replicate}
use lib.Seq.{paste, length-paste}
use borrow.Rule.Slice.PartMut.{mid_of, put_mid}
use Rattle.std.proofs.lemmas.List.{length-take, length-drop}
use Rattle.std.proofs.lemmas.Slice.{put_mid-paste}
use Rattle.octets.proofs.Pasted.{paste_more}
use Rattle.board.specs.Rows.{freed}

module _ (l : List ℕ) (i n : ℕ) (h : i + n ≤ length l) where
  -- the first j of the rows are free
  abbrev pub zeroed : ℕ → List ℕ
  zeroed j = paste l i (replicate n 0) j

  pub zeroed-more : (j : ℕ) → j < n → set (zeroed j) (i + j) 0 ≡ zeroed (j + 1)
  zeroed-more j k =
      ap (set (zeroed j) (i + j)) (sym (get_or-replicate n j 0 0 k))
      ∙ paste_more l i (replicate n 0) j (omega arith) (rw (length-replicate {A = ℕ} n 0) k)

  pub zeroed-all : zeroed n ≡ freed l i n
  unfolding freed
  zeroed-all = let e : min n (length l - i) ≡ n = omega arith in sym (ap (λ (m : ℕ). paste l i (replicate m 0) m) e)

-- the n rows of a list from i on, written over by as many zeros
pub filled : (l y : List ℕ) (i n : ℕ) → i + n ≤ length l → y ≡ replicate (length (mid_of i (i + n - i) l)) 0
    → put_mid i (i + n - i) l y ≡ freed l i n
unfolding freed
filled l y i n h e =
    let m = min n (length l - i) in
    let k = i + n - i in
    let same : min k (length l - i) ≡ m = omega arith in
    let long : length (mid_of i k l) ≡ m = length-take k (drop i l) ∙ ap (min k) (length-drop i l) ∙ same in
    put_mid-paste i k l y (replicate m 0) m (e ∙ ap (λ (j : ℕ). replicate j 0) long) (omega arith) (sym (length-replicate m 0))

pub freed-length : (l : List ℕ) (i n : ℕ) → i + n ≤ length l → length (freed l i n) ≡ length l
unfolding freed
freed-length l i n h =
    let e : min n (length l - i) ≡ n = omega arith in
    ap (λ (m : ℕ). length (paste l i (replicate m 0) m)) e
    ∙ length-paste l i (replicate n 0) n h (rw (length-replicate {A = ℕ} n 0) (le_refl n))
