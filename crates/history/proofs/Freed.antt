-- What freeing rows leaves in each row.
-- Assumes nothing.
use mathlib.Core.Path.{◌≡◌, sym, ap, ◌∙◌}
use mathlib.Core.Logic.{⊎_elim}
use mathlib.Core.List.{List}
use Prim.Native.Nat.{ℕ, zero, suc, ◌+◌, ◌<◌, ◌≤◌}
use native.Mathlib.Numerals.{add-one}
use native.Mathlib.Omega.{arith}
use lib.ListN.{length, get_or, set, replicate, length-replicate}
use lib.Seq.{length-paste, paste-zero, get_or-set_same, get_or-set_other}
use Rattle.history.proofs.Searches.{same_or}
use Rattle.board.specs.Rows.{freed}
use Rattle.board.proofs.Cleared.{zeroed, zeroed-more, zeroed-all}

module _ (l : List ℕ) (i n : ℕ) (h : i + n ≤ length l) where
  abbrev some : ℕ → List ℕ
  some = zeroed l i n h

  some_more : (j : ℕ) → j < n → some (suc j) ≡ set (some j) (i + j) 0
  some_more j k = ap some (sym (add-one j)) ∙ sym (zeroed-more l i n h j k)

  some-length : (j : ℕ) → j ≤ n → length (some j) ≡ length l
  some-length j k = length-paste l i (replicate n 0) j (omega arith) (rw (length-replicate {A = ℕ} n 0) k)

  some_in : (j : ℕ) → j ≤ n → (k : ℕ) → i ≤ k → k < i + j → get_or (some j) k 0 ≡ 0
  some_in zero b k c d = absurd (omega arith)
  some_in (suc j) b k c d =
      ap (λ (x : List ℕ). get_or x k 0) (some_more j (omega arith))
      ∙ ⊎_elim last (λ ne. before ne (some_in j (omega arith) k)) (same_or k (i + j))
    where
      last : k ≡ i + j → get_or (set (some j) (i + j) 0) k 0 ≡ 0
      last e = rw e (get_or-set_same (some j) (i + j) 0 0 (omega (arith, some-length j (omega arith))))

      before : (k ≡ i + j → ⊥) → (i ≤ k → k < i + j → get_or (some j) k 0 ≡ 0) → get_or (set (some j) (i + j) 0) k 0 ≡ 0
      before ne ih = get_or-set_other (some j) (i + j) k 0 0 ne ∙ ih c (omega arith)

  some_out : (j : ℕ) → j ≤ n → (k : ℕ) → (i ≤ k → k < i + n → ⊥) → get_or (some j) k 0 ≡ get_or l k 0
  some_out zero b k out = sym (ap (λ (x : List ℕ). get_or x k 0) (paste-zero l i (replicate n 0)))
  some_out (suc j) b k out =
      ap (λ (x : List ℕ). get_or x k 0) (some_more j (omega arith))
      ∙ get_or-set_other (some j) (i + j) k 0 0 (λ e. out (omega arith) (omega arith))
      ∙ some_out j (omega arith) k out

  pub freed-in : (k : ℕ) → i ≤ k → k < i + n → get_or (freed l i n) k 0 ≡ 0
  freed-in k c d = ap (λ (x : List ℕ). get_or x k 0) (sym (zeroed-all l i n h)) ∙ some_in n (omega arith) k c d

  pub freed-out : (k : ℕ) → (i ≤ k → k < i + n → ⊥) → get_or (freed l i n) k 0 ≡ get_or l k 0
  freed-out k out = ap (λ (x : List ℕ). get_or x k 0) (sym (zeroed-all l i n h)) ∙ some_out n (omega arith) k out
