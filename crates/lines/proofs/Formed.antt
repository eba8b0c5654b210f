-- Laws of judging a line by its form: how many rows a table has, and where what is found stands.
-- Assumes nothing.
use Rattle.std.proofs.Common.{◌≡◌, ℕ, zero, suc, ◌+◌, ◌/◌, ◌≤◌, Bool, true, false, not, eqb, List, [], ◌∷◌, length, refl, zero-add, arith, unwrap_or, Some, None, leb, leb-false}
use Rattle.std.specs.List.{find, position, range_with_len}
use Rattle.std.specs.Prelude.{if◌then◌else◌}
use Rattle.std.proofs.lemmas.List.Sums.{prefix_len-le-length}
use Rattle.text.specs.Fields.{tabs, fields}
use Rattle.lines.specs.Forms.{among, place_of}

-- no more tabs than octets
pub tabs-fit : (l : List ℕ) → tabs l ≤ length l
unfolding tabs
tabs-fit [] = omega arith
tabs-fit (x ∷ l) = go (eqb x 9) (tabs-fit l)
  where
    go : (t : Bool) → tabs l ≤ length l → (if t then suc (tabs l) else tabs l) ≤ suc (length l)
    go true h = omega arith
    go false h = omega arith

-- no more rows than octets
pub rows_fit : (t : List ℕ) → fields t / 2 ≤ length t
unfolding fields
rows_fit t = omega (arith, tabs-fit t)

-- a row that is found is one of them
found-from : (p : ℕ → Bool) (a n : ℕ) → unwrap_or (find p (range_with_len a n)) (a + n) ≤ a + n
found-from p a zero = omega arith
found-from p a (suc n) = let next : a + 1 + n ≡ a + suc n = omega arith in go (p a) (rw next at (found-from p (a + 1) n))
  where
    go : (t : Bool) → unwrap_or (find p (range_with_len (a + 1) n)) (a + suc n) ≤ a + suc n
        → unwrap_or (if t then Some a else find p (range_with_len (a + 1) n)) (a + suc n) ≤ a + suc n
    go true h = omega arith
    go false h = h

pub found-within : (p : ℕ → Bool) (n : ℕ) → unwrap_or (find p (range_with_len 0 n)) n ≤ n
found-within p n = simp zero-add at (found-from p 0 n)

-- the place that is found, or the one behind all of them
pub place_is : (f s : List ℕ) → unwrap_or (position (λ x. among x s) f) (length f) ≡ place_of f s
place_is f s = go (leb (suc (place_of f s)) (length f)) refl
  where
    go : (t : Bool) → leb (suc (place_of f s)) (length f) ≡ t
        → unwrap_or (if t then Some (place_of f s) else None) (length f) ≡ place_of f s
    go true e = refl
    go false e = omega (arith, leb-false (suc (place_of f s)) (length f) e, prefix_len-le-length (λ x. not (among x s)) f)
