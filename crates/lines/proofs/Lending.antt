-- The lesser of what is lent and what is there, and the part that has so many.
-- Assumes nothing.
use Rattle.std.proofs.Common.{◌≡◌, ℕ, ◌≤◌, min, List, length, take, arith, length-take}

pub lends : (n r : ℕ) (l : List ℕ) → r ≡ min n (length l) → (r ≡ min n (length l)) × ((r ≤ length l) × (r ≡ length (take r l)))
lends n r l e = (e, (omega arith, simp length-take (omega arith)))
