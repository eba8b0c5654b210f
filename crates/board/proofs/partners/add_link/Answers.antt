-- That a place found is an entry, is what a search tells of its answer.
use mathlib.Core.Path.{sym}
use native.Mathlib.Omega.{arith}
use Rattle.board.proofs.Found.{link-place, free-place}
use Rattle.board.proofs.partners.add_link.Goals as goal

pub bounds-board-i : goal.bounds-board-i
bounds-board-i c = link-place _ _ _ (sym c.in-Some.ensures)

pub with_link-requires-in-Some-free_link : goal.with_link-requires-in-Some-free_link
with_link-requires-in-Some-free_link c = free-place _ _ (sym c.in-Some-free_link.ensures)

pub offset_bounds-board-i : goal.offset_bounds-board-i
offset_bounds-board-i c = let l = link-place _ _ _ (sym c.in-Some.ensures) in record { fits = omega arith }
