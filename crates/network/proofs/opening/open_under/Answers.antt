-- A row that was found is one that the lists have.
use mathlib.Core.Path.{sym}
use native.Mathlib.Omega.{arith}
use Rattle.board.proofs.Found.{row-place}
use Rattle.network.proofs.opening.open_under.Goals as goal

pub open_heard-requires-clause-r_in_bounds : goal.open_heard-requires-clause-r_in_bounds
open_heard-requires-clause-r_in_bounds c =
    let there = row-place _ _ _ _ _ (sym c.in-Some.ensures) in (there, omega (arith, there, c.requires.same_length))
