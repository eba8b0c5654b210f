-- A slot that was found is one of the two.
use mathlib.Core.Path.{sym}
use native.Mathlib.Omega.{arith}
use Rattle.board.proofs.Found.{slot-place}
use Rattle.network.specs.Opening.{looked_keyed}
use Rattle.network.proofs.looking.look_keyed.Goals as goal

pub offset_bounds-slots-i : goal.offset_bounds-slots-i
offset_bounds-slots-i c = omega (arith, slot-place _ _ _ (sym c.in-Some.ensures))

pub bounds-slots-i : goal.bounds-slots-i
bounds-slots-i c = slot-place _ _ _ (sym c.in-Some.ensures)

pub returns-in-Some : goal.returns-in-Some
unfolding looked_keyed
returns-in-Some c = simp (sym c.in-Some.ensures) c.look.ensures
