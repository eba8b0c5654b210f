-- A slot that was found is one of the two.
use mathlib.Core.Path.{sym, ◌∙◌}
use Prim.Native.Nat.{◌<◌}
use native.Mathlib.Omega.{arith}
use Rattle.board.proofs.Found.{slot-place}
use Rattle.network.specs.Opening.{opened_keyed}
use Rattle.network.proofs.opening.open_keyed.Goals as goal
use Rattle.network.proofs.opening.open_keyed.Goals.{In_ok-i}

there : (c : In_ok-i) → c.in_ok-i.i < 2
there c = slot-place _ _ _ (sym c.slot_of.ensures ∙ c.in_ok-i.ensures.ok_part)

pub offset_bounds-slots-i : goal.offset_bounds-slots-i
offset_bounds-slots-i c = let h = there (goal.at.offset_bounds-slots-i c).In_ok-i in omega arith

pub bounds-slots-i : goal.bounds-slots-i
bounds-slots-i c = there (goal.at.bounds-slots-i c).In_ok-i

pub open_under-requires-clause-slot : goal.open_under-requires-clause-slot
open_under-requires-clause-slot c = there (goal.at.open_under-requires-clause-slot c).In_ok-i

pub returns : goal.returns
unfolding opened_keyed
returns c = simp (sym c.slot_of.ensures ∙ c.in_ok-i.ensures.ok_part) c.open_under.ensures
