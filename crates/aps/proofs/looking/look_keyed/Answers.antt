-- An entry that was found is one of the eight.
use mathlib.Core.Path.{sym}
use native.Mathlib.Omega.{arith}
use Rattle.board.proofs.Found.{link-place}
use Rattle.aps.specs.Opening.{looked_keyed}
use Rattle.aps.proofs.looking.look_keyed.Goals as goal

pub offset_bounds-links-i : goal.offset_bounds-links-i
offset_bounds-links-i c = omega (arith, link-place _ _ _ (sym c.in-Some.ensures))

pub bounds-links-i : goal.bounds-links-i
bounds-links-i c = link-place _ _ _ (sym c.in-Some.ensures)

pub returns-in-Some : goal.returns-in-Some
unfolding looked_keyed
returns-in-Some c = simp (sym c.in-Some.ensures, ← c.key_named.ensures) c.look.ensures
