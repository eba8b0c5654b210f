-- The loop keeps: the whole text spells just where what is left of it spells on.
use mathlib.Core.Path.{◌≡◌}
use lib.ListN.{drop}
use Rattle.labels.specs.Reading.{spells}
use Rattle.labels.specs.Code.{spells_on}
use Rattle.labels.proofs.spelling.spells.Given as goal

abbrev pub invariant-loop-c : goal.invariant-loop-c
invariant-loop-c l = spells l.s ≡ spells_on (drop l.c-index l.s) l.next
