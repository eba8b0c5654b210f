-- The loop keeps: all that the walk finds is what was seen, or else what is found in what is left; ill there is ill in all.
use Rattle.std.proofs.Common.{◌≤◌, length}
use Rattle.tlvs.proofs.Walks.{Stands}
use Rattle.tlvs.proofs.walk.Given as goal

abbrev pub invariant-loop-rest : goal.invariant-loop-rest
invariant-loop-rest l = (length l.rest ≤ length l.s) × Stands l.w l.s l.seen l.rest

abbrev pub decreases-loop-rest : goal.decreases-loop-rest
decreases-loop-rest l = length l.rest
