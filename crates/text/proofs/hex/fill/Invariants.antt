-- The loop keeps: the first i octets that s spells are at the front of out, and behind them stands what stood there.
use Rattle.std.proofs.Common.{◌≡◌, ◌++◌, take, drop}
use Rattle.text.specs.Hex.{octets_of}
use Rattle.text.proofs.hex.fill.Given as goal

abbrev pub invariant-loop-i : goal.invariant-loop-i
invariant-loop-i l = l.out ≡ take l.i (octets_of l.s) ++ drop l.i l.initial.out
