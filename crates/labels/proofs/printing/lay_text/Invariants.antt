-- The loop keeps: the octets so far are laid, and behind them stands what stood there.
use mathlib.Core.Path.{◌≡◌}
use Prim.Native.Nat.{◌-◌, ◌*◌}
use Rattle.labels.proofs.Prints.{laid}
use Rattle.labels.proofs.printing.lay_text.Given as goal

abbrev pub invariant-loop-k : goal.invariant-loop-k
invariant-loop-k l = l.out ≡ laid l.s l.initial.out (3 * l.k - 1)
