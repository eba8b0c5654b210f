-- The loop keeps: the digits so far are laid, and behind them stands what stood there.
use mathlib.Core.Path.{◌≡◌}
use mathlib.Core.List.{◌++◌}
use lib.ListN.{length, take, drop}
use Rattle.labels.specs.Reading.{digits_in}
use Rattle.labels.proofs.spelling.lay_digits.Given as goal

abbrev pub invariant-loop-n : goal.invariant-loop-n
invariant-loop-n l =
    (goal.iterator-loop-n).can_next l.n-iterator × (goal.iterator-loop-n).is_finite l.n-iterator
    × (l.out ≡ take (length l.yielded) (digits_in l.s) ++ drop (length l.yielded) l.initial.out)
