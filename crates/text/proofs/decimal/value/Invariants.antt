-- The loop keeps: s spells what is read on from n at the next digit.
use Rattle.std.proofs.Common.{◌≡◌, drop}
use Rattle.text.specs.Digits.{spelt}
use Rattle.text.proofs.decimal.value.Given as goal

abbrev pub invariant-loop-c : goal.invariant-loop-c
invariant-loop-c l = spelt 10 0 l.s ≡ spelt 10 l.n (drop l.c-index l.s)
