-- The loop keeps: s spells what is read on from n, and n is below 16^i, so that 16 digits stay within 64 bits.
use Rattle.std.proofs.Common.{◌≡◌, ◌<◌, ◌^◌, drop}
use Rattle.text.specs.Digits.{spelt}
use Rattle.text.proofs.hex.value.Given as goal

abbrev pub invariant-loop-c : goal.invariant-loop-c
invariant-loop-c l = (l.n < 16 ^ l.c-index) × (spelt 16 0 l.s ≡ spelt 16 l.n (drop l.c-index l.s))
