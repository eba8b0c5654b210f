-- The loop keeps: k is round key i, and keys holds the round keys up to i. Entry i of the constants makes the next one.
use mathlib.Core.Path.{◌≡◌}
use mathlib.Core.List.{[]}
use Prim.Native.Nat.{◌+◌}
use Rattle.octets.proofs.Filled.{Filled}
use Rattle.cipher.specs.Aes.{key_at}
use Rattle.cipher.proofs.aes.Tables.expand.Given as goal

abbrev pub invariant-loop-i : goal.invariant-loop-i
invariant-loop-i l = (l.k ≡ key_at l.initial.k l.i) × Filled 11 [] (key_at l.initial.k) (l.i + 1) l.keys
