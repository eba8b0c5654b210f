-- The loop keeps: the words s are the state after as many rounds as it took keys, from the block with the first key added.
use mathlib.Core.Path.{◌≡◌}
use Rattle.cipher.specs.Aes.{rounds}
use Rattle.cipher.specs.Code.{block_of}
use Rattle.cipher.proofs.aes.Keyed.encipher.Given as goal

abbrev pub invariant-loop-k : goal.invariant-loop-k
invariant-loop-k l = block_of l.s ≡ rounds l.self.keys (block_of l.initial.s) l.k-index
