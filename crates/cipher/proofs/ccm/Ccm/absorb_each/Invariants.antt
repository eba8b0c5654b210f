-- The loop keeps: the chain from y over the blocks that are left ends as the whole one does.
use mathlib.Core.Path.{◌≡◌}
use Rattle.std.specs.Slice.Iter.{chunks_rest, chunks_size}
use Rattle.cipher.specs.Aes.{cipher}
use Rattle.cipher.specs.Blocks.{blocks, over}
use Rattle.cipher.specs.Ccm.{absorbed}
use Rattle.cipher.proofs.ccm.Ccm.absorb_each.Given as goal

abbrev pub invariant-loop-chunk : goal.invariant-loop-chunk
invariant-loop-chunk l =
    (chunks_size l.chunk-iterator ≡ 16)
    × (over (absorbed (cipher l.self.key.keys)) l.initial.y (blocks l.d)
    ≡ over (absorbed (cipher l.self.key.keys)) l.y (blocks (chunks_rest l.chunk-iterator)))
