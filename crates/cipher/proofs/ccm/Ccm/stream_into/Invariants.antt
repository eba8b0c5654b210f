-- The loop keeps: the first 16n octets of d, or all, stand enciphered in front of what out had, and the rest of d is left.
use mathlib.Core.Path.{◌≡◌}
use Prim.Native.Nat.{◌*◌, min}
use lib.ListN.{length, drop}
use Rattle.std.specs.Iterator.Adapters.{enumerate_source, enumerate_count}
use Rattle.std.specs.Slice.Iter.{chunks_rest, chunks_size}
use Rattle.cipher.specs.Aes.{cipher}
use Rattle.cipher.proofs.Streams.{up_to}
use Rattle.cipher.proofs.ccm.Ccm.stream_into.Given as goal

abbrev pub invariant-loop-i : goal.invariant-loop-i
invariant-loop-i l =
    let n = enumerate_count l.i-iterator in
    (chunks_size (enumerate_source l.i-iterator) ≡ 16)
    × (chunks_rest (enumerate_source l.i-iterator) ≡ drop (16 * n) l.d)
    × (l.out ≡ up_to (cipher l.self.key.keys) l.self.nonce l.d l.initial.out (min (16 * n) (length l.d)))
