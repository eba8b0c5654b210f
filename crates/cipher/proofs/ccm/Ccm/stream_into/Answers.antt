use mathlib.Core.Path.{◌≡◌, sym, ap, ◌∙◌}
use mathlib.Core.List.{List}
use Prim.Native.Nat.{ℕ, ◌+◌, ◌-◌, ◌*◌, ◌/◌, min}
use native.Mathlib.Omega.{arith}
use lib.ListN.{length, drop, length-drop}
use lib.Seq.{drop-drop}
use Rattle.std.specs.Iterator.Adapters.{enumerate_source, enumerate_count}
use Rattle.std.specs.Slice.Iter.{chunks_rest}
use Rattle.cipher.specs.Aes.{cipher}
use Rattle.cipher.specs.Blocks.{block_from}
use Rattle.cipher.specs.Ccm.{key_stream}
use Rattle.cipher.proofs.Chunked.{chunk-first, chunk-rest}
use Rattle.cipher.proofs.Parsed.{block-drop}
use Rattle.cipher.proofs.Streams.{turn, up_to, up_to-end}
use Rattle.cipher.proofs.ccm.Ccm.stream_into.Goals as goal

pub loop-i-preserved : goal.loop-i-preserved
loop-i-preserved c =
    let x = c.args in
    let l = c.loop-i in
    let E = cipher x.self.now.key.keys in
    let d = x.d.now in
    let i = c.in-Some.i in
    let s = c.in-Some.ensures.steps in
    let rest = chunks_rest (enumerate_source l.i-iterator) in
    let whole : rest ≡ drop (16 * i) d = l.invariant.1 ∙ ap (λ (n : ℕ). drop (16 * n) d) (sym s.1) in
    let left : length rest ≡ length d - 16 * i = ap length whole ∙ length-drop (16 * i) d in
    let long : length c.in-Some.chunk.now ≡ min 16 (length rest)
    = s.0.1.1 ∙ ap (λ (n : ℕ). min n (length rest)) l.invariant.0 in
    let next : 16 * i + 16 ≡ 16 * enumerate_count c.next.new.self = omega (arith, s.1, s.2) in
    let place : 16 * i + 0 ≡ 16 * i = omega arith in
    let count : i + 1 ≡ 16 * i / 16 + 1 = omega arith in (
      s.0.0 ∙ l.invariant.0,
      sym (chunk-rest _ _ _ s.0.1.0 long) ∙ ap (drop 16) whole ∙ drop-drop 16 (16 * i) d ∙ ap (λ (n : ℕ). drop n d) next,
      turn E x.self.now.nonce d x.out.now _ _ _ _ _ (16 * i) _ (omega (arith, left, s.0.1.2)) (omega arith)
          (l.invariant.2 ∙ ap (λ (n : ℕ). up_to E x.self.now.nonce d x.out.now (min (16 * n) (length d))) (sym s.1))
          (c.key_stream-s.ensures ∙ ap (key_stream E x.self.now.nonce) count)
          (c.zero_padded.ensures ∙ chunk-first _ _ _ s.0.1.0 long ∙ ap (λ (v : List ℕ). block_from v 0) whole
          ∙ block-drop d (16 * i) 0 ∙ ap (block_from d) place)
          c.add_blocks-c.ensures (long ∙ ap (min 16) left) c.put_block.ensures
          ∙ ap (λ (n : ℕ). up_to E x.self.now.nonce d x.out.now (min n (length d))) next,
    )

pub returns : goal.returns
returns c =
    let x = c.args in
    let l = c.loop-i in
    let E = cipher x.self.now.key.keys in
    let d = x.d.now in
    let n = 16 * enumerate_count l.i-iterator in
    let left : length (chunks_rest (enumerate_source l.i-iterator)) ≡ length d - n
    = ap length l.invariant.1 ∙ length-drop n d in
    let e : min n (length d) ≡ length d = omega (arith, left, c.in-None.ensures.steps.0.1.0) in
    l.invariant.2 ∙ ap (up_to E x.self.now.nonce d x.out.now) e ∙ up_to-end E x.self.now.nonce d x.out.now
