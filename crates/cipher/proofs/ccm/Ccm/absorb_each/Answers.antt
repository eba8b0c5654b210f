use mathlib.Core.Path.{sym, ap, ◌∙◌}
use mathlib.Core.List.{List}
use Prim.Native.Nat.{ℕ, min}
use native.Mathlib.Omega.{arith}
use lib.ListN.{length}
use Rattle.std.specs.Slice.Iter.{chunks_rest}
use Rattle.cipher.specs.Aes.{cipher}
use Rattle.cipher.specs.Blocks.{blocks, over}
use Rattle.cipher.specs.Ccm.{absorbed}
use Rattle.cipher.proofs.Chains.{over-end}
use Rattle.cipher.proofs.Chunked.{over-chunk}
use Rattle.cipher.proofs.ccm.Ccm.absorb_each.Goals as goal

pub loop-chunk-preserved : goal.loop-chunk-preserved
loop-chunk-preserved c =
    let l = c.loop-chunk in
    let f = absorbed (cipher c.args.self.now.key.keys) in
    let rest = chunks_rest c.next.new.self in
    let s = c.in-Some.ensures.steps in
    let long = s.1.1 ∙ ap (λ (n : ℕ). min n (length (chunks_rest l.chunk-iterator))) l.invariant.0 in (
      s.0 ∙ l.invariant.0,
      l.invariant.1
          ∙ over-chunk _ _ rest s.1.0 long f l.y s.1.2
          ∙ ap (λ (y : List ℕ). over f y (blocks rest)) (sym (c.absorb-next.ensures ∙ ap (f l.y) c.zero_padded.ensures)),
    )

pub returns : goal.returns
returns c =
    let l = c.loop-chunk in
    let f = absorbed (cipher c.args.self.now.key.keys) in
    sym (l.invariant.1 ∙ over-end f l.y (chunks_rest l.chunk-iterator) 0 (omega (arith, c.in-None.ensures.steps.1.0)))
