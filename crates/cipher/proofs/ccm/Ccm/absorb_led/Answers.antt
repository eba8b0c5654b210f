-- The first block of L(a) || a has the count and 14 octets of a, so the others are the blocks of a from place 14 on.
use mathlib.Core.Path.{sym, ap, ◌∙◌}
use mathlib.Core.List.{List}
use Prim.Native.Nat.{ℕ}
use native.Mathlib.Omega.{arith}
use lib.ListN.{length}
use borrow.Author.Tests.{eqb-true, eqb-false}
use Rattle.cipher.specs.Aes.{cipher}
use Rattle.cipher.specs.Blocks.{blocks, over}
use Rattle.cipher.specs.Ccm.{absorbed}
use Rattle.cipher.proofs.Chains.{over-empty, led-by}
use Rattle.cipher.proofs.Chunked.{slice-rest}
use Rattle.cipher.proofs.ccm.Ccm.absorb_led.Goals as goal

pub returns-then-is_empty : goal.returns-then-is_empty
returns-then-is_empty c =
    let x = c.args in
    let none = eqb-true (length x.a.now) 0 (sym c.is_empty.ensures ∙ c.if-is_empty.true) in
    sym (over-empty (absorbed (cipher x.self.now.key.keys)) x.x x.a.now none)

pub returns : goal.returns
returns c =
    let x = c.args in
    let f = absorbed (cipher x.self.now.key.keys) in
    let some = eqb-false (length x.a.now) 0 (sym c.is_empty.ensures ∙ c.if-is_empty.false) in
    led-by f x.x x.a.now _ _ c.absorb-y.result _ (omega (arith, some)) c.zero_padded.ensures
    c.lead_block.ensures c.absorb-y.ensures
    (c.absorb_each.ensures ∙ ap (λ (l : List ℕ). over f c.absorb-y.result (blocks l)) (slice-rest x.a.now 14 _ c.min.ensures))
