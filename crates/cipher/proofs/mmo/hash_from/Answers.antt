use mathlib.Core.Path.{ap₂, ◌≡◌, refl, sym, ap, ◌∙◌}
use Prim.Native.Nat.{◌+◌, ◌*◌}
use native.Mathlib.Omega.{arith}
use lib.ListN.{drop}
use Rattle.std.proofs.Common.{rules}
use Rattle.cipher.specs.Blocks.{blocks, over}
use Rattle.cipher.specs.Code.{padded_after}
use Rattle.cipher.specs.Hash.{hashed_in}
use Rattle.cipher.proofs.Chains.{over-next, over-end}
use Rattle.cipher.proofs.Pads.{pad-length}
use Rattle.cipher.proofs.mmo.hash_from.Goals as goal

pub loop-i-init : goal.loop-i-init
loop-i-init c = (search rules, search rules, refl)

pub loop-i-preserved : goal.loop-i-preserved
loop-i-preserved c =
    let x = c.args in
    let l = c.loop-i in
    let p = padded_after x.b x.d.now in
    let e : 16 * l.i + 16 ≡ 16 * (l.i + 1) = omega arith in
    let h = c.hash_in-next.ensures ∙ ap (hashed_in l.x) c.padded_block_from.ensures in (
      search rules,
      search rules,
      l.invariant.2 ∙ over-next hashed_in l.x p (16 * l.i) (omega (arith, pad-length x.b x.d.now))
          ∙ ap₂ (λ y k. over hashed_in y (blocks (drop k p))) (sym h) e,
    )

pub returns : goal.returns
returns c =
    let x = c.args in
    let l = c.loop-i in
    sym (l.invariant.2 ∙ over-end hashed_in l.x (padded_after x.b x.d.now) (16 * l.i) (omega (arith, pad-length x.b x.d.now)))
