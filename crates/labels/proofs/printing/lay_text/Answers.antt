use mathlib.Core.Path.{◌≡◌, refl, ap, ◌∙◌}
use mathlib.Core.List.{List, ◌++◌}
use Prim.Native.Nat.{ℕ, ◌-◌, ◌*◌}
use native.Mathlib.Omega.{arith}
use lib.ListN.{length, drop, set}
use lib.Seq.{take-length}
use Rattle.labels.specs.Spelling.{in_print}
use Rattle.labels.specs.Printing.{as_printed}
use Rattle.labels.proofs.Prints.{length-print, laid, space-laid, digits-laid}
use Rattle.labels.proofs.printing.lay_text.Goals as goal
use Rattle.labels.proofs.printing.lay_text.Goals.{then-k-gt0, else-k-gt0}

pub loop-k-preserved : goal.loop-k-preserved
loop-k-preserved c =
    let s = c.args.s.now in
    let o = c.args.out.now in
    let l = c.loop-k in
    let room = c.requires in
    let spaced : c.if-k-gt0.out ≡ laid s o (3 * l.k) = elim c.if-k-gt0.branch [
      | then-k-gt0 w ↦
          w.out-is ∙ ap (λ (m : List ℕ). set m (3 * l.k - 1) 0x20) l.invariant
          ∙ space-laid s o l.k c.loop-k-test.true room w.if-k-gt0.true
      | else-k-gt0 w ↦ let n : 3 * l.k - 1 ≡ 3 * l.k = omega (arith, w.if-k-gt0.false) in w.out-is ∙ l.invariant ∙ ap (laid s o) n
    ] in
    digits-laid s o l.k c.loop-k-test.true room _ _ _ _ spaced c.capital.ensures c.capital-in-loop-k.ensures refl

pub returns : goal.returns
returns c =
    let l = c.loop-k in
    let o = c.args.out.now in
    let t = in_print as_printed c.args.s.now in
    let n : 3 * l.k - 1 ≡ length t = omega (arith, length-print c.args.s.now) in
    l.invariant ∙ ap (laid c.args.s.now o) n ∙ ap (λ f. f ++ drop (length t) o) (take-length t)
