-- A turn passes the next tab, where there is one; where there is none, nothing is behind, whatever k asks for.
use Rattle.std.proofs.Common.{◌≡◌, ℕ, ◌+◌, ◌-◌, List, [], length, take, drop, sym, ◌∙◌, ap, arith}
use Rattle.std.proofs.Math.ListN.{drop_of_length-le, length-drop, length-take}
use Rattle.std.proofs.lemmas.Slice.{between_to_end}
use Rattle.text.specs.Fields.{until, behind}
use Rattle.text.proofs.Parted.{after-tab, after_none, behind_more, behind-none}
use Rattle.text.proofs.fields.behind.Goals as goal

-- the next tab, from a place on
next : (l : List ℕ) (i t : ℕ) → t ≡ length (until (take (length l - i) (drop i l))) → i + t ≡ i + length (until (drop i l))
next l i t e =
    ap (λ (n : ℕ). i + n) (e ∙ ap (λ (m : List ℕ). length (until m)) (between_to_end l i (length l) (omega arith)))

pub returns-then-end-line : goal.returns-then-end-line
returns-then-end-line c =
    let line = c.args.line.now in
    let l = c.loop in
    let end = l.at + c.tab.result in
    let none : drop end line ≡ [] = drop_of_length-le line (omega arith) in
    let left = c.args.k - l.counter in (
      omega arith,
      none
          ∙ sym (l.invariant.1
          ∙ behind_more (drop l.at line) (drop end line) left (omega arith)
          (after_none line l.at end (next line l.at c.tab.result c.tab.ensures.place) (omega arith))
          ∙ ap (behind (left - 1)) none ∙ behind-none (left - 1)),
    )

pub loop-preserved : goal.loop-preserved
loop-preserved c =
    let line = c.args.line.now in
    let l = c.loop in
    let end = l.at + c.tab.result in
    let left = c.args.k - l.counter in
    let one : left - 1 ≡ c.args.k - (l.counter + 1) = omega arith in (
      omega (arith, simp (length-take, length-drop) at c.tab.ensures.within),
      l.invariant.1
          ∙ behind_more (drop l.at line) (drop (end + 1) line) left (omega arith)
          (after-tab line l.at end (next line l.at c.tab.result c.tab.ensures.place))
          ∙ ap (λ k. behind k (drop (end + 1) line)) one,
    )

pub returns : goal.returns
unfolding behind
returns c =
    let l = c.loop in
    let z : c.args.k - l.counter ≡ 0 = omega arith in
    (l.invariant.0, sym (l.invariant.1 ∙ ap (λ k. behind k (drop l.at c.args.line.now)) z))
