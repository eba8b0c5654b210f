-- A turn passes a TLV, or finds that its value is cut off; in the end nothing is left, or a single octet, which is no TLV.
use Rattle.std.proofs.Common.{ap, sym, ◌∙◌, arith, length, length-take, length-drop}
use Rattle.std.proofs.lemmas.Bool.{eqb-true, eqb-false}
use Rattle.std.proofs.lemmas.Slice.{between_to_end}
use Rattle.std.specs.Option.{option_or}
use Rattle.tlvs.proofs.Walks.{walk-from, walk-bare, walk-cut, walk-next, walk-done}
use Rattle.tlvs.proofs.walk.Goals as goal

pub loop-rest-init : goal.loop-rest-init
loop-rest-init c = (omega arith, walk-from c.args.w c.args.s.now)

pub returns-then-tail-size : goal.returns-then-tail-size
returns-then-tail-size c =
    let l = c.loop-rest in
    let rest = l.rest.now in
    walk-cut _ _ l.seen rest l.invariant.1 _ (between_to_end rest 2 (length rest) (omega arith)) _
    c.in-len2-up.len_at_least c.value_size-size.ensures.0 c.if-tail-size.true

pub loop-rest-preserved : goal.loop-rest-preserved
loop-rest-preserved c =
    let l = c.loop-rest in
    let rest = l.rest.now in
    let n = c.value_size-size.result in (
      simp (length-take, length-drop) (omega (arith, l.invariant.0)),
      walk-next _ _ l.seen rest l.invariant.1 _ (between_to_end rest 2 (length rest) (omega arith)) n
          c.in-len2-up.len_at_least c.value_size-size.ensures.0 c.or-seen.result _
          (c.or-seen.ensures ∙ ap (option_or l.seen) (rw c.is_wanted.ensures at c.then_some-hit.ensures))
          (between_to_end _ n _ (omega arith)) l.invariant.0 c.if-tail-size.false,
    )

pub returns-then-is_empty : goal.returns-then-is_empty
returns-then-is_empty c =
    let l = c.loop-rest in
    walk-done _ _ l.seen l.rest.now l.invariant.1 (eqb-true _ _ (sym c.is_empty.ensures ∙ c.if-is_empty.true))

pub returns-else-is_empty : goal.returns-else-is_empty
returns-else-is_empty c =
    let l = c.loop-rest in
    walk-bare _ _ l.seen l.rest.now l.invariant.1 c.in_default.len_below
    (eqb-false _ _ (sym c.is_empty.ensures ∙ c.if-is_empty.false))
