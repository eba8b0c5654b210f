use Rattle.std.proofs.Common.{◌+◌, ◌*◌, drop, sym, ◌∙◌, ap, arith}
use Rattle.text.specs.Digits.{spelt}
use Rattle.text.proofs.Hexed.{room}
use Rattle.text.proofs.Reading.{digit_at, spelt-more, spelt-end}
use Rattle.text.proofs.hex.value.Goals as goal

pub overflow_mul-n : goal.overflow_mul-n
overflow_mul-n c =
    let l = c.loop-c in
    omega (arith, (room l.n l.c-index 0 l.invariant.0 (omega arith) (omega arith)).1)

pub overflow_add-n : goal.overflow_add-n
overflow_add-n c =
    let l = c.loop-c in
    let d = digit_at 16 c.args.s.now l.c-index c.requires.s_value (omega arith) in
    omega (arith, (room l.n l.c-index c.from.result l.invariant.0 (omega (arith, d)) (omega arith)).1)

pub loop-c-preserved : goal.loop-c-preserved
loop-c-preserved c =
    let s = c.args.s.now in
    let l = c.loop-c in
    let d = digit_at 16 s l.c-index c.requires.s_value (omega arith) in (
      (room l.n l.c-index c.from.result l.invariant.0 (omega (arith, d)) (omega arith)).0,
      l.invariant.1 ∙ spelt-more 16 s l.c-index l.n (omega arith)
          ∙ ap (λ e. spelt 16 (l.n * 16 + e) (drop (l.c-index + 1) s)) (sym (c.from.ensures ∙ c.digit.ensures.0)),
    )

pub returns : goal.returns
returns c =
    let l = c.loop-c in
    sym (l.invariant.1 ∙ spelt-end 16 c.args.s.now l.c-index l.n (omega arith))
