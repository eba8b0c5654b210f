-- A code has at most 16 octets, so no sum overflows; code and CRC stand in the array one behind the other when they are printed.
use mathlib.Core.Path.{◌≡◌, sym, ap, ap₂, ◌∙◌}
use mathlib.Core.Bool.{true}
use mathlib.Core.List.{List, ◌++◌}
use Prim.Native.Nat.{ℕ, ◌≤◌}
use native.Mathlib.Omega.{arith}
use lib.ListN.{length, drop, replicate, length-append, length-drop}
use lib.Seq.{length-take-le}
use borrow.Author.Tests.{le-leb, lt-leb}
use Rattle.std.proofs.Common.{rules}
use Rattle.octets.specs.Lists.{onto}
use Rattle.labels.specs.Answers.{printed}
use Rattle.labels.specs.Codes.{code_length}
use Rattle.labels.specs.Spelling.{in_print}
use Rattle.labels.specs.Printing.{as_printed, label_text, printing, print_label}
use Rattle.labels.proofs.Lengths.{code-most}
use Rattle.labels.proofs.Prints.{label-length, whole-laid}
use Rattle.labels.proofs.printing.print_label.Goals as goal
use Rattle.labels.proofs.printing.print_label.Goals.{Else-not-code_length}

allowed : (c : Else-not-code_length) → code_length (length c.args.code.now) ≡ true
allowed c = sym c.code_length.ensures ∙ c.if-not-code_length.false

most : (c : Else-not-code_length) → length c.args.code.now ≤ 16
most c = code-most _ (allowed c)

pub returns-then-not-code_length : goal.returns-then-not-code_length
unfolding print_label
returns-then-not-code_length c = simp (sym c.code_length.ensures ∙ c.if-not-code_length.true)

pub overflow_mul-n : goal.overflow_mul-n
overflow_mul-n c = let n = most c in omega arith

pub overflow_add-n : goal.overflow_add-n
overflow_add-n c = let n = most c in omega arith

pub returns-then-out-n : goal.returns-then-out-n
unfolding print_label
returns-then-out-n c =
    let x = c.args in
    let t = label_text x.code.now in
    let short = lt-leb (length t) (length x.out.now) (omega (arith, label-length x.code.now, c.if-out-n.true)) in
    simp (allowed (goal.at.returns-then-out-n c).Else-not-code_length, short)

pub slice_bounds-whole-end : goal.slice_bounds-whole-end
slice_bounds-whole-end c = let n = most (goal.at.slice_bounds-whole-end c).Else-not-code_length in omega arith

pub slice_bounds-copy_from_slice-end : goal.slice_bounds-copy_from_slice-end
slice_bounds-copy_from_slice-end c =
    let n = most (goal.at.slice_bounds-copy_from_slice-end c).Else-not-code_length in
    sym (length-take-le _ (replicate 18 0) (omega arith))

pub copy_from_slice-requires : goal.copy_from_slice-requires
copy_from_slice-requires c =
    let n = most (goal.at.copy_from_slice-requires c).Else-not-code_length in
    length-take-le _ (replicate 18 0) (omega arith)

pub slice_bounds-whole-end-2 : goal.slice_bounds-whole-end-2
slice_bounds-whole-end-2 c =
    let n = most (goal.at.slice_bounds-whole-end-2 c).Else-not-code_length in
    let b = c.copy_from_slice.new.self in
    let rest : List ℕ = drop (length c.args.code.now) (replicate 18 0) in
    let long : length (b ++ rest) ≡ 18 =
    omega (arith, length-append b rest, ap length c.copy_from_slice.ensures.after, length-drop {A = ℕ} (length c.args.code.now) (replicate 18 0)) in
    search rules

pub returns : goal.returns
unfolding print_label label_text
returns c =
    let x = c.args in
    let at = goal.at.returns c in
    let long = label-length x.code.now in
    let room = le-leb (length (label_text x.code.now)) (length x.out.now) (omega (arith, long, c.if-out-n.false)) in
    let whole = whole-laid x.code.now _ _ _ _ c.copy_from_slice.ensures.after (c.copy_from_slice-2.ensures.after ∙ c.crc_octets.ensures) in
    simp (allowed at.Else-not-code_length, room)
    (ap₂ (λ (n : ℕ) (o : List ℕ). printing (printed n) o) (sym long) (c.lay_text.ensures ∙ ap (λ s. onto (in_print as_printed s) x.out.now) whole))
