-- A field stands in what is left of the line behind k tabs, up to the next tab there or to the end.
use Rattle.std.proofs.Common.{length, refl, ◌∙◌, rules, arith}
use Rattle.std.proofs.lemmas.Slice.{between_to_end}
use Rattle.octets.proofs.Parts.{same-part}
use Rattle.text.proofs.Parted.{field-from, field_is}
use Rattle.text.proofs.fields.field.Goals as goal

pub returns : goal.returns
returns c =
    let line = c.args.line.now in
    let k = c.args.k in
    let from = c.behind.result in
    let w = c.behind.ensures in
    same-part refl (rw (← field-from line k from w.0 w.1) (search rules))
    (field_is line _ k c.tab.result (between_to_end line from (length line) (omega arith) ∙ w.1) c.tab.ensures.place)
