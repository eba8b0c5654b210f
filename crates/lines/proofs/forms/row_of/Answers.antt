-- The row that is found first, or how many there are.
use Rattle.std.proofs.Common.{◌≡◌, ◌/◌, unwrap_or, ap, ◌∙◌, arith}
use Rattle.std.specs.List.{find, range_with_len}
use Rattle.text.specs.Fields.{fields}
use Rattle.lines.specs.Forms.{is_row, row_of}
use Rattle.lines.proofs.Formed.{rows_fit, found-within}
use Rattle.lines.proofs.forms.row_of.Goals as goal

pub returns : goal.returns
returns c =
    let t = c.args.table.now in
    let is = is_row t c.args.line.now c.args.k in
    let n = c.count-n.result / 2 in
    let rows : n ≡ fields t / 2 = ap (λ m. m / 2) c.count-n.ensures in
    let found : c.unwrap_or.result ≡ unwrap_or (find is (range_with_len 0 n)) n =
    c.unwrap_or.ensures ∙ ap (λ r. unwrap_or r n) c.first_row.ensures in
    let value : c.unwrap_or.result ≡ row_of t c.args.line.now c.args.k =
    found ∙ ap (λ m. unwrap_or (find is (range_with_len 0 m)) m) rows in
    record { value = value; upper_bound = omega (arith, value, found-within is (fields t / 2), rows_fit t) }
