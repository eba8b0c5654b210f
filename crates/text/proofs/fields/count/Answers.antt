use Rattle.std.proofs.Common.{◌≡◌, ◌+◌, ◌==◌, count_by, sym, ◌∙◌, ap, rules}
use Rattle.std.proofs.iter.runs.Made.{chains}
use Rattle.text.specs.Fields.{fields}
use Rattle.text.proofs.Parted.{tabs-count}
use Rattle.text.proofs.fields.count.Goals as goal

pub returns : goal.returns
unfolding fields
returns c =
    let line = c.args.line.now in
    let e : c.count.result ≡ count_by (λ x. x == 9) line = search (rules, chains) in
    ap (λ n. n + 1) (e ∙ sym (tabs-count line))
