-- The fewest digits that hold n, which `io::decimal` writes, are n in decimal; a number of 64 bits takes no more than 20.
use mathlib.Core.Path.{◌∙◌}
use native.Mathlib.Omega.{arith}
use Rattle.text.proofs.Decimals.{decimal-is}
use Rattle.text.proofs.decimal.put_decimal.Goals as goal

pub returns : goal.returns
returns c =
    let n = c.args.n in
    let k = c.decimal-k.result in
    let w = c.decimal-k.ensures in
    rw (w.digits ∙ decimal-is n k (omega arith) w.len) at c.put.ensures
