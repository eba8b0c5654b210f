-- Each column is mixed by itself.
use mathlib.Core.Path.{◌≡◌}
use native.Mathlib.Omega.{arith}
use Rattle.std.proofs.Common.{rules}
use Rattle.octets.specs.Least.{spelled}
use Rattle.cipher.specs.Aes.{mix_columns, word}
use Rattle.cipher.specs.Code.{mixed_column}
use Rattle.cipher.proofs.Lanes.{append-four}
use Rattle.cipher.proofs.Made.{made-at}
use Rattle.cipher.proofs.aes.mix_columns.Goals as goal

pub returns : goal.returns
unfolding mix_columns mixed_column
returns c =
    let column
    = made-at _ (λ i y. spelled 4 y ≡ mixed_column (word c.args.s i)) _ (λ i y q k. search rules) _ _ c.from_fn.ensures.items in
    append-four (column 0 (omega arith)) (column 1 (omega arith)) (column 2 (omega arith)) (column 3 (omega arith))
