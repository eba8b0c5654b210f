-- Each octet of the block is what one call of `padded_octet` answered.
use Prim.Native.Nat.{◌+◌}
use Rattle.std.proofs.Common.{rules}
use Rattle.octets.specs.Lists.{at}
use Rattle.cipher.specs.Blocks.{block_from}
use Rattle.cipher.specs.Code.{padded_after}
use Rattle.cipher.proofs.Made.{made}
use Rattle.cipher.proofs.mmo.padded_block_from.Goals as goal

pub returns : goal.returns
unfolding block_from
returns c =
    let x = c.args in
    made _ (λ j. at (padded_after x.b x.d.now) (x.i + j)) _ (λ j y q k. search rules) _ _ c.from_fn.ensures.items
