-- Each octet is the sum at its place.
use lib.Bits.{bit_xor}
use Rattle.std.proofs.Common.{rules}
use Rattle.octets.specs.Lists.{at}
use Rattle.cipher.proofs.Made.{made}
use Rattle.cipher.proofs.mmo.plus_each.Goals as goal

pub returns : goal.returns
returns c =
    let x = c.args in
    made _ (λ i. bit_xor (at x.k i) x.x) _ (λ i y q k. search rules) _ _ c.from_fn.ensures.items
