-- Each octet of the result is what one call of `sub_byte` answered.
use Rattle.std.proofs.Common.{rules}
use Rattle.octets.specs.Lists.{at}
use Rattle.cipher.specs.Sbox.{sbox}
use Rattle.cipher.specs.Aes.{sub_bytes}
use Rattle.cipher.proofs.Made.{made}
use Rattle.cipher.proofs.aes.Tables.sub_bytes.Goals as goal

pub returns : goal.returns
unfolding sub_bytes
returns c = made _ (λ i. sbox (at c.args.s i)) _ (λ i y q k. search rules) _ _ c.from_fn.ensures.items
