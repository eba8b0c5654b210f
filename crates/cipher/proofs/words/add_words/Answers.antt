-- Words are added octet by octet.
use mathlib.Core.Path.{ap, ◌∙◌}
use lib.Bits.{bit_xor}
use Rattle.std.proofs.Common.{rules}
use Rattle.octets.specs.Lists.{at}
use Rattle.cipher.specs.Code.{block_of}
use Rattle.cipher.proofs.Lanes.{blocks-added}
use Rattle.cipher.proofs.Made.{made}
use Rattle.cipher.proofs.words.add_words.Goals as goal

pub returns : goal.returns
returns c =
    let x = c.args in
    ap block_of (made _ (λ i. bit_xor (at x.a i) (at x.b i)) _ (λ i y q k. search rules) _ _ c.from_fn.ensures.items)
    ∙ blocks-added x.a x.b
