-- What was lent is the S-box, and every octet is a place of its 256.
use mathlib.Core.Path.{ap}
use lib.ListN.{get_or}
use Rattle.cipher.specs.Sbox.{sbox}
use Rattle.cipher.proofs.aes.Tables.sub_byte.Goals as goal

pub returns : goal.returns
unfolding sbox
returns c = rw c.from.ensures (ap (λ l. get_or l c.args.x 0) c.args.self.now.substituting)
