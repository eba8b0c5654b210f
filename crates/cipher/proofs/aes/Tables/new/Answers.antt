-- The S-box has the octets that the definition's table has in hex; the first constant is 1, each other twice the one before.
use mathlib.Core.Path.{refl}
use Rattle.cipher.specs.Aes.{rcon}
use Rattle.cipher.specs.Sbox.{sbox_table}
use Rattle.cipher.proofs.aes.Tables.new.Goals as goal

pub invariant_of-result : goal.invariant_of-result
unfolding sbox_table rcon
invariant_of-result c = record { substituting = refl; doubling = refl }
