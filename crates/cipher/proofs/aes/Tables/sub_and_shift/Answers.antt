-- The two steps, of the octets of the state.
use Rattle.cipher.proofs.aes.Tables.sub_and_shift.Goals as goal

pub returns : goal.returns
returns c = cc
