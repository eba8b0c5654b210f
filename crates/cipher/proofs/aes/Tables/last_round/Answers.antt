-- The definition's three steps, of which the last adds words.
use Rattle.cipher.specs.Aes.{last_round}
use Rattle.cipher.proofs.aes.Tables.last_round.Goals as goal

pub returns : goal.returns
unfolding last_round
returns c = cc
