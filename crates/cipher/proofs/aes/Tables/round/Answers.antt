-- The calls are the definition's four steps, each taking what the one before gave.
use Rattle.cipher.specs.Aes.{round_of}
use Rattle.cipher.proofs.aes.Tables.round.Goals as goal

pub returns : goal.returns
unfolding round_of
returns c = cc
