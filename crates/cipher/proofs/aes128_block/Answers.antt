-- What was lent is the S-box, and the round keys are those of the key: under them `encipher` gives the definition's block.
use Rattle.cipher.specs.Aes.{aes128}
use Rattle.cipher.proofs.aes128_block.Goals as goal

pub returns : goal.returns
unfolding aes128
returns c = cc
