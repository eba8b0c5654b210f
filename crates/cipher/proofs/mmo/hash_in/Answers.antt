-- The hash so far is the key that is expanded, and the block that it enciphers is added to the outcome.
use Rattle.cipher.specs.Aes.{aes128}
use Rattle.cipher.specs.Hash.{hashed_in}
use Rattle.cipher.proofs.mmo.hash_in.Goals as goal

pub returns : goal.returns
unfolding hashed_in aes128
returns c = cc
