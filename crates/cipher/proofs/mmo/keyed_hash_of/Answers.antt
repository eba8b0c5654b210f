-- The two calls are the definition's inner and outer hash; the inner one's 16 octets are within what the outer one takes.
use Rattle.cipher.specs.Hash.{keyed_hash}
use Rattle.cipher.proofs.mmo.keyed_hash_of.Goals as goal

pub returns : goal.returns
unfolding keyed_hash
returns c = cc
