-- The word that is spread over the key is the one that `turned_word` made of the same key.
use Rattle.cipher.specs.Aes.{next_key}
use Rattle.cipher.proofs.aes.Tables.next_key.Goals as goal

pub returns : goal.returns
unfolding next_key
returns c = cc
