-- The limit of 240 octets is the definition's; it is below the 256 that `keyed_hash_of`, which makes the hash, asks for.
use borrow.Author.Tests.{le-leb}
use Rattle.octets.proofs.Choices.{tests}
use Rattle.cipher.specs.Answers.{keyed_hashing}
use Rattle.cipher.proofs.keyed_hash.Goals as goal

pub returns-then-input-gt240 : goal.returns-then-input-gt240
unfolding keyed_hashing
returns-then-input-gt240 c = search tests

pub returns : goal.returns
unfolding keyed_hashing
returns c = simp (le-leb _ _ c.if-input-gt240.false, c.keyed_hash_of.ensures)
