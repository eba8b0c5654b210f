-- The limit of 256 octets is the definition's; where nothing went before d, what `hash_from` pads is the plain padding.
use borrow.Author.Tests.{le-leb}
use Rattle.octets.proofs.Choices.{tests}
use Rattle.cipher.specs.Answers.{hashing}
use Rattle.cipher.specs.Hash.{hash_of}
use Rattle.cipher.proofs.Pads.{pad-none}
use Rattle.cipher.proofs.hash.Goals as goal

pub returns-then-input-gt256 : goal.returns-then-input-gt256
unfolding hashing
returns-then-input-gt256 c = search tests

pub returns : goal.returns
unfolding hashing hash_of
returns c = simp (le-leb _ _ c.if-input-gt256.false, c.hash_from.ensures, pad-none c.args.input.now)
