-- The definition's tests pass at each number that is listed, and at no other.
use native.Mathlib.Omega.{arith}
use Rattle.octets.proofs.Choices.{tests}
use Rattle.cipher.specs.Answers.{tag_length}
use Rattle.cipher.proofs.ccm.tag_length.Goals as goal

pub returns-in-0 : goal.returns-in-0
unfolding tag_length
returns-in-0 c = grind (arith, tests)

pub returns-in_default : goal.returns-in_default
unfolding tag_length
returns-in_default c = grind (arith, tests)
