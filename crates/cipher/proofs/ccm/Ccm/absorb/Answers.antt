-- What is enciphered is the sum of x and b that `add_blocks` answers.
use Rattle.cipher.specs.Ccm.{absorbed}
use Rattle.cipher.proofs.ccm.Ccm.absorb.Goals as goal

pub returns : goal.returns
unfolding absorbed
returns c = cc
