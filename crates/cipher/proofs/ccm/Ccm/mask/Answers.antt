-- What is added to t is S0, the key stream's block 0.
use Rattle.cipher.proofs.ccm.Ccm.mask.Goals as goal

pub returns : goal.returns
returns c = cc
