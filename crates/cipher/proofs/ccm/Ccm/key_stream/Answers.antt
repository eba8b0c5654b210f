-- What is enciphered is the counter block Ai: flags 1, which is L - 1, nonce and i.
use Rattle.cipher.specs.Ccm.{key_stream}
use Rattle.cipher.proofs.ccm.Ccm.key_stream.Goals as goal

pub returns : goal.returns
unfolding key_stream
returns c = cc
