-- The words of the key are added to those of the state.
use mathlib.Core.Path.{ap, ◌∙◌}
use Rattle.cipher.specs.Aes.{add_blocks, add_round_key}
use Rattle.cipher.specs.Code.{block_of}
use Rattle.cipher.proofs.aes.add_round_key.Goals as goal

pub returns : goal.returns
unfolding add_round_key
returns c = c.add_words.ensures ∙ ap (add_blocks (block_of c.args.s)) c.words_of.ensures
