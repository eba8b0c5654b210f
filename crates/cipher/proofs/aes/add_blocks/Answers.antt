-- The words of both are added, and make the block.
use mathlib.Core.Path.{ap₂, ◌∙◌}
use Rattle.cipher.specs.Aes.{add_blocks}
use Rattle.cipher.proofs.aes.add_blocks.Goals as goal

pub returns : goal.returns
returns c =
    c.block_of.ensures ∙ c.add_words.ensures
    ∙ ap₂ add_blocks c.words_of.ensures c.words_of-2.ensures
