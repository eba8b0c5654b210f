-- Octets 13, 14, 15 and 12 are the last word turned by one place; behind its first octet the constant adds only zeros.
use mathlib.Core.Path.{◌∙◌}
use lib.Bits.{xor_zero_r}
use Rattle.cipher.specs.Aes.{turned_word}
use Rattle.cipher.proofs.aes.Tables.turned_word.Goals as goal

pub returns : goal.returns
unfolding turned_word
returns c =
    c.word_of.ensures
    ∙ simp (
      c.sub_byte-v.ensures,
      c.sub_byte-z.ensures,
      c.sub_byte-y.ensures,
      c.sub_byte-x.ensures,
      xor_zero_r,
    )
