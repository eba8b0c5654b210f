-- Octets 4i to 4i + 3, of which the definition calls the first 4i + 0.
use native.Mathlib.Nat.{add-zero}
use Rattle.cipher.proofs.words.word.Goals as goal

pub returns : goal.returns
returns c = simp add-zero c.word_of.ensures
