-- Each word is added to the one made before it.
use mathlib.Core.Path.{refl, ◌∙◌}
use Rattle.cipher.proofs.Lanes.{append-four, spelled-sum}
use Rattle.cipher.proofs.aes.spread_word.Goals as goal

pub returns : goal.returns
returns c =
    let a = spelled-sum _ _ c.word.ensures refl in
    let b = spelled-sum _ _ c.word-2.ensures a in
    let d = spelled-sum _ _ c.word-3.ensures b in
    let e = spelled-sum _ _ c.word-4.ensures d in
    c.block_of.ensures ∙ append-four a b d e
