-- The calls give what `column-mixed` asks for.
use Rattle.cipher.proofs.Mixing.{column-mixed}
use Rattle.cipher.proofs.aes.mix_column.Goals as goal

pub returns : goal.returns
returns c =
    column-mixed c.args.w _ _ _ _ _ c.doubled-twice.ensures c.rot_word-2.ensures
    c.rot_word.ensures c.rot_word-third.ensures c.rot_word-3.ensures
