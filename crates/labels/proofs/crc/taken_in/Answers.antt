use mathlib.Core.Path.{refl, ap, ◌∙◌}
use lib.Bits.{bit_xor}
use Rattle.std.proofs.Common.{rules}
use Rattle.std.proofs.lemmas.Iterator.{YieldsList-from_range}
use Rattle.std.proofs.lemmas.Iterator.Consumers.{fold_from_yields_List}
use Rattle.labels.specs.Crc.{shifted, shifted_by, taken_in}
use Rattle.labels.proofs.crc.taken_in.Goals as goal

pub returns : goal.returns
unfolding taken_in shifted_by
returns c =
    fold_from_yields_List _ (λ r _. shifted r) _ _ c.fold.ensures.ran (YieldsList-from_range 0 8 8 refl refl) (λ a x b q k. search rules)
    ∙ ap (shifted_by 8) (ap (bit_xor c.args.c) c.from.ensures)
