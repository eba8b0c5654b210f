use mathlib.Core.Path.{sym, ap, ◌∙◌}
use lib.Bits.{bit_xor}
use Rattle.std.proofs.Common.{rules}
use Rattle.std.proofs.lemmas.Iterator.{YieldsList-from_slice}
use Rattle.std.proofs.lemmas.Iterator.Consumers.{fold_from_yields_List}
use Rattle.labels.specs.Crc.{ones, taken_in, crc}
use Rattle.labels.proofs.Crcs.{register-fold}
use Rattle.labels.proofs.crc.crc_of.Goals as goal

pub returns : goal.returns
unfolding crc
returns c =
    let s = c.args.s.now in
    ap (λ x. bit_xor x ones)
    (fold_from_yields_List _ taken_in ones _ c.fold.ensures.ran (YieldsList-from_slice s (cc)) (λ a x b q k. search rules)
    ∙ sym (register-fold ones s))
