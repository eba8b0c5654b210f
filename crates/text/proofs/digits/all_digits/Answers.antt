use Rattle.std.proofs.Common.{nat_lt, rules, ◌∙◌}
use Rattle.std.proofs.lemmas.Iterator.{YieldsList-from_slice}
use Rattle.std.proofs.lemmas.Iterator.Search.{all_from_yields_List}
use Rattle.text.specs.Digits.{digit_of}
use Rattle.text.proofs.Reading.{all-digits}
use Rattle.text.proofs.digits.all_digits.Goals as goal

pub returns : goal.returns
returns c =
    let x = c.args in
    all_from_yields_List (λ d. nat_lt (digit_of d) x.base) _ _ _ c.all.ensures.ran (YieldsList-from_slice x.s.now cc)
    (λ y b q k. search rules)
    ∙ all-digits x.base x.s.now
