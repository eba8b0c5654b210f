use Rattle.std.proofs.Common.{◌==◌, unwrap_or, ◌∙◌, ap, rules, length}
use Rattle.std.proofs.lemmas.Iterator.{YieldsList-from_slice}
use Rattle.std.proofs.lemmas.Iterator.Search.{position_from_yields_List}
use Rattle.text.proofs.Parted.{first-tab}
use Rattle.text.proofs.fields.tab.Goals as goal

pub returns-clause-place : goal.returns-clause-place
returns-clause-place c =
    let s = c.args.s.now in
    c.unwrap_or.ensures
    ∙ ap (λ p. unwrap_or p (length s))
    (position_from_yields_List (λ x. x == 9) _ _ c.position.result c.position.ensures.ran (YieldsList-from_slice s cc)
    (λ x b q k. search rules))
    ∙ first-tab s
