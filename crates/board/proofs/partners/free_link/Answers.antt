-- `position` finds what the definition's search finds.
use Rattle.std.proofs.Common.{rules, not, ◌∙◌, tests}
use Rattle.std.proofs.lemmas.Iterator.{YieldsList-from_slice}
use Rattle.std.proofs.lemmas.Iterator.Search.{position_from_yields_List}
use Rattle.board.specs.Requests.{free_link}
use Rattle.board.proofs.Found.{first-position}
use Rattle.board.proofs.partners.free_link.Goals as goal

pub returns : goal.returns
unfolding free_link
returns c =
    position_from_yields_List (λ l. not l.present) _ _ c.position.result c.position.ensures.ran
    (YieldsList-from_slice _ c.iter.ensures.rest) (λ x b q k. search (rules, tests))
    ∙ first-position (λ l. not l.present) _ c.args.links 8 (search rules)
