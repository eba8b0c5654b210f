-- `position` finds what the definition's search finds.
use Rattle.std.proofs.Common.{rules, ◌∙◌, tests}
use Rattle.std.proofs.lemmas.Iterator.{YieldsList-from_slice}
use Rattle.std.proofs.lemmas.Iterator.Search.{position_from_yields_List}
use Rattle.board.specs.State.{pairs}
use Rattle.board.specs.Requests.{link_of}
use Rattle.board.proofs.Found.{first-position}
use Rattle.board.proofs.partners.link_of.Goals as goal

pub returns : goal.returns
unfolding link_of
returns c =
    position_from_yields_List (λ l. pairs l c.args.partner) _ _ c.position.result c.position.ensures.ran
    (YieldsList-from_slice _ c.iter.ensures.rest) (λ x b q k. search (rules, tests))
    ∙ first-position (λ l. pairs l c.args.partner) _ c.args.links 8 (search rules)
