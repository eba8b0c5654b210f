-- `position` finds what the definition's search finds.
use Rattle.std.proofs.Common.{rules, tests, ◌∙◌}
use Rattle.std.proofs.lemmas.Iterator.{YieldsList-from_slice}
use Rattle.std.proofs.lemmas.Iterator.Search.{position_from_yields_List}
use Rattle.board.specs.State.{carries}
use Rattle.board.specs.Requests.{slot_of}
use Rattle.board.proofs.Found.{first-position}
use Rattle.board.proofs.keys.slot_of.Goals as goal

pub returns : goal.returns
unfolding slot_of
returns c =
    position_from_yields_List (λ s. carries s c.args.sequence) _ _ c.position.result c.position.ensures.ran
    (YieldsList-from_slice _ c.iter.ensures.rest) (λ x b q k. search (rules, tests))
    ∙ first-position (λ s. carries s c.args.sequence) _ c.args.slots 2 (search rules)
