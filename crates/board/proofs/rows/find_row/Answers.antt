-- `position` finds what the definition's search finds, told from the place at which the rows looked at start.
use Rattle.std.proofs.Common.{rules, tests, ◌≡◌, ◌∙◌, ◌+◌, ap, position, take, drop, eqb}
use Rattle.std.specs.Option.{option_map}
use Rattle.std.proofs.lemmas.Iterator.{YieldsList-from_slice, YieldsList-from_take}
use Rattle.std.proofs.lemmas.Iterator.Adapters.{YieldsList-from_skip}
use Rattle.std.proofs.lemmas.Iterator.Consumers.{YieldsList-at}
use Rattle.std.proofs.lemmas.Iterator.Search.{position_from_yields_List}
use Rattle.board.specs.Rows.{find_row}
use Rattle.board.proofs.Found.{first-within}
use Rattle.board.proofs.rows.find_row.Goals as goal

pub returns : goal.returns
unfolding find_row
returns c =
    let x = c.args in
    let from = YieldsList-from_skip x.from (YieldsList-at c.skip.ensures.source (YieldsList-from_slice _ c.iter.ensures.rest))
    c.skip.ensures.count in
    let there = YieldsList-from_take x.n (YieldsList-at c.take-rows.ensures.source from) c.take-rows.ensures.count in
    let found : c.position.result ≡ position (λ a. eqb a x.address) (take x.n (drop x.from x.addrs.now)) =
    position_from_yields_List (λ a. eqb a x.address) _ _ c.position.result c.position.ensures.ran there
    (λ a b q k. search (rules, tests)) in
    let told : c.map.result ≡ option_map (λ r. x.from + r) c.position.result = search rules in
    told ∙ ap (option_map (λ r. x.from + r)) found ∙ first-within (λ a. eqb a x.address) 0 x.addrs.now x.from x.n
