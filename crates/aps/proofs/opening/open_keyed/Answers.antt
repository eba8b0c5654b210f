-- An entry that was found is one of the eight.
use mathlib.Core.Path.{sym, ap, ◌∙◌}
use mathlib.Core.List.{List}
use Prim.Native.Nat.{◌<◌}
use native.Mathlib.Omega.{arith}
use Rattle.board.proofs.Found.{link-place}
use Rattle.board.specs.declared.Link.{Link}
use Rattle.board.specs.State.{link_at}
use Rattle.board.specs.Requests.{link_of}
use Rattle.aps.specs.Opening.{opened_keyed}
use Rattle.aps.proofs.opening.open_keyed.Goals as goal
use Rattle.aps.proofs.opening.open_keyed.Goals.{In_ok-i}

there : (c : In_ok-i) → c.in_ok-i.i < 8
there c = link-place _ _ _ (sym c.link_of.ensures ∙ c.in_ok-i.ensures.ok_part)

pub offset_bounds-links-i : goal.offset_bounds-links-i
offset_bounds-links-i c = let h = there (goal.at.offset_bounds-links-i c).In_ok-i in omega arith

pub bounds-links-i : goal.bounds-links-i
bounds-links-i c = there (goal.at.bounds-links-i c).In_ok-i

pub open_under-requires-clause-entry : goal.open_under-requires-clause-entry
open_under-requires-clause-entry c = there (goal.at.open_under-requires-clause-entry c).In_ok-i

pub returns-clause-out_after : goal.returns-clause-out_after
unfolding opened_keyed
returns-clause-out_after c =
    λ b el. simp (ap (λ (l : List Link). link_of l c.args.x.secured.sender) el ∙ sym c.link_of.ensures ∙ c.in_ok-i.ensures.ok_part)
    (c.open_under.ensures.out_after b (ap (λ (l : List Link). link_at l c.in_ok-i.i) el))
