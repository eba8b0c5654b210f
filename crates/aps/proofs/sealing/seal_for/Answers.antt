-- The partner's entry is one of the eight.
use mathlib.Core.Path.{sym, ap, ◌∙◌}
use mathlib.Core.List.{List}
use Prim.Native.Nat.{◌<◌}
use native.Mathlib.Omega.{arith}
use Rattle.board.proofs.Found.{link-place}
use Rattle.board.specs.declared.Link.{Link}
use Rattle.board.specs.State.{link_at}
use Rattle.board.specs.Requests.{link_of}
use Rattle.octets.specs.Keys.{the_key}
use Rattle.settings.specs.Settings.{ours}
use Rattle.aps.specs.Sealing.{sealed_for, sealed_under}
use Rattle.aps.proofs.sealing.seal_for.Goals as goal
use Rattle.aps.proofs.sealing.seal_for.Goals.{In_ok-i}

there : (c : In_ok-i) → c.in_ok-i.i < 8
there c = link-place _ _ _ (sym c.link_of.ensures ∙ c.in_ok-i.ensures.ok_part)

pub offset_bounds-links-i : goal.offset_bounds-links-i
offset_bounds-links-i c = let h = there (goal.at.offset_bounds-links-i c).In_ok-i in omega arith

pub bounds-links-i : goal.bounds-links-i
bounds-links-i c = there (goal.at.bounds-links-i c).In_ok-i

pub returns : goal.returns
unfolding sealed_for
returns c =
    λ b el es. let y = c.args in
    simp (ap (λ (l : List Link). link_of l y.a) el ∙ sym c.link_of.ensures ∙ c.in_ok-i.ensures.ok_part)
    (c.seal_under.ensures b es
    ∙ ap (λ (l : List Link). sealed_under ours b y.x.frame.now y.out.now y.x.header y.k (the_key (link_at l c.in_ok-i.i).key)) (sym el))
