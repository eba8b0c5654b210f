-- The inner frame is a part of the frame, and a portion one of the inner frame, so that it can be cut out of both.
use Rattle.std.proofs.Common.{refl}
use Rattle.settings.specs.Settings.{ours}
use Rattle.router.proofs.Portions.{none-left, long-enough, its-part}
use Rattle.router.proofs.routing.portion_of.Goals as goal

pub returns-then-is_empty : goal.returns-then-is_empty
returns-then-is_empty c = none-left ours c.args.frame _ _ c.inner_of-inner.ensures _ c.is_empty.ensures c.if-is_empty.true c.args.portion

pub place_of-requires : goal.place_of-requires
place_of-requires c = long-enough ours c.args.frame _ _ c.inner_of-inner.ensures _ c.is_empty.ensures c.if-is_empty.false

pub returns : goal.returns
returns c =
    its-part ours c.args.frame _ _ c.inner_of-inner.ensures _ c.is_empty.ensures c.if-is_empty.false c.args.portion _ _ _
    c.place_of.ensures.start c.place_of.ensures.end refl refl refl
