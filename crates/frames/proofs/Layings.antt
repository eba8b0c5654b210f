-- Headers laid at the start of an output.
-- Assumes nothing.
use mathlib.Core.Path.{◌≡◌}
use mathlib.Core.List.{List}
use Prim.Native.Nat.{ℕ, ◌≤◌}
use lib.ListN.{length}
use borrow.Author.Tests.{le-leb}
use Rattle.octets.specs.Lists.{onto}
use Rattle.frames.specs.Making.{laid}

pub laid-onto : (o f : List ℕ) (n : ℕ) (y : List ℕ) → n ≤ length f → n ≤ length o → laid o f n y ≡ onto y o
unfolding laid
laid-onto o f n y h k = rw (le-leb _ _ h, le-leb _ _ k)
