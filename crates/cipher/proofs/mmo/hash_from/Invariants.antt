-- The loop keeps: the chain from x over the padded blocks from i on ends as the whole one does; (l + 18) / 16 is their number.
use mathlib.Core.Path.{◌≡◌}
use Prim.Native.Nat.{◌+◌, ◌-◌, ◌*◌, ◌/◌, ◌≤◌}
use lib.ListN.{length, drop}
use Rattle.cipher.specs.Blocks.{blocks, over}
use Rattle.cipher.specs.Code.{padded_after}
use Rattle.cipher.specs.Hash.{hashed_in}
use Rattle.cipher.proofs.mmo.hash_from.Given as goal

abbrev pub invariant-loop-i : goal.invariant-loop-i
invariant-loop-i l =
    (l.n ≡ (length l.d + 18) / 16) × (l.i ≤ l.n)
    × (over hashed_in l.initial.x (blocks (padded_after l.b l.d)) ≡ over hashed_in l.x (blocks (drop (16 * l.i) (padded_after l.b l.d))))

abbrev pub decreases-loop-i : goal.decreases-loop-i
decreases-loop-i l = l.n - l.i
