-- Laws of laying a text at a place of an output: both answers at once, where there is room and where there is none.
-- Assumes nothing.
use mathlib.Core.Path.{◌≡◌, sym}
use mathlib.Core.List.{List, ◌++◌}
use Prim.Native.Nat.{ℕ, ◌+◌, ◌≤◌, ◌<◌}
use native.Mathlib.Nat.{zero-add}
use lib.ListN.{length, get_or, set, take, drop}
use borrow.Author.Tests.{le-leb, lt-leb}
use Rattle.octets.proofs.Pasted.{paste_more, pasted-not}
use Rattle.octets.specs.Lists.{pasted}
use Rattle.text.specs.Cursor.{ahead}

module _ (o : List ℕ) (i : ℕ) (s : List ℕ) where
  pub ahead-fits : i + length s ≤ length o → i + length s ≡ ahead o i s
  unfolding ahead
  ahead-fits h = rw (le-leb (i + length s) (length o) h)

  pub no_room : length o < i + length s → (o ≡ pasted o i s) × (i ≡ ahead o i s)
  unfolding ahead
  no_room h = (sym (pasted-not o i s h), rw (lt-leb (i + length s) (length o) h))

-- a turn of a loop that lays s at the front
pub front-more : (o s : List ℕ) (i : ℕ) → i < length o → i < length s
    → set (take i s ++ drop i o) i (get_or s i 0) ≡ take (i + 1) s ++ drop (i + 1) o
front-more o s i h k = simp zero-add at (paste_more o 0 s i (rw zero-add h) k)
