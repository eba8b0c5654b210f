-- Of the code: what contracts of private functions name. Nothing here need be believed: every callable routine's contract is
-- stated without it.
-- Assumes nothing.
use Rattle.std.specs.Prelude.{◌≡◌, ℕ, List, [], Option, MatchBool}
use Rattle.std.specs.Io.KnownBytes.{Consumes, IsAtEnd}
use Rattle.lines.specs.Passing.{Standing, spent, turned, filled}

-- a turn of a reader at s, in a room of n octets: where the chunk is spent some octets of the input are the next chunk, none
-- only at its end; else the reader goes on in the chunk
abbrev pub Passes : ℕ → Standing → Option (List ℕ) → Standing → Option (List ℕ) → Type 0
Passes n s r t k =
    MatchBool (spent s) ((l : List ℕ) × Consumes r k l × (l ≡ [] → IsAtEnd k) × (t ≡ filled s l))
    ((k ≡ r) × (t ≡ turned n s))
