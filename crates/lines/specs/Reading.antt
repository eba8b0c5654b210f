-- A line as far as there is room for it, and reading it on. The bench language sets no limit to a line; a program has room
-- for so many octets, keeps those, and marks a line that has more.
-- Assumes nothing.
use Rattle.std.specs.Prelude.{ℕ, Bool, true, false, List, [], ◌∷◌, ◌++◌, length, take, drop, ◌==◌, nat_lt}
use Rattle.std.specs.Prelude.{if◌then◌else◌}
use Rattle.lines.specs.declared.reading.Line.{Line}
use Rattle.lines.specs.declared.reading.Stop.{Stop}

-- what is there of a line, and whether it has more than there is room for
pub record Held : Type 0 where
  pub octets : List ℕ
  pub long : Bool

abbrev pub holds : List ℕ → Bool → Held
holds l t = record { octets = l; long = t }

-- the line l in a room of n octets
unfoldable pub kept : ℕ → List ℕ → Held
kept n l = holds (take n l) (nat_lt n (length l))

-- nothing of a line
abbrev pub unread : Held
unread = holds [] false

-- a line in a room of n octets, and one octet more of it
unfoldable pub fed : ℕ → Held → ℕ → Held
fed n h c =
    if nat_lt (length h.octets) n
    then holds (h.octets ++ (c ∷ [])) h.long
    else holds h.octets true

-- and all of these octets more
unfoldable pub all_fed : ℕ → Held → List ℕ → Held
all_fed n h [] = h
all_fed n h (c ∷ l) = all_fed n (fed n h c) l

-- where reading stopped: the line, whether its line feed was met, and what is left of the chunk
pub record Reached : Type 0 where
  pub line : Held
  pub ended : Bool
  pub left : List ℕ

abbrev pub reached : Held → Bool → List ℕ → Reached
reached h t l = record { line = h; ended = t; left = l }

-- a line read on through a chunk
unfoldable pub read_on : ℕ → Held → List ℕ → Reached
read_on n h [] = reached h false []
read_on n h (c ∷ l) = if c == 10 then reached h true l else read_on n (fed n h c) l

-- a line as the code keeps it, its octets at the front of the lent buffer b
abbrev pub held : Line → List ℕ → Held
held l b = holds (take l.at b) l.long

-- where the code stopped in the chunk l
abbrev pub stopped : Stop → List ℕ → List ℕ → Reached
stopped r l b = reached (held r.line b) r.ended (drop r.from l)
