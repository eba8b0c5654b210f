-- A program's loop over its input, of which `all_lines` (proofs/AllLines) speaks. The bench language: "A line is fields parted
-- by one tab and ended by one line feed (the last line may lack it). Lines are counted from 1." A line feed is the octet 10.
-- Assumes nothing.
use Rattle.std.specs.Prelude.{ℕ, zero, suc, ◌+◌, ◌%◌, ◌^◌, Bool, true, false, not, List, [], ◌∷◌, ◌++◌, take}
use Rattle.std.specs.Prelude.{if◌then◌else◌}
use Rattle.octets.specs.Choice.{both}
use Rattle.lines.specs.Lines.{Lines}
use Rattle.lines.specs.Reading.{Held, unread, Reached, reached, read_on, stopped}
use Rattle.lines.specs.declared.reader.Reader.{Reader}

-- where a reader stands: where it stopped in its chunk, the number of the line, and whether the input goes on
pub record Standing : Type 0 where
  pub at : Reached
  pub number : ℕ
  pub live : Bool

abbrev pub stands : Reached → ℕ → Bool → Standing
stands r k t = record { at = r; number = k; live = t }

-- before the first chunk
abbrev pub at_start : Standing
at_start = stands (reached unread false []) 1 true

-- the number behind k, in 64 bits
unfoldable pub number_after : ℕ → ℕ
number_after k = (k + 1) % 2 ^ 64

-- behind a line that has ended the next one begins
unfoldable pub begun : Standing → Standing
begun s =
    if s.at.ended
    then stands (reached unread false s.at.left) (number_after s.number) s.live
    else s

-- nothing is there
unfoldable pub empty : List ℕ → Bool
empty [] = true
empty (c ∷ l) = false

-- all of the chunk was read
unfoldable pub spent : Standing → Bool
spent s = empty s.at.left

-- a turn in a room of n octets: on to the end of the line, or of the chunk
unfoldable pub turned : ℕ → Standing → Standing
turned n s =
    let b = begun s in stands (read_on n b.at.line b.at.left) b.number b.live

-- the next chunk is l; an empty one is the end of the input
unfoldable pub filled : Standing → List ℕ → Standing
filled s l =
    let b = begun s in stands (reached b.at.line false l) b.number (both b.live (not (empty l)))

-- the line has ended, by its line feed or with the input
unfoldable pub due : Standing → Bool
due s = if s.at.ended then true else not s.live

-- a line that is handed on, and its number
pub record Numbered : Type 0 where
  pub number : ℕ
  pub line : Held

abbrev pub numbered : ℕ → Held → Numbered
numbered k h = record { number = k; line = h }

-- the line is handed on where it has ended, before those behind it
unfoldable pub handing : Standing → List Numbered → List Numbered
handing s e = if due s then numbered s.number s.at.line ∷ e else e

-- what the next read gives, and those behind it; behind the last there is nothing more
unfoldable pub read : List (List ℕ) → List ℕ
read [] = []
read (l ∷ ls) = l

unfoldable pub later : List (List ℕ) → List (List ℕ)
later [] = []
later (l ∷ ls) = ls

-- the lines that at most k turns hand on, where ls is what one read after the other gives
unfoldable pub turns : ℕ → ℕ → Standing → List (List ℕ) → List Numbered
turns zero n s ls = []
turns (suc k) n s ls =
    if not s.live then [] else
    if spent s
    then (let t = filled s (read ls) in handing t (turns k n t (later ls)))
    else (let t = turned n s in handing t (turns k n t ls))

-- the input: what the reads give, up to the first that gives nothing
unfoldable pub given : List (List ℕ) → List ℕ
given [] = []
given ([] ∷ ls) = []
given ((c ∷ l) ∷ ls) = (c ∷ l) ++ given ls

-- all lines of an input, the last one, which no line feed ends, too
abbrev pub all : Lines → List (List ℕ)
all m = m.ended ++ (m.rest ∷ [])

-- lines counted from k on
unfoldable pub counted_from : ℕ → List Held → List Numbered
counted_from k [] = []
counted_from k (h ∷ e) = numbered k h ∷ counted_from (number_after k) e

-- a reader as the code keeps it, with the chunk l and the buffer b
abbrev pub standing : Reader → List ℕ → List ℕ → Standing
standing r l b = stands (stopped r.stop (take r.to l) b) r.number r.live
