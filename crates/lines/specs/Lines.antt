-- The bench language: "A line is fields parted by one tab and ended by one line feed (the last line may lack it)."
-- A line feed is the octet 10. Assumes nothing.
use Rattle.std.specs.Prelude.{ℕ, Bool, true, not, List, [], ◌∷◌, ◌++◌, length, ◌==◌}
use Rattle.std.specs.Prelude.{if◌then◌else◌}
use Rattle.octets.specs.Choice.{both}
use Rattle.octets.specs.Lists.{at}

-- the lines of an input: those that a line feed ends, in order, and what stands behind the last line feed
pub record Lines : Type 0 where
  pub ended : List (List ℕ)
  pub rest : List ℕ

abbrev pub lines : List (List ℕ) → List ℕ → Lines
lines e r = record { ended = e; rest = r }

-- the lines of p and then l, where p has no line feed
unfoldable pub lines_from : List ℕ → List ℕ → Lines
lines_from p [] = lines [] p
lines_from p (c ∷ l) =
    if c == 10
    then lines (p ∷ (lines_from [] l).ended) (lines_from [] l).rest
    else lines_from (p ++ (c ∷ [])) l

-- the lines of an input
unfoldable pub lines_of : List ℕ → Lines
lines_of l = lines_from [] l

-- lines put together again, a line feed behind each but the last
unfoldable pub glued : List (List ℕ) → List ℕ → List ℕ
glued [] r = r
glued (x ∷ e) r = x ++ (10 ∷ glued e r)

-- no line feed is in l
unfoldable pub unfed : List ℕ → Bool
unfed [] = true
unfed (c ∷ l) = both (not (c == 10)) (unfed l)

-- nor in any of these
unfoldable pub all_unfed : List (List ℕ) → Bool
all_unfed [] = true
all_unfed (l ∷ e) = both (unfed l) (all_unfed e)

-- "An empty line, or one that starts with `#`, is counted and gets no answer."
unfoldable pub silent : List ℕ → Bool
silent l = if length l == 0 then true else (at l 0 == 35)
