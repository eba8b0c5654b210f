-- A program's talk with its desk, of which `run` speaks. The bench language: "The answer to line N is `N`, a tab, and one of
-- .."; "`bad`: the line is not one of those below, a field is malformed or beyond its range"; "An empty line, or one that
-- starts with `#`, is counted and gets no answer."
-- Assumes nothing.
use Rattle.std.specs.Prelude.{◌≡◌, ℕ, List, [], ◌∷◌, ◌++◌, map, Option, Some, None, MatchBool}
use Rattle.std.specs.Io.KnownBytes.{Appends}
use Rattle.lines.specs.Answer.{bad, whole_line}
use Rattle.lines.specs.Lines.{silent, lines_of}
use Rattle.lines.specs.Reading.{kept}
use Rattle.lines.specs.Passing.{Numbered, all, counted_from}

-- what a desk of type D may answer to a line, in one state, and the state that is left
abbrev pub Answering : Type 0 → Type 1
Answering D = D → List ℕ → Option (List ℕ) → D → Type 0

-- the desk's answer, or `bad` where it has none
abbrev pub or_bad : Option (List ℕ) → List ℕ
or_bad None = bad
or_bad (Some l) = l

-- of the line x the octets o are written, and the desk d becomes e: a silent line is passed over, one that there is no room
-- for is told `bad`, and of any other the desk is asked
abbrev pub Answered : {D : Type 0} → Answering D → Numbered → D → List ℕ → D → Type 0
Answered A x d o e =
    MatchBool (silent x.line.octets) ((o ≡ []) × (e ≡ d))
    (MatchBool x.line.long ((o ≡ whole_line x.number bad) × (e ≡ d))
    ((a : Option (List ℕ)) × A d x.line.octets a e × (o ≡ whole_line x.number (or_bad a))))

-- these lines are answered one after the other: o is all that is written of them, and the desk d becomes e
abbrev pub Talk : {D : Type 0} → Answering D → List Numbered → D → List ℕ → D → Type 0
Talk A [] d o e = (o ≡ []) × (e ≡ d)
Talk {D} A (x ∷ xs) d o e =
    (p : List ℕ) × (q : List ℕ) × (f : D) × (o ≡ p ++ q) × Answered A x d p f × Talk A xs f q e

-- and that is all that the output, which was c, grew by till it was k
abbrev pub Told : {D : Type 0} → Answering D → List Numbered → D → Option (List ℕ) → D → Option (List ℕ) → Type 0
Told A xs d c e k = (o : List ℕ) × Talk A xs d o e × Appends c k o

-- the lines of an input, counted from 1, each as far as there is room for n octets of it
abbrev pub lines_in : ℕ → List ℕ → List Numbered
lines_in n l = counted_from 1 (map (kept n) (all (lines_of l)))
