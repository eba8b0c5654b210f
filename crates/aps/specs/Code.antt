-- Of the code: what contracts of private functions name. Nothing here need be believed: every callable routine's contract is
-- stated without it.
-- Assumes nothing.
use Rattle.std.specs.Prelude.{ℕ, ◌<◌, List, Option, Some, None, Result, Ok, Err, IfOk, IfSome}
use Rattle.answers.specs.declared.Refusal.{Refusal}
use Rattle.answers.specs.Numbers.{told_opened}
use Rattle.board.specs.declared.Board.{Board}
use Rattle.board.specs.Sending.{Framed, framed}
use Rattle.aps.specs.declared.opening.Heard.{Heard}
use Rattle.aps.specs.declared.opening.Raised.{Raised}
use Rattle.aps.specs.Opening.{with_floor}

-- the board behind a stage that is handed no board: an entry, if any, has another floor
abbrev pub raised_in : Board → Option Raised → Board
raised_in b (Some r) = with_floor b r.entry r.floor
raised_in b None = b

-- what a stage that is handed no board tells, and what that leaves of a board
abbrev pub heard : Board → Result Heard Refusal → List ℕ → Framed
heard b (Ok h) o = framed (told_opened (Ok h.opened)) (raised_in b h.raised) o
heard b (Err r) o = framed (told_opened (Err r)) b o

-- the entry is one of the eight
abbrev pub RaisesEntry : Result Heard Refusal → Type 0
RaisesEntry r = IfOk r (λ h. IfSome h.raised (λ x. x.entry < 8))
