-- Of the code: what contracts of private functions of the layers name. Nothing here need be believed: every callable routine's
-- contract is stated without it.
-- Assumes nothing.
use Rattle.std.specs.Prelude.{List, ℕ, Result}
use Rattle.answers.specs.declared.Refusal.{Refusal}
use Rattle.answers.specs.Numbers.{told_sealed}
use Rattle.board.specs.declared.Board.{Board}
use Rattle.board.specs.Sending.{Framed, framed, with_outgoing, counter_after}

-- what a stage of sealing that is handed no board tells, and what that leaves of a board
abbrev pub sent : Board → Result ℕ Refusal → List ℕ → Framed
sent b r o = framed (told_sealed r) (with_outgoing b (counter_after (told_sealed r) b.outgoing)) o
