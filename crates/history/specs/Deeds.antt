-- Document 02 (vi) (RULES 11.1): "Keep one saved number, the mark, in the host's store." The log of what is done: the board is called, the
-- host writes a mark into its store, the plug is pulled; "The store writes one mark whole or not at all", so that a write is there or it
-- isn't, and the plug may be pulled before or after it. Then what is supposed of the host. Nothing here looks at a board.
-- Assumes nothing.
use Rattle.std.specs.Prelude.{Bool, true, false, List, [], ◌∷◌, ℕ, ◌==◌}
use Rattle.octets.specs.Choice.{both}
use Rattle.octets.specs.Lists.{Octets}
use Rattle.history.specs.Calls.{Call, to_seal, tells, Reply, answered, gave, looked, sent_on, next_is, Exchange}

-- ---- deeds

-- The board is called; the host writes a mark into its store; the board loses power and starts again. In every list of deeds the last
-- one stands first.
pub data Deed (A : Type 0) : Type 0 where
  called : A → Deed A
  wrote : ℕ → Deed A
  cut : Deed A

-- a board, by what it replies to a call after the deeds before it
abbrev pub Replies : Type 0
Replies = List (Deed Call) → Call → Reply

-- the log: every deed, each call with its reply
abbrev pub log : Replies → List (Deed Call) → List (Deed Exchange)
log board [] = []
log board (called c ∷ ds) = called (record { call = c; reply = board ds c }) ∷ log board ds
log board (wrote m ∷ ds) = wrote m ∷ log board ds
log board (cut ∷ ds) = cut ∷ log board ds

-- what is handed in to be sealed is octets, as everything is that a program can hand in
abbrev pub SealsOctets : List (Deed Call) → Type 0
SealsOctets [] = Octets []
SealsOctets (called c ∷ ds) = Octets (to_seal c) × SealsOctets ds
SealsOctets (wrote m ∷ ds) = SealsOctets ds
SealsOctets (cut ∷ ds) = SealsOctets ds

-- ---- the store

-- what it holds: the mark last written, or the one found there at first
abbrev pub stored : {A : Type 0} → ℕ → List (Deed A) → ℕ
stored found [] = found
stored found (called x ∷ ds) = stored found ds
stored found (wrote m ∷ ds) = m
stored found (cut ∷ ds) = stored found ds

-- ---- the host: "we suppose that the host writes there only the next mark last answered, and tells the board only what its store holds"

-- whether m is the next mark that a reply answers, and if it answers none, that of those before
abbrev pub answers : Reply → ℕ → Bool → Bool
answers (answered t) m before = before
answers (gave t o) m before = before
answers (looked t) m before = before
answers (sent_on t s) m before = before
answers (next_is n) m before = n == m

abbrev pub answered_last : List (Deed Exchange) → ℕ → Bool
answered_last [] m = false
answered_last (called x ∷ ds) m = answers x.reply m (answered_last ds m)
answered_last (wrote n ∷ ds) m = answered_last ds m
answered_last (cut ∷ ds) m = answered_last ds m

-- "writes there only the next mark last answered", be it before or after a cut
abbrev pub writes_answered : List (Deed Exchange) → Bool
writes_answered [] = true
writes_answered (called x ∷ ds) = writes_answered ds
writes_answered (wrote m ∷ ds) = both (answered_last ds m) (writes_answered ds)
writes_answered (cut ∷ ds) = writes_answered ds

-- "tells the board only what its store holds"
abbrev pub tells_stored : ℕ → List (Deed Exchange) → Bool
tells_stored found [] = true
tells_stored found (called x ∷ ds) = both (tells x.call (stored found ds)) (tells_stored found ds)
tells_stored found (wrote m ∷ ds) = tells_stored found ds
tells_stored found (cut ∷ ds) = tells_stored found ds
