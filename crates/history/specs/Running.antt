-- Our board (RULES 11.1): "over any sequence of calls from a fresh state, each handed what the last one left", by the very definitions
-- that the contracts cite; and document 02 (vi): "After a cut at any moment, the board starts, otherwise fresh, at the mark it finds".
-- Assumes nothing.
use Rattle.std.specs.Prelude.{◌≡◌, true, List, [], ◌∷◌, ℕ, ◌/◌, ◌^◌, ◌<◌, replicate}
use Rattle.settings.specs.Settings.{Settings, ours}
use Rattle.history.specs.Calls.{Call, install, switch, add_link, remove_link, forget, opening, sealing, looking, writing, routing, next_mark, marked}
use Rattle.history.specs.Calls.{Reply, answered, gave, looked, sent_on, next_is}
use Rattle.history.specs.Deeds.{Deed, called, wrote, cut, Replies, stored}
use Rattle.history.specs.Statement.{First, Second}
use Rattle.answers.specs.Numbers.{done}
use Rattle.frames.specs.declared.Layer.TheVariants.{Network, Aps}
use Rattle.board.specs.declared.Board.{Board}
use Rattle.board.specs.Requests.{Left, Changed, Freed}
use Rattle.board.specs.Rows.{Lists, lists, legal}
use Rattle.board.specs.Sending.{Framed}
use Rattle.board.specs.Requests as requests
use Rattle.board.specs.Mark as marks
use Rattle.network.specs.Opening as network
use Rattle.network.specs.Sealing as network_seals
use Rattle.aps.specs.Opening as aps
use Rattle.aps.specs.Sealing as aps_seals
use Rattle.commands.specs.Writing as commands
use Rattle.router.specs.declared.Portion.TheVariants.{Whole}
use Rattle.router.specs.Routing as router

-- the state and the two lent lists
pub record Held : Type 0 where
  pub board : Board
  pub lists : Lists

abbrev pub held : Board → Lists → Held
held b w = record { board = b; lists = w }

-- what a call answers, and what it leaves for the next
pub record Step : Type 0 where
  pub reply : Reply
  pub after : Held

abbrev pub to : Reply → Held → Step
to r x = record { reply = r; after = x }

abbrev pub by_lists : Left → Step
by_lists r = to (answered r.answer) (held r.board r.lists)

abbrev pub by_board : Held → Changed → Step
by_board x r = to (answered r.answer) (held r.board x.lists)

abbrev pub by_rows : Held → Freed → Step
by_rows x r = to (answered r.answer) (held x.board r.lists)

abbrev pub by_network : Held → network.Opening → Step
by_network x r = to (gave r.answer r.leaves.out) (held x.board r.leaves.lists)

abbrev pub by_frame : Held → Framed → Step
by_frame x r = to (gave r.answer r.out) (held r.board x.lists)

-- one call; routing asks the router where the inner frame goes, and for that frame whole
abbrev pub step : Settings → Call → Held → Step
step z (install i n k) x = by_lists (requests.install x.board x.lists i n k)
step z (switch n) x = by_board x (requests.switch x.board n)
step z (add_link a k) x = by_board x (requests.add_link x.board a k)
step z (remove_link a) x = by_board x (requests.remove_link x.board a)
step z (forget i a) x = by_rows x (requests.forget x.lists i a)
step z (opening Network f g o) x = by_network x (network.open_network z x.board f (record { lists = x.lists; out = o }))
step z (opening Aps f g o) x = by_frame x (aps.open_aps z x.board f g o)
step z (sealing Network f a k o) x = by_frame x (network_seals.seal_network z x.board f o)
step z (sealing Aps f a k o) x = by_frame x (aps_seals.seal_aps z x.board f a k o)
step z (looking Network f g) x = to (looked (network.look_network z x.board f)) x
step z (looking Aps f g) x = to (looked (aps.look_aps z x.board f g)) x
step z (writing a c k r o) x = by_frame x (commands.write_command z x.board a c k r o)
step z (routing f p) x = to (sent_on (router.route z f p) (router.handed_on z Whole f p)) x
step z next_mark x = to (next_is (marks.next_mark x.board.mark)) x
step z (marked m) x = by_board x (marks.move_mark x.board m)

-- a fresh state that finds the mark m, with fresh lists of n rows
abbrev pub start : ℕ → ℕ → ℕ → Held
start n own m = held (requests.make own m).board (lists (replicate n 0) (replicate n 0))

-- what deeds leave of it, the store having held `found` at first; a cut leaves a fresh state, at what the store then holds
abbrev pub run : Settings → ℕ → ℕ → ℕ → List (Deed Call) → Held
run z n own found [] = start n own found
run z n own found (called c ∷ ds) = (step z c (run z n own found ds)).after
run z n own found (wrote m ∷ ds) = run z n own found ds
run z n own found (cut ∷ ds) = start n own (stored found ds)

abbrev pub replies : Settings → ℕ → ℕ → ℕ → Replies
replies z n own found ds c = (step z c (run z n own found ds)).reply

-- ---- demand 3, of our board: over any settings, "over lists of one length" (document 02 (iii)), which may be any that is legal and
-- of which half is the room, of every own address for which a state is made, and of any mark in the store, "0 on a new board"

abbrev pub Demand3 : Type 0
Demand3 =
    (z : Settings) (n own found : ℕ) → legal n ≡ true → own < 2 ^ 64 → found < 2 ^ 32 → (requests.make own found).answer ≡ done
    → First z found (replies z n own found) × Second z (n / 2) (replies z n own found)

-- the same of the routines: the contracts are at our settings
abbrev pub OurDemand3 : Type 0
OurDemand3 =
    (n own found : ℕ) → legal n ≡ true → own < 2 ^ 64 → found < 2 ^ 32 → (requests.make own found).answer ≡ done
    → First ours found (replies ours n own found) × Second ours (n / 2) (replies ours n own found)
