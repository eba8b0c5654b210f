-- Document 01, "Requests that change keys" (RULES 3). Each request is a judgement in the paper's order, and what it then leaves.
-- Assumes nothing.
use Rattle.std.specs.Prelude.{Bool, true, not, List, ℕ, ◌-◌, ◌*◌, set, ◌==◌, nat_lt, Option, Some, None}
use Rattle.octets.specs.Addresses.{no_address}
use Rattle.std.specs.Prelude.{if◌then◌else◌}
use Rattle.octets.specs.Choice.{both}
use Rattle.octets.specs.Lists.{eq_list}
use Rattle.octets.specs.Keys.{Key}
use Rattle.board.specs.declared.Slot.{Slot}
use Rattle.board.specs.declared.Link.{Link}
use Rattle.board.specs.declared.Board.{Board}
use Rattle.board.specs.Places.{first_at}
use Rattle.board.specs.Rows.{Lists, lists, lists_fit, half, find_row, freed}
use Rattle.board.specs.State.{slot_at, link_at, carries, pairs, no_link, fresh, with_slot, with_active, with_link}
use Rattle.answers.specs.Numbers.{Told, done, refused}

-- what a request answers, and the board and the lists that it leaves
pub record Left : Type 0 where
  pub answer : Told
  pub board : Board
  pub lists : Lists

abbrev pub left : Told → Board → Lists → Left
left t b w = record { answer = t; board = b; lists = w }

-- the same of a request that is lent no lists
pub record Changed : Type 0 where
  pub answer : Told
  pub board : Board

abbrev pub changed : Told → Board → Changed
changed t b = record { answer = t; board = b }

-- the same of a request that has no board
pub record Freed : Type 0 where
  pub answer : Told
  pub lists : Lists

abbrev pub freeing : Told → Lists → Freed
freeing t w = record { answer = t; lists = w }

-- "Own address (zero or all ones: no state is made, 14)"; a board without an address stands for none. It starts "at the mark it
-- finds", m (document 02 (vi)).
unfoldable pub make : ℕ → ℕ → Changed
make a m = if no_address a then changed (refused 14) (fresh 0 0) else changed done (fresh a m)

-- ---- network keys

-- the octets and number that the slot, present, already has
unfoldable pub holds : Slot → ℕ → Key → Bool
holds s n k = both (carries s n) (eq_list s.key k.octets)

abbrev pub installed : ℕ → Key → Slot
installed n k = record { present = true; seq = n; key = k.octets }

-- "its 32 rows are freed": the m rows of slot i
abbrev pub rows_freed : ℕ → Lists → ℕ → Lists
rows_freed m w i = lists (freed w.addrs (i * m) m) (freed w.floors (i * m) m)

-- "14 if the slot is above 1 or the other present slot has that sequence number. The octets and number that the slot,
-- present, already has: nothing changes. Otherwise the slot is replaced, its 32 rows are freed, and the active mark stays."
unfoldable pub install : Board → Lists → ℕ → ℕ → Key → Left
install b w i n k =
    if not (lists_fit w) then left (refused 1) b w
    else (if nat_lt 1 i then left (refused 14) b w
    else (if carries (slot_at b.slots (1 - i)) n then left (refused 14) b w
    else (if holds (slot_at b.slots i) n k then left done b w
    else left done (with_slot b i (installed n k)) (rows_freed (half w) w i))))

-- the lowest present slot with that sequence number
unfoldable pub slot_of : List Slot → ℕ → Option ℕ
slot_of ss n = first_at (λ i. carries (slot_at ss i) n) 0 2

-- "the present slot with that sequence number becomes active, else 13"
abbrev pub switch_to : Board → Option ℕ → Changed
switch_to b (Some i) = changed done (with_active b i)
switch_to b None = changed (refused 13) b

unfoldable pub switch : Board → ℕ → Changed
switch b n = switch_to b (slot_of b.slots n)

-- ---- link keys

-- the lowest present entry for that partner, and the lowest free entry
unfoldable pub link_of : List Link → ℕ → Option ℕ
link_of ls a = first_at (λ i. pairs (link_at ls i) a) 0 8

unfoldable pub free_link : List Link → Option ℕ
free_link ls = first_at (λ i. not (link_at ls i).present) 0 8

-- a new key, floor 0
abbrev pub added : ℕ → Key → Link
added a k = record { present = true; partner = a; key = k.octets; floor = 0 }

-- "New partner: lowest free entry, floor 0; none free: 10."
abbrev pub add_new : Board → ℕ → Key → Option ℕ → Changed
add_new b a k (Some i) = changed done (with_link b i (added a k))
add_new b a k None = changed (refused 10) b

-- "the same partner and octets: nothing changes. Same partner, other octets: replaced, floor 0."
abbrev pub add_to : Board → ℕ → Key → Option ℕ → Changed
add_to b a k (Some i) = if eq_list (link_at b.links i).key k.octets then changed done b else changed done (with_link b i (added a k))
add_to b a k None = add_new b a k (free_link b.links)

-- "Partner zero or all ones: 14, judged first."
unfoldable pub add_link : Board → ℕ → Key → Changed
add_link b a k = if no_address a then changed (refused 14) b else add_to b a k (link_of b.links a)

-- "Remove link key (zeroes its entry): 13 if absent (address 0 always is)."
abbrev pub remove_at : Board → Option ℕ → Changed
remove_at b (Some i) = changed done (with_link b i no_link)
remove_at b None = changed (refused 13) b

unfoldable pub remove_link : Board → ℕ → Changed
remove_link b a = if a == 0 then changed (refused 13) b else remove_at b (link_of b.links a)

-- ---- senders

-- "forget sender of a slot: 13 if absent (address 0 always is). A slot above 1: 14, first. Forgetting frees the sender's row,
-- address and floor zero." The lists are judged before all else.
abbrev pub forget_at : Lists → Option ℕ → Freed
forget_at w (Some r) = freeing done (lists (set w.addrs r 0) (set w.floors r 0))
forget_at w None = freeing (refused 13) w

unfoldable pub forget : Lists → ℕ → ℕ → Freed
forget w i a =
    if not (lists_fit w) then freeing (refused 1) w
    else (if nat_lt 1 i then freeing (refused 14) w
    else (if a == 0 then freeing (refused 13) w
    else forget_at w (find_row w.addrs (i * half w) (half w) a)))
