-- Document 01, "Opening and sealing" (RULES 7.2): opening a network frame. "Opening writes the plain frame at the start of the output;
-- octets after it stay. A frame without the security bit is copied there and no table changes. The answer tells the
-- length, the sender (0 if unsecured) and the protection found (none or the key identifier)." "A refusal returns its
-- number and nothing else; state, lists and output stay."
-- Assumes nothing.
use Rattle.std.specs.Prelude.{Bool, false, not, List, ℕ, ◌+◌, ◌*◌, length, get_or, set, ◌==◌, nat_lt, nat_le, Option, Some, None}
use Rattle.settings.specs.Settings.{Settings, longest, top}
use Rattle.std.specs.Prelude.{if◌then◌else◌}
use Rattle.octets.specs.Choice.{both}
use Rattle.octets.specs.Keys.{Key, the_key}
use Rattle.octets.specs.Lists.{onto}
use Rattle.answers.specs.Numbers.{clear, under, FrameTold, opened, turned_down}
use Rattle.cipher.specs.Ccm.{Verdict, valid, invalid}
use Rattle.frames.specs.declared.Layer.TheVariants.{Network}
use Rattle.frames.specs.declared.Secured.{Secured}
use Rattle.frames.specs.Reading.{Reading, plain, secured, refused, reading}
use Rattle.board.specs.declared.Board.{Board}
use Rattle.board.specs.declared.Slot.{Slot}
use Rattle.board.specs.Rows.{Lists, lists, lists_fit, half, find_row}
use Rattle.board.specs.State.{slot_at}
use Rattle.board.specs.Requests.{slot_of}
use Rattle.seals.specs.Sealing.{message_of, plain_frame, looking}

-- what opening is lent: the two lists of heard senders, and the output
pub record Lent : Type 0 where
  pub lists : Lists
  pub out : List ℕ

abbrev pub lent : List ℕ → List ℕ → List ℕ → Lent
lent al fl o = record { lists = lists al fl; out = o }

-- the answer, and what it leaves of what was lent
pub record Opening : Type 0 where
  pub answer : FrameTold
  pub leaves : Lent

abbrev pub leaving : FrameTold → Lent → Opening
leaving t w = record { answer = t; leaves = w }

-- ---- the rows of slot i, of which there are m

-- the one that has address a
abbrev pub row_of : ℕ → Lists → ℕ → ℕ → Option ℕ
row_of m w i a = find_row w.addrs (i * m) m a

-- "A floor is the least counter still accepted": 0 where the sender was not heard
abbrev pub floor_at : List ℕ → Option ℕ → ℕ
floor_at fl (Some r) = get_or fl r 0
floor_at fl None = 0

unfoldable pub floor_of : ℕ → Lists → ℕ → ℕ → ℕ
floor_of m w i a = floor_at w.floors (row_of m w i a)

-- the sender's row; "a new sender takes the lowest free row of its slot"
abbrev pub or_free : ℕ → Lists → ℕ → Option ℕ → Option ℕ
or_free m w i (Some r) = Some r
or_free m w i None = row_of m w i 0

unfoldable pub row_for : ℕ → Lists → ℕ → ℕ → Option ℕ
row_for m w i a = or_free m w i (row_of m w i a)

-- row r has address a and floor n
abbrev pub with_row : Lists → ℕ → ℕ → ℕ → Lists
with_row w r a n = lists (set w.addrs r a) (set w.floors r n)

-- ---- "6, 7, 8, 9, 10"

-- 9 and 10, and a frame that passes: its row has the sender, and the floor goes to its counter plus 1
unfoldable pub admitted : List ℕ → Secured → Lent → Verdict → Option ℕ → Opening
admitted f s w invalid p = leaving (turned_down 9) w
admitted f s w (valid m) None = leaving (turned_down 10) w
admitted f s w (valid m) (Some r) =
    leaving (opened (s.header + length m) s.sender (under 1))
    (record { lists = with_row w.lists r s.sender (s.counter + 1); out = onto (plain_frame Network f s m) w.out })

-- 7 and 8, under the key of slot i
unfoldable pub opened_under : Settings → ℕ → Key → ℕ → List ℕ → Secured → Lent → Opening
opened_under z m k i f s w =
    if s.counter == top then leaving (turned_down 7) w
    else (if nat_lt s.counter (floor_of m w.lists i s.sender) then leaving (turned_down 8) w
    else admitted f s w (message_of z k f s) (row_for m w.lists i s.sender))

-- 6
unfoldable pub opened_keyed : Settings → ℕ → List Slot → List ℕ → Secured → Lent → Option ℕ → Opening
opened_keyed z m ss f s w (Some i) = opened_under z m (the_key (slot_at ss i).key) i f s w
opened_keyed z m ss f s w None = leaving (turned_down 6) w

-- ---- "1, 2, then 3 for the control field, 4, 3 up to the security control, 5 for it, 3 for the rest and the tag, 5 for the
-- sender" (reading), and what follows

unfoldable pub opened_read : Settings → ℕ → List Slot → List ℕ → Lent → Reading → Opening
opened_read z m ss f w (refused n) = leaving (turned_down n) w
opened_read z m ss f w (plain n) = leaving (opened (length f) 0 clear) (record { lists = w.lists; out = onto f w.out })
opened_read z m ss f w (secured s) = opened_keyed z m ss f s w (slot_of ss s.sequence)

unfoldable pub open_network : Settings → Board → List ℕ → Lent → Opening
open_network z b f w =
    if not (both (nat_le longest (length w.out)) (lists_fit w.lists)) then leaving (turned_down 1) w
    else (if nat_lt longest (length f) then leaving (turned_down 2) w
    else opened_read z (half w.lists) b.slots f w (reading z Network f 0))

-- ---- the look: whether the tag of a frame that is not too long (2) fits the key that is found, whatever the counter

unfoldable pub looked_keyed : Settings → List Slot → List ℕ → Secured → Option ℕ → Bool
looked_keyed z ss f s (Some i) = looking z (the_key (slot_at ss i).key) f s
looked_keyed z ss f s None = false

unfoldable pub looked_read : Settings → List Slot → List ℕ → Reading → Bool
looked_read z ss f (refused n) = false
looked_read z ss f (plain n) = false
looked_read z ss f (secured s) = looked_keyed z ss f s (slot_of ss s.sequence)

unfoldable pub look_network : Settings → Board → List ℕ → Bool
look_network z b f = if nat_lt longest (length f) then false else looked_read z b.slots f (reading z Network f 0)
