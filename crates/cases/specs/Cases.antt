-- Document 01, "Bench cases" (RULES 12.1): "Marked M, twelve in all, are shown of the definitions, gathered as one list and one
-- claim". M2 to M8 are the cipher's.
-- Assumes nothing.
use Rattle.std.specs.Prelude.{◌≡◌, true, false, List, [], ◌∷◌, ℕ, ◌+◌, ◌≤◌, length, Some}
use Rattle.settings.specs.Settings.{ours, top}
use Rattle.octets.specs.Addresses.{no_address}
use Rattle.octets.specs.Keys.{Key}
use Rattle.octets.specs.Least.{number_at}
use Rattle.octets.specs.Lists.{at}
use Rattle.answers.specs.Numbers.{FrameTold, turned_down}
use Rattle.cipher.specs.Ccm.{valid}
use Rattle.cipher.specs.Cases.{M2, M3, M4, M5, M6, M7, M8}
use Rattle.frames.specs.declared.Layer.TheVariants.{Network}
use Rattle.frames.specs.declared.Secured.{Secured}
use Rattle.frames.specs.Security.{identifier_of, extended_of, wire_control, nonce_of}
use Rattle.frames.specs.Network.{network_control, network_form, network_secured, network_header, network_keyed}
use Rattle.frames.specs.Reading.{refused, secured, announced, reading}
use Rattle.board.specs.declared.Board.{Board}
use Rattle.board.specs.Rows.{Lists, lists_fit, half}
use Rattle.board.specs.State.{link_at}
use Rattle.board.specs.Requests.{link_of}
use Rattle.seals.specs.Sealing.{message_of}
use Rattle.network.specs.Sealing.{identifier}
use Rattle.network.specs.Opening.{Lent, Opening, floor_of, row_for, opened_under}
use Rattle.aps.specs.Opening as aps

-- "M1 sender 0x0000000100000000, counter 5, network: nonce 00 00 00 00 01 00 00 00 05 00 00 00 2D."
abbrev pub M1 : Type 0
M1 =
    nonce_of ours 0x0000000100000000 5 (wire_control identifier)
    ≡ 0x00 ∷ 0x00 ∷ 0x00 ∷ 0x00 ∷ 0x01 ∷ 0x00 ∷ 0x00 ∷ 0x00 ∷ 0x05 ∷ 0x00 ∷ 0x00 ∷ 0x00 ∷ 0x2D ∷ []

-- ---- M9 to M11 are of a sender's row as of a link entry

-- a frame opened under a key: its counter, the floor that it found, the answer, what else it has to pass, and the floor left
pub record Trial : Type 1 where
  pub counter : ℕ
  pub floor : ℕ
  pub answer : FrameTold
  pub Passes : Type 0
  pub leaves : ℕ

-- every other check, at the network layer: the lists (1), the tag (9), and a row (10)
pub record PassesRow (k : Key) (f : List ℕ) (s : Secured) (w : Lists) (i : ℕ) : Type 0 where
  pub lists : lists_fit w ≡ true
  pub message : List ℕ
  pub tag : message_of ours k f s ≡ valid message
  pub row : ℕ
  pub found : row_for (half w) w i s.sender ≡ Some row

-- the floor that sender a finds in slot i
abbrev pub floor_in : Lists → ℕ → ℕ → ℕ
floor_in w i a = floor_of (half w) w i a

-- opening under the key k of slot i
abbrev pub under_key : Key → List ℕ → Secured → Lent → ℕ → Opening
under_key k f s w i = opened_under ours (half w.lists) k i f s w

abbrev pub at_row : Key → List ℕ → Secured → Lent → ℕ → Trial
at_row k f s w i =
    record {
      counter = s.counter;
      floor = floor_in w.lists i s.sender;
      answer = (under_key k f s w i).answer;
      Passes = PassesRow k f s w.lists i;
      leaves = floor_in (under_key k f s w i).leaves.lists i s.sender;
    }

-- every other check, at the APS layer: the sender's entry (6), and the tag (9)
pub record PassesEntry (b : Board) (f : List ℕ) (s : Secured) (i : ℕ) : Type 0 where
  pub entry : link_of b.links s.sender ≡ Some i
  pub message : List ℕ
  pub tag : message_of ours (aps.key_named (link_at b.links i) s) f s ≡ valid message

abbrev pub at_entry : Board → List ℕ → Secured → List ℕ → ℕ → Trial
at_entry b f s o i =
    record {
      counter = s.counter;
      floor = (link_at b.links i).floor;
      answer = (aps.opened_under ours b f s o i).answer;
      Passes = PassesEntry b f s i;
      leaves = (link_at (aps.opened_under ours b f s o i).board.links i).floor;
    }

-- at either layer
abbrev pub AtBoth : (Trial → Type 0) → Type 0
AtBoth P =
    ((k : Key) (f : List ℕ) (s : Secured) (w : Lent) (i : ℕ) → P (at_row k f s w i))
    × ((b : Board) (f : List ℕ) (s : Secured) (o : List ℕ) (i : ℕ) → P (at_entry b f s o i))

-- "M9 floor 7: counter 6 gives 8, counter 7 leaves floor 8."
abbrev pub Seven : Trial → Type 0
Seven t = t.floor ≡ 7 → (t.counter ≡ 6 → t.answer ≡ turned_down 8) × (t.counter ≡ 7 → t.Passes → t.leaves ≡ 8)

abbrev pub M9 : Type 0
M9 = AtBoth Seven

-- "M10 counter 4,294,967,294 leaves floor 4,294,967,295."
abbrev pub Last : Trial → Type 0
Last t = t.counter ≡ 4294967294 → t.floor ≤ 4294967294 → t.Passes → t.leaves ≡ 4294967295

abbrev pub M10 : Type 0
M10 = AtBoth Last

-- "M11 the next value gives 7 whatever the floor."
abbrev pub Top : Trial → Type 0
Top t = t.counter ≡ top → t.answer ≡ turned_down 7

abbrev pub M11 : Type 0
M11 = AtBoth Top

-- ---- M12

-- a secured network frame with an 8-octet header, by its control fields
pub record Eight (f : List ℕ) : Type 0 where
  pub formed : network_form (network_control f) ≡ true
  pub marked : network_secured (network_control f) ≡ true
  pub header : network_header f (network_control f) ≡ 8
  pub suited : network_keyed (identifier_of (at f 8)) (extended_of (at f 8)) ≡ true

-- a frame with an empty payload: it is read, behind both headers stands the tag alone, and whatever key opens it the message is
-- empty
pub record Empty (f : List ℕ) (s : Secured) : Type 0 where
  pub reads : reading ours Network f 0 ≡ secured s
  pub bare : length f ≡ s.header + s.aux + ours.tag
  pub opens : (k : Key) (m : List ℕ) → message_of ours k f s ≡ valid m → m ≡ []

-- "M12 a secured network frame of 25 octets with an 8-octet header is cut short (3); 26 carries an empty payload." The sender
-- stands at place 13.
abbrev pub M12 : Type 0
M12 =
    (f : List ℕ) → Eight f
    → (length f ≡ 25 → reading ours Network f 0 ≡ refused 3)
    × (length f ≡ 26 → no_address (number_at 8 f 13) ≡ false → Empty f (announced f 8 0))

-- the list, and the one claim
abbrev pub Cases : Type 0
Cases = M1 × M2 × M3 × M4 × M5 × M6 × M7 × M8 × M9 × M10 × M11 × M12
