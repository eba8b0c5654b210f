-- Document 01, "The state and the lists" (RULES 11.2): "In demand 3 a key is one installation: a network slot as last replaced, or a
-- link entry as last added, whichever identifier is used. A call that changes nothing installs nothing, and a sender is forgotten
-- under the named slot's key only." What happened, and what is told by it: which key a slot or partner has, which frames were
-- opened under it since when, and which were sealed. A cut empties the first two and not the third: document 02 (vi), "Demand 3's first
-- statement must now hold over any number of cuts. Its second starts afresh at a cut." Nothing here looks at a board or at the lent lists.
-- Assumes nothing.
use Rattle.std.specs.Prelude.{Bool, true, false, List, [], ◌∷◌, ℕ, suc, ◌==◌, Option, Some, None}
use Rattle.std.specs.Prelude.{if◌then◌else◌}
use Rattle.octets.specs.Choice.{both}
use Rattle.octets.specs.Keys.{Key}
use Rattle.octets.specs.Lists.{eq_list}
use Rattle.frames.specs.declared.Layer.{Layer}
use Rattle.frames.specs.declared.Layer.TheVariants.{Network, Aps}
use Rattle.frames.specs.declared.Secured.{Secured}
use Rattle.board.specs.Places.{first_at}

-- ---- events

-- where a key stands: a network slot, a partner's link entry, or nowhere
pub data Holder : Type 0 where
  slot : ℕ → Holder
  link : ℕ → Holder
  nowhere : Holder

-- what stands there: no key, or one, with its sequence number (0 of a link key)
pub data Installation : Type 0 where
  none : Installation
  key : ℕ → Key → Installation

-- a secured frame that was opened: its sender and counter, its octets, and the plain frame that was handed out
pub record HeardFrame : Type 0 where
  pub sender : ℕ
  pub counter : ℕ
  pub octets : List ℕ
  pub plain : List ℕ

-- a frame that was sealed: what was handed in, and what was handed out
pub record SentFrame : Type 0 where
  pub layer : Layer
  pub plain : List ℕ
  pub octets : List ℕ

-- a holder has another key from now on, or none; a sender was forgotten there; a frame was opened under the key there; a frame
-- was sealed; the board lost power, and with it all keys and all that it heard. In every list of events the last one stands first.
pub data Event : Type 0 where
  keyed : Holder → Installation → Event
  forgot : Holder → ℕ → Event
  heard : Holder → HeardFrame → Event
  sent : SentFrame → Event
  lost : Event

abbrev pub same : Holder → Holder → Bool
same (slot i) (slot j) = i == j
same (slot i) (link b) = false
same (slot i) nowhere = false
same (link a) (slot j) = false
same (link a) (link b) = a == b
same (link a) nowhere = false
same nowhere y = false

-- ---- which key a slot or partner has

abbrev pub key_in : List Event → Holder → Installation
key_in [] x = none
key_in (keyed y k ∷ h) x = if same y x then k else key_in h x
key_in (forgot y a ∷ h) x = key_in h x
key_in (heard y r ∷ h) x = key_in h x
key_in (sent s ∷ h) x = key_in h x
key_in (lost ∷ h) x = none

abbrev pub numbered : Installation → ℕ → Bool
numbered none n = false
numbered (key q k) n = q == n

-- the same number and octets
abbrev pub same_key : Installation → Installation → Bool
same_key none y = false
same_key (key q j) none = false
same_key (key q j) (key n k) = both (q == n) (eq_list j.octets k.octets)

abbrev pub holder_at : Option ℕ → Holder
holder_at (Some i) = slot i
holder_at None = nowhere

-- the lowest slot whose key has number n
unfoldable pub slot_for : List Event → ℕ → Option ℕ
slot_for h n = first_at (λ i. numbered (key_in h (slot i)) n) 0 2

-- where the key of a secured frame stands
abbrev pub holder_for : List Event → Layer → Secured → Holder
holder_for h Network s = holder_at (slot_for h s.sequence)
holder_for h Aps s = link s.sender

-- ---- which frames were opened

-- all but those from sender a
abbrev pub without : ℕ → List HeardFrame → List HeardFrame
without a [] = []
without a (r ∷ l) = if r.sender == a then without a l else r ∷ without a l

-- under the key that x has, each since that key was installed and since its sender was last forgotten there
abbrev pub heard_in : List Event → Holder → List HeardFrame
heard_in [] x = []
heard_in (keyed y k ∷ h) x = if same y x then [] else heard_in h x
heard_in (forgot y a ∷ h) x = if same y x then without a (heard_in h x) else heard_in h x
heard_in (heard y r ∷ h) x = if same y x then r ∷ heard_in h x else heard_in h x
heard_in (sent s ∷ h) x = heard_in h x
heard_in (lost ∷ h) x = []

-- whether one of them was sender a's, and how many senders they have
abbrev pub is_from : ℕ → List HeardFrame → Bool
is_from a [] = false
is_from a (r ∷ l) = if r.sender == a then true else is_from a l

abbrev pub senders : List HeardFrame → ℕ
senders [] = 0
senders (r ∷ l) = if is_from r.sender l then senders l else suc (senders l)

-- ---- which frames were sealed

abbrev pub sent_in : List Event → List SentFrame
sent_in [] = []
sent_in (keyed y k ∷ h) = sent_in h
sent_in (forgot y a ∷ h) = sent_in h
sent_in (heard y r ∷ h) = sent_in h
sent_in (sent s ∷ h) = s ∷ sent_in h
sent_in (lost ∷ h) = sent_in h
