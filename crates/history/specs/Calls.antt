-- Demand 3 is said "over any sequence of calls" (RULES 11.1): the requests of document 01, routing, of 02 (i), and the two of a step, of
-- 02 (vi), with their arguments, and what each answers.
-- Assumes nothing.
use Rattle.std.specs.Prelude.{Bool, true, false, List, [], ℕ, take, ◌==◌}
use Rattle.octets.specs.Keys.{Key}
use Rattle.answers.specs.Numbers.{Told, done, refused, FrameTold, opened, sealed, written, turned_down, ProtectionTold}
use Rattle.frames.specs.declared.Layer.{Layer}
use Rattle.commands.specs.declared.Command.{Command}
use Rattle.router.specs.Routing.{RouteTold, onward, halted}

-- The board and the lists are what the last call left; every other argument is here, and may be anything. The network layer
-- looks neither at a sender that the caller gives nor at a partner and a key identifier.
pub data Call : Type 0 where
  -- slot, sequence number, key
  install : ℕ → ℕ → Key → Call
  -- sequence number
  switch : ℕ → Call
  -- partner, key
  add_link : ℕ → Key → Call
  -- partner
  remove_link : ℕ → Call
  -- slot, sender
  forget : ℕ → ℕ → Call
  -- frame, the sender that the caller gives, output
  opening : Layer → List ℕ → ℕ → List ℕ → Call
  -- plain frame, partner, key identifier, output
  sealing : Layer → List ℕ → ℕ → ℕ → List ℕ → Call
  -- frame, the sender that the caller gives
  looking : Layer → List ℕ → ℕ → Call
  -- whether it asks for an acknowledgement, command, its key or hash, its TLVs or inner frame, output
  writing : Bool → Command → List ℕ → List ℕ → List ℕ → Call
  -- frame, its protection; the router looks at neither board nor lists
  routing : List ℕ → ProtectionTold → Call
  -- the first request of a step: which mark is the next
  next_mark : Call
  -- the second: the mark that the store now holds
  marked : ℕ → Call

-- what a call answers; one that writes a frame leaves an output too, the router hands an inner frame on, and the first request of a
-- step answers the next mark
pub data Reply : Type 0 where
  answered : Told → Reply
  gave : FrameTold → List ℕ → Reply
  looked : Bool → Reply
  sent_on : RouteTold → List ℕ → Reply
  next_is : ℕ → Reply

-- "A refusal returns its number and nothing else": every other reply is none, whatever it tells
abbrev pub refuses : Reply → Bool
refuses (answered done) = false
refuses (answered (refused n)) = true
refuses (gave (opened n a p) o) = false
refuses (gave (sealed n) o) = false
refuses (gave (written n) o) = false
refuses (gave (turned_down n) o) = true
refuses (looked t) = false
refuses (sent_on (onward a) s) = false
refuses (sent_on (halted n) s) = true
refuses (next_is m) = false

-- the frame that a reply hands out: of the output that it left, as many octets as it tells; of the router, the inner frame
abbrev pub handed_out : Reply → List ℕ
handed_out (answered t) = []
handed_out (gave (opened n a p) o) = take n o
handed_out (gave (sealed n) o) = take n o
handed_out (gave (written n) o) = take n o
handed_out (gave (turned_down n) o) = []
handed_out (looked t) = []
handed_out (sent_on (onward a) s) = s
handed_out (sent_on (halted n) s) = []
handed_out (next_is m) = []

-- a call with its reply
pub record Exchange : Type 0 where
  pub call : Call
  pub reply : Reply

-- the plain frame that a call hands in to be sealed
abbrev pub to_seal : Call → List ℕ
to_seal (install i n k) = []
to_seal (switch n) = []
to_seal (add_link a k) = []
to_seal (remove_link a) = []
to_seal (forget i a) = []
to_seal (opening l f g o) = []
to_seal (sealing l f a k o) = f
to_seal (looking l f g) = []
to_seal (writing a c k r o) = []
to_seal (routing f p) = []
to_seal next_mark = []
to_seal (marked m) = []

-- a call that tells the board a mark tells it this one, m
abbrev pub tells : Call → ℕ → Bool
tells (install i n k) m = true
tells (switch n) m = true
tells (add_link a k) m = true
tells (remove_link a) m = true
tells (forget i a) m = true
tells (opening l f g o) m = true
tells (sealing l f a k o) m = true
tells (looking l f g) m = true
tells (writing a c k r o) m = true
tells (routing f p) m = true
tells next_mark m = true
tells (marked n) m = n == m
