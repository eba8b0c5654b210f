-- The story that the log tells (RULES 11.3). It is read off the calls and what was replied, the frames handed out with it, and the cuts,
-- and never off a board.
-- Assumes nothing.
use Rattle.std.specs.Prelude.{List, [], ◌∷◌, ◌++◌, ℕ}
use Rattle.settings.specs.Settings.{Settings}
use Rattle.std.specs.Prelude.{if◌then◌else◌}
use Rattle.history.specs.Calls.{Call, install, switch, add_link, remove_link, forget, opening, sealing, looking, writing, routing, next_mark, marked, Reply, refuses, handed_out, Exchange}
use Rattle.history.specs.Deeds.{Deed, called, wrote, cut}
use Rattle.history.specs.Events.{Holder, slot, link, Installation, none, key, Event, keyed, forgot, heard, sent, lost, key_in, same_key, holder_for}
use Rattle.frames.specs.declared.Layer.{Layer}
use Rattle.frames.specs.Reading.{Reading, refused, plain, secured, reading}

-- "A call that changes nothing installs nothing"
abbrev pub installing : List Event → Holder → Installation → List Event
installing h x k = if same_key (key_in h x) k then [] else keyed x k ∷ []

-- a secured frame f was opened, and the plain frame p handed out
abbrev pub hearing : List Event → Layer → List ℕ → List ℕ → Reading → List Event
hearing h l f p (secured s) =
    heard (holder_for h l s) (record { sender = s.sender; counter = s.counter; octets = f; plain = p }) ∷ []
hearing h l f p (plain n) = []
hearing h l f p (refused n) = []

-- What a call tells that was not refused and handed out the frame p. Document 02 (i): "Demand 3 counts the inner frame as sealed
-- once, by its own seal; wrapping it or sending it on seals nothing."
abbrev pub telling : Settings → List Event → Call → List ℕ → List Event
telling z h (install i n k) p = installing h (slot i) (key n k)
telling z h (switch n) p = []
telling z h (add_link a k) p = installing h (link a) (key 0 k)
telling z h (remove_link a) p = keyed (link a) none ∷ []
telling z h (forget i a) p = forgot (slot i) a ∷ []
telling z h (opening l f g o) p = hearing h l f p (reading z l f g)
telling z h (sealing l f a k o) p = sent (record { layer = l; plain = f; octets = p }) ∷ []
telling z h (looking l f g) p = []
telling z h (writing a c k r o) p = []
telling z h (routing f q) p = []
telling z h next_mark p = []
telling z h (marked m) p = []

-- what a call and its reply tell, after the events h
abbrev pub events_of : Settings → List Event → Call → Reply → List Event
events_of z h c r = if refuses r then [] else telling z h c (handed_out r)

abbrev pub story : Settings → List (Deed Exchange) → List Event
story z [] = []
story z (called x ∷ ds) = events_of z (story z ds) x.call x.reply ++ story z ds
story z (wrote m ∷ ds) = story z ds
story z (cut ∷ ds) = lost ∷ story z ds
