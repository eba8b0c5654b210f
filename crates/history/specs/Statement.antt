-- Demand 3 (RULES 11.6, 11.7), of any board, by its replies to any calls, over any cuts. "No two sealed frames carry the same outgoing counter." "A
-- secured frame is opened exactly when 01's checks of lengths, form, key, tag and room pass and its counter is below 4,294,967,295 and
-- above every counter opened before from that sender under that key since the key was installed or the sender forgotten."
-- Assumes nothing.
use Rattle.std.specs.Prelude.{◌≡◌, Bool, true, false, not, List, [], ◌∷◌, ℕ, length, ◌==◌, nat_lt, nat_le}
use Rattle.settings.specs.Settings.{Settings, longest, longest_aps, top}
use Rattle.std.specs.Prelude.{if◌then◌else◌}
use Rattle.octets.specs.Choice.{both}
use Rattle.octets.specs.Keys.{Key}
use Rattle.octets.specs.Lists.{Octets}
use Rattle.history.specs.Calls.{Call, opening, Reply, answered, gave, looked, sent_on, next_is, refuses}
use Rattle.history.specs.Deeds.{Deed, Replies, log, SealsOctets, writes_answered, tells_stored}
use Rattle.history.specs.Events.{Holder, slot, link, nowhere, Installation, none, key, HeardFrame, SentFrame, Event, key_in, holder_for, heard_in, is_from, senders, sent_in}
use Rattle.history.specs.Story.{story}
use Rattle.answers.specs.Numbers.{clear, under}
use Rattle.answers.specs.Numbers.{opened, sealed, written, turned_down}
use Rattle.frames.specs.declared.Layer.{Layer}
use Rattle.frames.specs.declared.Layer.TheVariants.{Network, Aps}
use Rattle.frames.specs.declared.Secured.{Secured}
use Rattle.frames.specs.Security.{identifier_of}
use Rattle.frames.specs.Reading.{Reading, refused, plain, secured, reading}
use Rattle.seals.specs.Sealing.{genuine}
use Rattle.aps.specs.Keys.{key_for}

-- ---- the first statement: the counters rise from each sealed frame to the next, "over any number of cuts"

-- as receivers read them, who give no sender
abbrev pub readings : Settings → List SentFrame → List Reading
readings z [] = []
readings z (s ∷ ss) = reading z s.layer s.octets 0 ∷ readings z ss

-- the frame before, if there is one, is secured and carries a counter below n
abbrev pub lower : List Reading → ℕ → Bool
lower [] n = true
lower (secured s ∷ rs) n = nat_lt s.counter n
lower (plain k ∷ rs) n = false
lower (refused k ∷ rs) n = false

abbrev pub rising : List Reading → Bool
rising [] = true
rising (secured s ∷ rs) = both (lower rs s.counter) (rising rs)
rising (plain k ∷ rs) = false
rising (refused k ∷ rs) = false

-- where the store held `found` at first
abbrev pub First : Settings → ℕ → Replies → Type 0
First z found board =
    (ds : List (Deed Call)) → SealsOctets ds → writes_answered (log board ds) ≡ true → tells_stored found (log board ds) ≡ true
    → rising (readings z (sent_in (story z (log board ds)))) ≡ true

-- ---- the second statement, with room for m senders under a slot's key: "01's 32 reads half the length" (document 02 (iii))

-- lengths: "network input over 116, APS over 108"
abbrev pub longest_at : Layer → ℕ
longest_at Network = longest
longest_at Aps = longest_aps

-- the key of that layer that a secured frame names, of the octets installed
abbrev pub key_at : Layer → Secured → Key → Key
key_at Network s k = k
key_at Aps s k = key_for k (identifier_of s.control)

-- "above every counter opened before from that sender"
abbrev pub above_all : ℕ → ℕ → List HeardFrame → Bool
above_all a n [] = true
above_all a n (r ∷ l) = both (if r.sender == a then nat_lt r.counter n else true) (above_all a n l)

-- "There is room if the sender was opened under that installation and not forgotten since, or if fewer than 32 senders were."
-- A link entry has one sender, its partner.
abbrev pub room : ℕ → List Event → Holder → ℕ → Bool
room m h (slot i) a = if is_from a (heard_in h (slot i)) then true else nat_lt (senders (heard_in h (slot i))) m
room m h (link p) a = true
room m h nowhere a = false

-- key, counter, tag and room
unfoldable pub passes_under : Settings → ℕ → List Event → Layer → List ℕ → Secured → Holder → Installation → Bool
passes_under z m h l f s x none = false
passes_under z m h l f s x (key n k) =
    both (nat_lt s.counter top)
    (both (above_all s.sender s.counter (heard_in h x))
    (both (genuine z (key_at l s k) f s) (room m h x s.sender)))

-- form: the frame is read as secured
unfoldable pub passes_read : Settings → ℕ → List Event → Layer → List ℕ → Reading → Bool
passes_read z m h l f (secured s) = passes_under z m h l f s (holder_for h l s) (key_in h (holder_for h l s))
passes_read z m h l f (plain n) = false
passes_read z m h l f (refused n) = false

-- lengths: "output under 116 octets"
unfoldable pub passes : Settings → ℕ → List Event → Layer → List ℕ → ℕ → List ℕ → Bool
passes z m h l f g o = both (nat_le longest (length o)) (both (nat_le (length f) (longest_at l)) (passes_read z m h l f (reading z l f g)))

-- a reply that tells a key's identifier
abbrev pub tells_key : Reply → Bool
tells_key (answered t) = false
tells_key (gave (opened n a clear) o) = false
tells_key (gave (opened n a (under k)) o) = true
tells_key (gave (sealed n) o) = false
tells_key (gave (written n) o) = false
tells_key (gave (turned_down n) o) = false
tells_key (looked t) = false
tells_key (sent_on t s) = false
tells_key (next_is m) = false

-- A secured frame, and one that reading refuses, is opened, which is any reply but a refusal, exactly when the checks pass (t).
-- Of an unsecured one the reply tells no key.
abbrev pub Rightly : Reading → Reply → Bool → Type 0
Rightly (secured s) r t = not (refuses r) ≡ t
Rightly (refused n) r t = not (refuses r) ≡ t
Rightly (plain n) r t = tells_key r ≡ false

-- of a frame of octets, after any deeds, whatever the host writes and tells
abbrev pub Second : Settings → ℕ → Replies → Type 0
Second z m board =
    (ds : List (Deed Call)) (l : Layer) (f : List ℕ) (g : ℕ) (o : List ℕ) → Octets f
    → Rightly (reading z l f g) (board ds (opening l f g o)) (passes z m (story z (log board ds)) l f g o)
