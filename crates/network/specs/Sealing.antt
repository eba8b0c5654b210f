-- Document 01, "Opening and sealing" (RULES 8.2): sealing a network frame. "Sealing takes a plain frame: a network frame uses the
-- active key. It writes the secured frame likewise, answers the length, and raises the outgoing counter by 1." "Sealing: 1, 2, 3,
-- 4, 3, 14, 6, 7", and document 02 (vi): 17, "judged after 7".
-- Assumes nothing.
use Rattle.std.specs.Prelude.{List, ℕ, length, nat_lt, nat_le, Option, Some, None}
use Rattle.settings.specs.Settings.{Settings, longest, longest_plain}
use Rattle.std.specs.Prelude.{if◌then◌else◌}
use Rattle.octets.specs.Choice.{both}
use Rattle.octets.specs.Keys.{the_key}
use Rattle.answers.specs.Numbers.{turned_down}
use Rattle.frames.specs.declared.Layer.TheVariants.{Network}
use Rattle.frames.specs.Reading.{PlainReading, unread, headed, reading_plain}
use Rattle.board.specs.declared.Board.{Board}
use Rattle.board.specs.declared.Slot.{Slot}
use Rattle.board.specs.State.{slot_at}
use Rattle.board.specs.Sending.{Framed, framed, send}
use Rattle.seals.specs.Sealing.{sealed_frame}

-- "Network: identifier 1 and extended nonce"
abbrev pub identifier : ℕ
identifier = 1

-- 7, 17 (send), and the frame under the key of a present slot
unfoldable pub sealed_under : Settings → Board → List ℕ → List ℕ → ℕ → Slot → Framed
sealed_under z b f o h s =
    send b (sealed_frame z (the_key s.key) Network identifier b.outgoing b.own s.seq f h) o

-- 6: "no present active slot"; there are slots 0 and 1
unfoldable pub sealed_by : Settings → Board → List ℕ → List ℕ → ℕ → Option ℕ → Framed
sealed_by z b f o h None = framed (turned_down 6) b o
sealed_by z b f o h (Some i) =
    if both (nat_le i 1) (slot_at b.slots i).present then sealed_under z b f o h (slot_at b.slots i) else framed (turned_down 6) b o

-- 3, 4, 3
unfoldable pub sealed_read : Settings → Board → List ℕ → List ℕ → PlainReading → Framed
sealed_read z b f o (unread n) = framed (turned_down n) b o
sealed_read z b f o (headed h) = sealed_by z b f o h b.active

-- 1, 2
unfoldable pub seal_network : Settings → Board → List ℕ → List ℕ → Framed
seal_network z b f o =
    if nat_lt (length o) longest then framed (turned_down 1) b o
    else (if nat_lt (longest_plain z) (length f) then framed (turned_down 2) b o
    else sealed_read z b f o (reading_plain Network f))
