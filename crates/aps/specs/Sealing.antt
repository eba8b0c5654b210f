-- Document 01, "Opening and sealing" (RULES 8.3): sealing an APS frame. "Sealing takes a plain frame: an APS frame [uses] the
-- partner's entry and identifier 0, 2 or 3 named by the caller (else 14)." "Sealing always sends the sender, 13 octets." "Sealing: 1,
-- 2, 3, 4, 3, 14, 6, 7", and document 02 (vi): 17, "judged after 7".
-- Assumes nothing.
use Rattle.std.specs.Prelude.{Bool, not, List, ℕ, length, ◌==◌, nat_lt, nat_le, Option, Some, None}
use Rattle.settings.specs.Settings.{Settings, longest, longest_aps_plain}
use Rattle.std.specs.Prelude.{if◌then◌else◌}
use Rattle.octets.specs.Choice.{both}
use Rattle.octets.specs.Keys.{Key, the_key}
use Rattle.answers.specs.Numbers.{turned_down}
use Rattle.frames.specs.declared.Layer.TheVariants.{Aps}
use Rattle.frames.specs.Reading.{PlainReading, unread, headed, reading_plain}
use Rattle.board.specs.declared.Board.{Board}
use Rattle.board.specs.State.{link_at}
use Rattle.board.specs.Requests.{link_of}
use Rattle.board.specs.Sending.{Framed, framed, send}
use Rattle.seals.specs.Sealing.{sealed_frame}
use Rattle.aps.specs.Keys.{key_for}

-- an identifier that names a key of a link entry: 0, 2 or 3
unfoldable pub named : ℕ → Bool
named k = both (nat_le k 3) (not (k == 1))

-- 7, 17, and the frame under the key that identifier k names of a link key
unfoldable pub sealed_under : Settings → Board → List ℕ → List ℕ → ℕ → ℕ → Key → Framed
sealed_under z b f o h k key = send b (sealed_frame z (key_for key k) Aps k b.outgoing b.own 0 f h) o

-- 6
unfoldable pub sealed_for : Settings → Board → List ℕ → List ℕ → ℕ → ℕ → Option ℕ → Framed
sealed_for z b f o h k (Some i) = sealed_under z b f o h k (the_key (link_at b.links i).key)
sealed_for z b f o h k None = framed (turned_down 6) b o

-- 3, 4, 3; then 14
unfoldable pub sealed_read : Settings → Board → List ℕ → ℕ → ℕ → List ℕ → PlainReading → Framed
sealed_read z b f a k o (unread n) = framed (turned_down n) b o
sealed_read z b f a k o (headed h) =
    if named k then sealed_for z b f o h k (link_of b.links a) else framed (turned_down 14) b o

-- 1, 2
unfoldable pub seal_aps : Settings → Board → List ℕ → ℕ → ℕ → List ℕ → Framed
seal_aps z b f a k o =
    if nat_lt (length o) longest then framed (turned_down 1) b o
    else (if nat_lt (longest_aps_plain z) (length f) then framed (turned_down 2) b o
    else sealed_read z b f a k o (reading_plain Aps f))
