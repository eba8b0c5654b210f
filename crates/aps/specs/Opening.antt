-- Document 01, "Opening and sealing" (RULES 7.3): opening an APS frame. "The sender's link entry is used." "One link entry has one
-- floor for its three keys." "A refusal returns its number and nothing else; state, lists and output stay."
-- Assumes nothing.
use Rattle.std.specs.Prelude.{Bool, false, List, ℕ, ◌+◌, length, ◌==◌, nat_lt, Option, Some, None}
use Rattle.settings.specs.Settings.{Settings, longest, longest_aps, top}
use Rattle.std.specs.Prelude.{if◌then◌else◌}
use Rattle.octets.specs.Keys.{Key, the_key}
use Rattle.octets.specs.Lists.{onto}
use Rattle.answers.specs.Numbers.{clear, under, opened, turned_down}
use Rattle.cipher.specs.Ccm.{Verdict, valid, invalid}
use Rattle.frames.specs.declared.Layer.TheVariants.{Aps}
use Rattle.frames.specs.declared.Secured.{Secured}
use Rattle.frames.specs.Security.{identifier_of}
use Rattle.frames.specs.Reading.{Reading, refused, plain, secured, reading}
use Rattle.board.specs.declared.Board.{Board}
use Rattle.board.specs.declared.Link.{Link}
use Rattle.board.specs.State.{link_at, with_link}
use Rattle.board.specs.Requests.{link_of}
use Rattle.board.specs.Sending.{Framed, framed}
use Rattle.seals.specs.Sealing.{message_of, plain_frame, looking}
use Rattle.aps.specs.Keys.{key_for}

-- an entry with another floor
abbrev pub floored : Link → ℕ → Link
floored l n = record { present = l.present; partner = l.partner; key = l.key; floor = n }

-- entry i with another floor, all else as it was
abbrev pub with_floor : Board → ℕ → ℕ → Board
with_floor b i n = with_link b i (floored (link_at b.links i) n)

-- the key that a secured frame names, of an entry
abbrev pub key_named : Link → Secured → Key
key_named l s = key_for (the_key l.key) (identifier_of s.control)

-- ---- "6, 7, 8, 9": there is always room

-- 9, and a frame that passes: the entry's floor goes to its counter plus 1
unfoldable pub admitted : Board → List ℕ → Secured → List ℕ → ℕ → Verdict → Framed
admitted b f s o i invalid = framed (turned_down 9) b o
admitted b f s o i (valid m) =
    framed (opened (s.header + length m) s.sender (under (identifier_of s.control))) (with_floor b i (s.counter + 1))
    (onto (plain_frame Aps f s m) o)

-- 7 and 8, under a key of entry i
unfoldable pub opened_under : Settings → Board → List ℕ → Secured → List ℕ → ℕ → Framed
opened_under z b f s o i =
    if s.counter == top then framed (turned_down 7) b o
    else (if nat_lt s.counter (link_at b.links i).floor then framed (turned_down 8) b o
    else admitted b f s o i (message_of z (key_named (link_at b.links i) s) f s))

-- 6
unfoldable pub opened_keyed : Settings → Board → List ℕ → Secured → List ℕ → Option ℕ → Framed
opened_keyed z b f s o (Some i) = opened_under z b f s o i
opened_keyed z b f s o None = framed (turned_down 6) b o

-- ---- 1, 2, reading, and what follows

unfoldable pub opened_read : Settings → Board → List ℕ → List ℕ → Reading → Framed
opened_read z b f o (refused n) = framed (turned_down n) b o
opened_read z b f o (plain n) = framed (opened (length f) 0 clear) b (onto f o)
opened_read z b f o (secured s) = opened_keyed z b f s o (link_of b.links s.sender)

unfoldable pub open_aps : Settings → Board → List ℕ → ℕ → List ℕ → Framed
open_aps z b f given o =
    if nat_lt (length o) longest then framed (turned_down 1) b o
    else (if nat_lt longest_aps (length f) then framed (turned_down 2) b o
    else opened_read z b f o (reading z Aps f given))

-- ---- the look: whether the tag of a frame that is not too long (2) fits the key that is found, whatever the counter

unfoldable pub looked_keyed : Settings → List Link → List ℕ → Secured → Option ℕ → Bool
looked_keyed z ls f s (Some i) = looking z (key_named (link_at ls i) s) f s
looked_keyed z ls f s None = false

unfoldable pub looked_read : Settings → List Link → List ℕ → Reading → Bool
looked_read z ls f (refused n) = false
looked_read z ls f (plain n) = false
looked_read z ls f (secured s) = looked_keyed z ls f s (link_of ls s.sender)

unfoldable pub look_aps : Settings → Board → List ℕ → ℕ → Bool
look_aps z b f given =
    if nat_lt longest_aps (length f) then false else looked_read z b.links f (reading z Aps f given)
