-- Document 01, "The auxiliary header and the nonce" (RULES 6): security control, frame counter (4), sender (8 if the extended-nonce
-- bit is set), key sequence number (1 if the key identifier is 1). "Control bits: 0-2 level, 3-4 key identifier, 5
-- extended nonce. On the wire the level is sent as 0 and read as anything; in the nonce and in the authenticated octets
-- it is replaced by 5, other bits as received."
-- Assumes nothing.
use Rattle.std.specs.Prelude.{List, [], ◌∷◌, ◌++◌, ℕ, ◌+◌, ◌*◌, ◌/◌, ◌%◌, take, set, ◌==◌}
use Rattle.std.specs.Prelude.{if◌then◌else◌}
use Rattle.octets.specs.Least.{number_at, spelled}
use Rattle.octets.specs.Lists.{at}
use Rattle.settings.specs.Settings.{Settings}

-- ---- the security control

unfoldable pub identifier_of : ℕ → ℕ
identifier_of c = c / 8 % 4

unfoldable pub extended_of : ℕ → ℕ
extended_of c = c / 32 % 2

-- "it is replaced by 5"
unfoldable pub with_level : Settings → ℕ → ℕ
with_level z c = c / 8 * 8 + z.level

-- as it is sent: level 0, the identifier, the extended nonce
unfoldable pub wire_control : ℕ → ℕ
wire_control k = k * 8 + 32

-- 1 if the key identifier is 1: that key's sequence number is sent
unfoldable pub numbered : ℕ → ℕ
numbered c = if identifier_of c == 1 then 1 else 0

-- ---- the auxiliary header that starts at place h of a frame f

unfoldable pub aux_length : ℕ → ℕ
aux_length c = 5 + 8 * extended_of c + numbered c

unfoldable pub counter_of : List ℕ → ℕ → ℕ
counter_of f h = number_at 4 f (h + 1)

-- the sender that the frame carries, or the one that the caller gives
unfoldable pub sender_of : List ℕ → ℕ → ℕ → ℕ
sender_of f h given = if (extended_of (at f h)) == 1 then number_at 8 f (h + 5) else given

unfoldable pub sequence_of : List ℕ → ℕ → ℕ
sequence_of f h = if (identifier_of (at f h)) == 1 then at f (h + 5 + 8 * extended_of (at f h)) else 0

-- ---- what goes into CCM*

-- "Nonce: sender (8) and counter (4) in wire order, control (1) with level 5."
unfoldable pub nonce_of : Settings → ℕ → ℕ → ℕ → List ℕ
nonce_of z sender counter c = spelled 8 sender ++ (spelled 4 counter ++ (with_level z c ∷ []))

-- "Authenticated: frame header as sent, then the auxiliary header with level 5": the first n octets of a frame whose
-- security control stands at place h
unfoldable pub authenticated : Settings → List ℕ → ℕ → ℕ → List ℕ
authenticated z f h n = set (take n f) h (with_level z (at f h))

-- the auxiliary header as sealing sends it, with the sender always: "Security control, frame counter (4), sender (8 ..),
-- key sequence number (1 if the key identifier is 1)"
unfoldable pub auxiliary : ℕ → ℕ → ℕ → ℕ → List ℕ
auxiliary k counter sender seq =
    wire_control k ∷ (spelled 4 counter ++ (spelled 8 sender ++ (if k == 1 then seq ∷ [] else [])))
