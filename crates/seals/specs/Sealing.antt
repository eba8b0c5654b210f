-- Document 01, "The auxiliary header and the nonce" and "Opening and sealing" (RULES 6.7): what both layers do with a frame once they
-- have its key. "L is 2, the tag M is 4 octets".
-- Assumes nothing.
use Rattle.std.specs.Prelude.{◌≡◌, Bool, true, false, List, ◌++◌, ℕ, ◌+◌, ◌<◌, length, drop, ◌==◌, nat_le, Option, Some, None}
use Rattle.settings.specs.Settings.{Settings, longest, network_aux, aps_aux}
use Rattle.std.specs.Prelude.{if◌then◌else◌}
use Rattle.octets.specs.Choice.{both}
use Rattle.octets.specs.Keys.{Key}
use Rattle.octets.specs.Lists.{onto}
use Rattle.cipher.specs.Aes.{aes128}
use Rattle.cipher.specs.Ccm.{ccm_seal, ccm_open, Verdict, valid, invalid}
use Rattle.cipher.specs.Answers.{tag_length, Count, made, refused, Product, product}
use Rattle.frames.specs.declared.Layer.{Layer}
use Rattle.frames.specs.declared.Secured.{Secured}
use Rattle.frames.specs.Security.{wire_control, nonce_of, authenticated, auxiliary}
use Rattle.frames.specs.Making.{plain_header, secured_header}

-- ---- settings

-- settings over which what was sealed opens: three bits hold the level, and CCM* allows the tag
pub record Fair (z : Settings) : Type 0 where
  pub level : z.level < 8
  pub tag : tag_length z.tag ≡ true

-- ---- opening

-- "Authenticated: frame header as sent, then the auxiliary header with level 5"
abbrev pub authenticated_of : Settings → List ℕ → Secured → List ℕ
authenticated_of z f s = authenticated z f s.header (s.header + s.aux)

-- what stands behind both headers
abbrev pub body_of : List ℕ → Secured → List ℕ
body_of f s = drop (s.header + s.aux) f

abbrev pub nonce_for : Settings → Secured → List ℕ
nonce_for z s = nonce_of z s.sender s.counter s.control

unfoldable pub message_of : Settings → Key → List ℕ → Secured → Verdict
message_of z k f s = ccm_open (aes128 k.octets) z.tag (nonce_for z s) (authenticated_of z f s) (body_of f s)

abbrev pub is_valid : Verdict → Bool
is_valid (valid m) = true
is_valid invalid = false

-- whether the tag of a secured frame fits a key
unfoldable pub genuine : Settings → Key → List ℕ → Secured → Bool
genuine z k f s = is_valid (message_of z k f s)

-- "the plain frame (security bit cleared, auxiliary header and tag gone)"
unfoldable pub plain_frame : Layer → List ℕ → Secured → List ℕ → List ℕ
plain_frame l f s m = plain_header l f s.header ++ m

-- ---- sealing

-- the octets of the auxiliary header that is sent: "Network: identifier 1 .., 14 octets", and APS "13 octets"
unfoldable pub sent_octets : ℕ → ℕ
sent_octets k = if k == 1 then network_aux else aps_aux

-- the secured frame of a plain frame f with h octets of header: header, auxiliary header x, ciphertext and tag
unfoldable pub sealed_with : Settings → Key → List ℕ → Layer → List ℕ → List ℕ → ℕ → List ℕ
sealed_with z key n l x f h =
    (secured_header l f h ++ x)
    ++ ccm_seal (aes128 key.octets) z.tag n (authenticated z (secured_header l f h ++ x) h (h + length x)) (drop h f)

unfoldable pub sealed_frame : Settings → Key → Layer → ℕ → ℕ → ℕ → ℕ → List ℕ → ℕ → List ℕ
sealed_frame z key l k counter sender seq f h =
    sealed_with z key (nonce_of z sender counter (wire_control k)) l (auxiliary k counter sender seq) f h

-- ---- what the routines tell and leave

-- "9: tag wrong". A frame that is not what was announced has no tag that fits; the layers judge it, and the output, before.
abbrev pub told_unsealed : Option ℕ → Count
told_unsealed (Some n) = made n
told_unsealed None = refused 9

-- "14: request argument not allowed": an identifier above 3, a header that the frame does not have, no room. The layers
-- judge all three before.
abbrev pub told_enclosed : Option ℕ → Count
told_enclosed (Some n) = made n
told_enclosed None = refused 14

-- a frame written "at the start of the output; octets after it stay", and its length told
abbrev pub wrote : List ℕ → List ℕ → Product
wrote f o = product (made (length f)) (onto f o)

-- a frame that has what is announced of it, both headers and the tag, and a header that has the security bit
unfoldable pub sound : Settings → List ℕ → Secured → Bool
sound z f s = both (nat_le 2 s.header) (both (nat_le (s.header + s.aux + z.tag) (length f)) (nat_le (length f) longest))

abbrev pub unsealed_onto : Layer → List ℕ → Secured → List ℕ → Verdict → Product
unsealed_onto l f s o (valid m) = wrote (plain_frame l f s m) o
unsealed_onto l f s o invalid = product (refused 9) o

unfoldable pub unsealing : Settings → Key → Layer → List ℕ → Secured → List ℕ → Product
unsealing z k l f s o =
    if both (sound z f s) (nat_le longest (length o)) then unsealed_onto l f s o (message_of z k f s) else product (refused 9) o

unfoldable pub looking : Settings → Key → List ℕ → Secured → Bool
looking z k f s = both (sound z f s) (genuine z k f s)

-- a plain frame that has its header, one with the security bit, and leaves room for the auxiliary header and the tag
unfoldable pub sealable : Settings → ℕ → List ℕ → ℕ → Bool
sealable z k f h = both (nat_le 2 h) (both (nat_le h (length f)) (nat_le (length f + sent_octets k + z.tag) longest))

-- nothing is made for an identifier that two bits do not hold
unfoldable pub sealing : Settings → Key → Layer → ℕ → ℕ → ℕ → ℕ → List ℕ → ℕ → List ℕ → Product
sealing z key l k counter sender seq f h o =
    if both (nat_le k 3) (both (sealable z k f h) (nat_le longest (length o)))
    then wrote (sealed_frame z key l k counter sender seq f h) o
    else product (refused 14) o
