-- What sealing makes of a plain frame is read again as secured, with the fields that were sealed, and opens to that frame.
-- Stated once, for both layers.
-- Assumes nothing.
use mathlib.Core.Path.{◌≡◌, refl, ap, ap₂, ◌∙◌}
use mathlib.Core.Bool.{Bool, true, false}
use mathlib.Core.List.{List, [], ◌∷◌, ◌++◌, append_assoc}
use Prim.Native.Nat.{ℕ, zero, suc, ◌+◌, ◌^◌, ◌≤◌, ◌<◌}
use native.Mathlib.Omega.{arith}
use lib.Dec.{eqb}
use lib.ListN.{length, take, drop, set, take-append-drop}
use lib.Seq.{take_at, drop_at}
use borrow.Author.Tests.{eq-eqb, ne_eqb}
use Rattle.settings.specs.Settings.{Settings, longest}
use Rattle.octets.specs.Keys.{Key}
use Rattle.octets.proofs.AllOctets.{nil-octets, cons-octets, tail-octets, append-octets, take-octets, drop-octets}
use Rattle.octets.proofs.Numbers.{spelled-octets}
use Rattle.octets.specs.Addresses.{no_address}
use Rattle.std.specs.Prelude.{if◌then◌else◌}
use Rattle.octets.specs.Least.{spelled}
use Rattle.octets.specs.Lists.{Octets}
use Rattle.seals.specs.Sealing.{Fair, message_of, genuine, plain_frame, sent_octets, sealed_with, sealed_frame, wrote, unsealed_onto, unsealing, looking, sealing}
use Rattle.cipher.specs.Aes.{aes128}
use Rattle.cipher.specs.Ccm.{ccm_open, valid}
use Rattle.cipher.proofs.Opens.{tag-most}
use Rattle.cipher.proofs.Kept.{seal-octets}
use Rattle.cipher.proofs.RoundTrip.{aes-blocky, open-seal, seal-length}
use Rattle.frames.specs.declared.Layer.{Layer}
use Rattle.frames.specs.declared.Layer.TheVariants.{Network, Aps}
use Rattle.frames.specs.declared.Secured.{Secured}
use Rattle.frames.specs.Security.{wire_control, nonce_of, auxiliary}
use Rattle.frames.specs.Network.{network_keyed}
use Rattle.frames.specs.Aps.{aps_keyed}
use Rattle.frames.specs.Making.{bit_place, bit_value, cleared, marked, plain_header, secured_header}
use Rattle.frames.specs.Layers.{suits}
use Rattle.frames.specs.Reading.{secured, reading, headed, reading_plain}
use Rattle.frames.proofs.Controls.{wire-identifier, wire-extended}
use Rattle.frames.proofs.Layers.{least_header}
use Rattle.frames.proofs.Found.{plain-to-seal}
use Rattle.frames.proofs.Sent.{fields_of}
use Rattle.frames.proofs.ReadAgain.{read-sealed, plain-header-again}
use Rattle.seals.proofs.Opened.{Sound, tells-sound, unsealing-is}
use Rattle.seals.proofs.Securing.{headers, authentic, ciphered, headers-length, authentic-in, sent-length, sealed-length, sealing-makes}

-- ---- what may be sealed

-- the key identifiers of a layer: 1 at the network layer, 0, 2 and 3 at the APS layer
abbrev pub Suited : Layer → ℕ → Type 0
Suited Network k = k ≡ 1
Suited Aps k = (k < 4) × (k ≡ 1 → ⊥)

-- a plain frame f with h octets of header, a key identifier k, a counter n and a sender s
pub record ToSeal (l : Layer) (f : List ℕ) (h k n s : ℕ) : Type 0 where
  pub unsecured : reading_plain l f ≡ headed h
  pub octets : Octets f
  pub suited : Suited l k
  pub counter : n < 2 ^ 32
  pub sender : s < 2 ^ 64
  pub someone : no_address s ≡ false

suited-low : (l : Layer) (k : ℕ) → Suited l k → k < 4
suited-low Network k u = omega arith
suited-low Aps k u = u.0

suited-wire : (l : Layer) (k : ℕ) → Suited l k → suits l (wire_control k) ≡ true
unfolding network_keyed aps_keyed
suited-wire Network k u =
    let b : k < 4 = omega arith in simp (wire-identifier k b, wire-extended k b, eq-eqb k 1 u)
suited-wire Aps k u = simp (wire-identifier k u.0, ne_eqb k 1 u.1)

-- ---- the secured frame, read and opened

-- what it announces: its header is the plain frame's, and its fields are those that were sealed
abbrev pub announcing : ℕ → ℕ → ℕ → ℕ → ℕ → Secured
announcing h k n s q = fields_of h (sent_octets k) (wire_control k) n s (if eqb k 1 then q else 0)

pub announcing-network : (h n s q : ℕ) → announcing h 1 n s q ≡ fields_of h 14 0x28 n s q
unfolding sent_octets wire_control
announcing-network h n s q = refl

pub announcing-aps : (h k n s q : ℕ) → (k ≡ 1 → ⊥) → announcing h k n s q ≡ fields_of h 13 (wire_control k) n s 0
unfolding sent_octets
announcing-aps h k n s q u = simp (ne_eqb k 1 u)

module _ (z : Settings) (key : Key) (q : ℕ) {l : Layer} {f : List ℕ} {h k n s : ℕ} (p : ToSeal l f h k n s) where
  within : h ≤ length f
  within = (plain-to-seal l f h p.unsecured).within

  low : k < 4
  low = suited-low l k p.suited

  abbrev x : List ℕ
  x = auxiliary k n s q

  abbrev both-headers : List ℕ
  both-headers = headers l x f h

  -- ciphertext and tag
  abbrev body : List ℕ
  body = ciphered z key (nonce_of z s n (wire_control k)) l x f h

  parts : sealed_frame z key l k n s q f h ≡ both-headers ++ body
  unfolding sealed_frame sealed_with
  parts = refl

  behind : sealed_frame z key l k n s q f h ≡ secured_header l f h ++ (x ++ body)
  behind = parts ∙ append_assoc (secured_header l f h) x body

  both-length : length both-headers ≡ h + sent_octets k
  both-length = headers-length z l x f h (sent_octets k) (sent-length k n s q) within

  pub length-again : length (sealed_frame z key l k n s q f h) ≡ length f + sent_octets k + z.tag
  length-again = sealed-length z key l k n s q f h within

  pub read_again : (a : ℕ) → reading z l (sealed_frame z key l k n s q f h) a ≡ secured (announcing h k n s q)
  read_again a =
      ap (λ (g : List ℕ). reading z l g a) behind
      ∙ read-sealed z l f h p.unsecured p.octets k n s q a body low (suited-wire l k p.suited) p.counter p.sender
      p.someone
      (omega (arith, seal-length (aes128 key.octets) z.tag (nonce_of z s n (wire_control k)) (authentic z l x f h) (drop h f)))
      ∙ ap (λ (m : ℕ). secured (fields_of h m (wire_control k) n s (if eqb k 1 then q else 0))) (sent-length k n s q)

  pub plain-again : plain_frame l (sealed_frame z key l k n s q f h) (announcing h k n s q) (drop h f) ≡ f
  unfolding plain_frame
  plain-again =
      ap (λ (u : List ℕ). u ++ drop h f)
      (ap (λ (g : List ℕ). plain_header l g h) behind ∙ plain-header-again l f h p.unsecured p.octets (x ++ body))
      ∙ take-append-drop h f

  -- ---- under settings that are fair

  module _ (fair : Fair z) where
    pub message-again : message_of z key (sealed_frame z key l k n s q f h) (announcing h k n s q) ≡ valid (drop h f)
    unfolding message_of
    message-again =
        ap₂ (ccm_open (aes128 key.octets) z.tag (nonce_of z s n (wire_control k)))
        (authentic-in z l x f h (sent_octets k) (sent-length k n s q) within (sealed_frame z key l k n s q f h)
        (ap (take (h + sent_octets k)) parts ∙ take_at both-headers body (h + sent_octets k) both-length))
        (ap (drop (h + sent_octets k)) parts ∙ drop_at both-headers body (h + sent_octets k) both-length)
        ∙ open-seal (aes128 key.octets) (aes-blocky key.octets) z.tag (nonce_of z s n (wire_control k))
        (authentic z l x f h) (drop h f) (tag-most z.tag fair.tag)

    -- ---- by the routines, where the secured frame is not too long

    module _ (short : length f + sent_octets k + z.tag ≤ longest) where
      from-two : 2 ≤ h
      from-two = go l (plain-to-seal l f h p.unsecured).least
        where
          go : (l : Layer) → least_header l ≤ h → 2 ≤ h
          go Network b = omega arith
          go Aps b = b

      sound-again : Sound z (sealed_frame z key l k n s q f h) (announcing h k n s q)
      sound-again =
          let b = within in
          record { headed = from-two; whole = omega (arith, length-again); short = omega (arith, length-again) }

      pub looking-again : looking z key (sealed_frame z key l k n s q f h) (announcing h k n s q) ≡ true
      unfolding looking genuine
      looking-again = simp (tells-sound z (sealed_frame z key l k n s q f h) (announcing h k n s q) sound-again, message-again)

      module _ (o : List ℕ) (room : longest ≤ length o) where
        pub sealing-again : sealing z key l k n s q f h o ≡ wrote (sealed_frame z key l k n s q f h) o
        sealing-again =
            sealing-makes z key l k n s q f h o (omega (arith, low)) (record { headed = from-two; within = within; short = short }) room

        pub unsealing-again : unsealing z key l (sealed_frame z key l k n s q f h) (announcing h k n s q) o ≡ wrote f o
        unsealing-again =
            unsealing-is z fair key l (sealed_frame z key l k n s q f h) (announcing h k n s q) o sound-again room
            ∙ ap (unsealed_onto l (sealed_frame z key l k n s q f h) (announcing h k n s q) o) message-again
            ∙ ap (λ (u : List ℕ). wrote u o) plain-again

-- ---- octets

set-octets : (s : List ℕ) (i v : ℕ) → Octets s → v < 256 → Octets (set s i v)
set-octets [] i v o b = nil-octets
set-octets (x ∷ s) zero v o b = cons-octets v s b (tail-octets o)
set-octets (x ∷ s) (suc i) v o b = cons-octets x (set s i v) (o.octet 0) (set-octets s i v (tail-octets o) b)

marked-octet : (l : Layer) (x : ℕ) → x < 256 → marked (bit_value l) x < 256
unfolding marked cleared
marked-octet Network x b = omega arith
marked-octet Aps x b = omega arith

secured-octets : (l : Layer) (f : List ℕ) (h : ℕ) → Octets f → Octets (secured_header l f h)
unfolding secured_header
secured-octets l f h o = set-octets (take h f) (bit_place l) _ (take-octets h f o) (marked-octet l _ (o.octet (bit_place l)))

wire-octet : (k : ℕ) → k < 4 → wire_control k < 256
unfolding wire_control
wire-octet k b = omega arith

aux-octets : (k n s q : ℕ) → k < 4 → q < 256 → Octets (auxiliary k n s q)
unfolding auxiliary
aux-octets k n s q b d =
    cons-octets (wire_control k) _ (wire-octet k b)
    (append-octets (spelled 4 n) _ (spelled-octets 4 n) (append-octets (spelled 8 s) _ (spelled-octets 8 s) (go (eqb k 1))))
  where
    go : (t : Bool) → Octets (if t then q ∷ [] else [])
    go true = cons-octets q [] d nil-octets
    go false = nil-octets

pub octets-again : {l : Layer} {f : List ℕ} {h k n s : ℕ} (z : Settings) (key : Key) (q : ℕ) → ToSeal l f h k n s
    → Octets key.octets → q < 256 → Octets (sealed_frame z key l k n s q f h)
unfolding sealed_frame sealed_with
octets-again {l} {f} {h} {k} {n} {s} z key q p o b =
    append-octets (headers l (auxiliary k n s q) f h) _
    (append-octets (secured_header l f h) (auxiliary k n s q) (secured-octets l f h p.octets)
    (aux-octets k n s q (suited-low l k p.suited) b))
    (seal-octets key.octets o z.tag (nonce_of z s n (wire_control k)) (authentic z l (auxiliary k n s q) f h) (drop h f)
    (drop-octets h f p.octets))
