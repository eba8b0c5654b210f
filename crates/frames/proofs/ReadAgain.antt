-- What sealing makes of a plain frame is read as a secured frame with the same header, and its plain header is the plain frame's.
-- Assumes nothing.
use mathlib.Core.Path.{◌≡◌, refl, ap₂, ◌∙◌}
use mathlib.Core.Bool.{true, false}
use mathlib.Core.List.{List, ◌++◌}
use Prim.Native.Nat.{ℕ, ◌^◌, ◌≤◌, ◌<◌}
use native.Mathlib.Omega.{arith}
use lib.Dec.{eqb}
use lib.ListN.{length, take}
use borrow.Author.Tests.{ne_eqb}
use Rattle.settings.specs.Settings.{Settings}
use Rattle.std.specs.Prelude.{if◌then◌else◌}
use Rattle.octets.specs.Lists.{Octets}
use Rattle.frames.specs.declared.Layer.{Layer}
use Rattle.frames.specs.declared.Layer.TheVariants.{Network, Aps}
use Rattle.frames.specs.Security.{identifier_of, extended_of, wire_control, auxiliary}
use Rattle.frames.specs.Network.{network_keyed}
use Rattle.frames.specs.Aps.{aps_keyed}
use Rattle.frames.specs.Making.{secured_header, plain_header}
use Rattle.frames.specs.Reading.{secured, reading, headed, reading_plain}
use Rattle.frames.proofs.Controls.{wire-identifier}
use Rattle.frames.specs.Layers.{suits, given_to}
use Rattle.frames.proofs.Found.{plain-to-seal}
use Rattle.frames.proofs.Marks.{secured-length, plain-again, read-marked}
use Rattle.frames.proofs.Sent.{fields_of, aux-octets, read-aux}
use Rattle.octets.specs.Addresses.{no_address}

-- at either layer, under a key identifier that suits it
pub read-sealed : (z : Settings) (l : Layer) (f : List ℕ) (h : ℕ) → reading_plain l f ≡ headed h → Octets f → (k n s q a : ℕ) (c : List ℕ)
    → k < 4 → suits l (wire_control k) ≡ true → n < 2 ^ 32 → s < 2 ^ 64 → no_address s ≡ false → z.tag ≤ length c
    → reading z l (secured_header l f h ++ (auxiliary k n s q ++ c)) a
    ≡ secured (fields_of h (length (auxiliary k n s q)) (wire_control k) n s (if eqb k 1 then q else 0))
read-sealed z l f h e o k n s q a c k< u n< s< v w =
    let p = plain-to-seal l f h e in
    let d = secured-length l f h p in
    read-marked l f h p o (auxiliary k n s q ++ c) z a
    ∙ read-aux k n s q (secured_header l f h) c h d z l (given_to l a) k< u n< s< v w

pub network-sealed : (z : Settings) (f : List ℕ) (h : ℕ) → reading_plain Network f ≡ headed h → Octets f → (n s q : ℕ) (c : List ℕ)
    → n < 2 ^ 32 → s < 2 ^ 64 → no_address s ≡ false → z.tag ≤ length c
    → reading z Network (secured_header Network f h ++ (auxiliary 1 n s q ++ c)) 0 ≡ secured (fields_of h 14 0x28 n s q)
unfolding auxiliary wire_control identifier_of extended_of network_keyed
network-sealed z f h e o n s q c n< s< v w = read-sealed z Network f h e o 1 n s q 0 c (omega arith) refl n< s< v w

pub aps-sealed : (z : Settings) (f : List ℕ) (h : ℕ) → reading_plain Aps f ≡ headed h → Octets f → (k n s q a : ℕ) (c : List ℕ)
    → k < 4 → (k ≡ 1 → ⊥) → n < 2 ^ 32 → s < 2 ^ 64 → no_address s ≡ false → z.tag ≤ length c
    → reading z Aps (secured_header Aps f h ++ (auxiliary k n s q ++ c)) a ≡ secured (fields_of h 13 (wire_control k) n s 0)
unfolding aps_keyed
aps-sealed z f h e o k n s q a c k< k≢ n< s< v w =
    let d = ne_eqb k 1 k≢ in
    read-sealed z Aps f h e o k n s q a c k< (rw (wire-identifier k k<, d)) n< s< v w
    ∙ ap₂ (λ (x y : ℕ). secured (fields_of h x (wire_control k) n s y)) (aux-octets k n s q ∙ rw d) (rw d)

pub plain-header-again : (l : Layer) (f : List ℕ) (h : ℕ) → reading_plain l f ≡ headed h → Octets f → (r : List ℕ)
    → plain_header l (secured_header l f h ++ r) h ≡ take h f
plain-header-again l f h e o r = plain-again l f h (plain-to-seal l f h e) o r
