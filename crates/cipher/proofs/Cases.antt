-- M2 to M8 of document 01 hold of the definitions, for any octets: CCM*'s first blocks, the octets that lead, the hash's padding.
-- Assumes nothing.
use mathlib.Core.Path.{◌≡◌, refl, ap, ap₂, ◌∙◌}
use mathlib.Core.List.{◌∷◌, [], ◌++◌}
use Prim.Native.Nat.{ℕ, ◌+◌, ◌*◌, ◌/◌, ◌%◌, min}
use native.Mathlib.Omega.{arith}
use lib.Bits.{bit_xor}
use lib.ListN.{length}
use Rattle.octets.proofs.Tabs.{get_or-tab}
use Rattle.octets.specs.Lists.{at, tab}
use Rattle.cipher.specs.Ccm.{key_stream, streamed, led}
use Rattle.cipher.specs.Hash.{padded}
use Rattle.cipher.specs.Cases.{M2, M3, M4, M5, M6, M7, M8}

pub m2 : M2
m2 n a x y z h =
    let e : min 1 (length a) ≡ 1 = omega arith in
    ap (λ (k : ℕ). (64 * k + 8 * 1 + 1) ∷ (tab 13 n ++ (0x00 ∷ 0x03 ∷ []))) e

pub m3 : M3
unfolding streamed key_stream
m3 E n m i h l =
    get_or-tab (length m) (λ j. bit_xor (at m j) (at (key_stream E (tab 13 n) (j / 16 + 1)) (j % 16))) i 0 l
    ∙ ap₂ (λ (k j : ℕ). bit_xor (at m i) (at (key_stream E (tab 13 n) (k + 1)) j)) first whole
  where
    first : i / 16 ≡ 0
    first = omega arith

    whole : i % 16 ≡ i
    whole = omega arith

pub m4 : M4
unfolding led
m4 a = refl

pub m5 : M5
unfolding padded
m5 d = (refl, refl)

pub m6 : M6
unfolding padded
m6 d = refl

pub m7 : M7
unfolding padded
m7 d = (refl, refl)

pub m8 : M8
unfolding padded
m8 d = (refl, refl)
