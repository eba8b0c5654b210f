-- FIPS 197, 5.1.3 by doubling and adding: {02} times an octet is its double (4.2.1), {03} times it the double and the octet.
-- Assumes nothing.
use mathlib.Core.Path.{◌≡◌, refl, sym, ap, ap₂, ◌∙◌}
use mathlib.Core.List.{[], ◌∷◌}
use Prim.Native.Nat.{ℕ, ◌/◌, ◌%◌, ◌<◌}
use native.Mathlib.Omega.{arith}
use lib.Bits.{bit_xor}
use Rattle.octets.proofs.Tabs.{tab-agree}
use Rattle.octets.specs.Lists.{at, tab}
use Rattle.octets.specs.Least.{spelled}
use Rattle.cipher.specs.Field.{xtime, mul_bits, mul}
use Rattle.cipher.specs.Aes.{mixed, rot_word}
use Rattle.cipher.specs.Code.{mixed_column}
use Rattle.cipher.proofs.Lanes.{spelled-sum}

-- ---- all octets

doubles : tab 256 (mul 2) ≡ tab 256 xtime
unfolding mul mul_bits
doubles = refl

trebles : tab 256 (mul 3) ≡ tab 256 (λ a. bit_xor (xtime a) a)
unfolding mul mul_bits
trebles = refl

pub by_two : (a : ℕ) → a < 256 → mul 2 a ≡ xtime a
by_two a h = tab-agree 256 (mul 2) xtime doubles a h

pub by_three : (a : ℕ) → a < 256 → mul 3 a ≡ bit_xor (xtime a) a
by_three a h = tab-agree 256 (mul 3) (λ b. bit_xor (xtime b) b) trebles a h

-- ---- a column

-- an octet of a column, and the three below it
mixed-doubled : (a b c d : ℕ) → a < 256 → b < 256 → bit_xor (bit_xor (bit_xor (xtime a) (bit_xor (xtime b) b)) c) d ≡ mixed a b c d
unfolding mixed
mixed-doubled a b c d ha hb = sym (ap₂ (λ (x y : ℕ). bit_xor (bit_xor (bit_xor x y) c) d) (by_two a ha) (by_three b hb))

module _ (x y z v : ℕ) (hx : x < 256) (hy : y < 256) (hz : z < 256) (hv : v < 256) where
  rows-mixed :
      bit_xor (bit_xor (bit_xor (xtime x) (bit_xor (xtime y) y)) z) v
      ∷ bit_xor (bit_xor (bit_xor (xtime y) (bit_xor (xtime z) z)) v) x
      ∷ bit_xor (bit_xor (bit_xor (xtime z) (bit_xor (xtime v) v)) x) y
      ∷ bit_xor (bit_xor (bit_xor (xtime v) (bit_xor (xtime x) x)) y) z
      ∷ []
      ≡ mixed_column (x ∷ y ∷ z ∷ v ∷ [])
  unfolding mixed_column
  rows-mixed =
      rw (mixed-doubled x y z v hx hy, mixed-doubled y z v x hy hz, mixed-doubled z v x y hz hv, mixed-doubled v x y z hv hx)

-- a word, its double (d), and turned: the sum of both (n), the word once (r), twice (s) and thrice (t)
pub column-mixed : (w d n r s t : ℕ) → spelled 4 d ≡ tab 4 (λ j. xtime (at (spelled 4 w) j))
    → spelled 4 n ≡ rot_word (spelled 4 (bit_xor d w))
    → spelled 4 r ≡ rot_word (spelled 4 w)
    → spelled 4 s ≡ rot_word (spelled 4 r)
    → spelled 4 t ≡ rot_word (spelled 4 s)
    → spelled 4 (bit_xor (bit_xor (bit_xor d n) s) t) ≡ mixed_column (spelled 4 w)
column-mixed w d n r s t ed en er es et =
    let third = es ∙ ap rot_word er in
    spelled-sum (bit_xor (bit_xor d n) s) t
    (spelled-sum (bit_xor d n) s (spelled-sum d n ed (en ∙ ap rot_word (spelled-sum d w ed refl))) third)
    (et ∙ ap rot_word third)
    ∙ rows-mixed (w % 256) (w / 256 % 256) (w / 256 / 256 % 256) (w / 256 / 256 / 256 % 256) (omega arith) (omega arith) (omega arith)
    (omega arith)
