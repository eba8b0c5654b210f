-- A word's octets are worked on side by side: what is added to a word, masked or doubled in it is so in each of its octets alone.
-- Assumes nothing.
use mathlib.Core.Path.{◌≡◌, refl, ap, ap₂, ◌∙◌}
use mathlib.Core.List.{List, [], ◌∷◌, ◌++◌}
use Prim.Native.Nat.{ℕ, zero, suc, ◌+◌, ◌*◌, ◌/◌, ◌%◌, ◌^◌, ◌<◌}
use native.Mathlib.Omega.{arith}
use lib.Bits.{bit_and, bit_or, bit_xor, and_mask, and_mod, and_shr, xor_mod, xor_shr}
use Rattle.std.proofs.Common.{w32}
use Rattle.std.proofs.lemmas.Nat.{or_disjoint}
use Rattle.std.specs.Int.{to_le_bytes}
use Rattle.std.specs.Int.Bits.{and_zero_l, and_zero_r}
use Rattle.octets.specs.Lists.{at, tab}
use Rattle.octets.specs.Least.{spelled}
use Rattle.cipher.specs.Field.{xtime}
use Rattle.cipher.specs.Aes.{add_blocks, rot_word, add_words}
use Rattle.cipher.specs.Code.{block_of}

cons_same : {x y : ℕ} {l m : List ℕ} → x ≡ y → l ≡ m → x ∷ l ≡ y ∷ m
cons_same e f = ap₂ (λ (a : ℕ) (k : List ℕ). a ∷ k) e f

pub spelled-four : (a b c d : ℕ) → a < 256 → b < 256 → c < 256 → d < 256
    → spelled 4 (a + 256 * b + 65536 * c + 16777216 * d) ≡ a ∷ b ∷ c ∷ d ∷ []
spelled-four a b c d ha hb hc hd =
    cons_same (omega arith) (cons_same (omega arith) (cons_same (omega arith) (cons_same (omega arith) refl)))

pub spelled-turned : (w : ℕ) → w < 2 ^ 32 → spelled 4 (w / 256 + w % 256 * 16777216) ≡ rot_word (spelled 4 w)
spelled-turned w h =
    let b = w / 256 % 256 in
    let c = w / 256 / 256 % 256 in
    let d = w / 256 / 256 / 256 % 256 in
    let e : w / 256 + w % 256 * 16777216 ≡ b + 256 * c + 65536 * d + 16777216 * (w % 256) = omega arith in
    ap (spelled 4) e ∙ spelled-four b c d (w % 256) (omega arith) (omega arith) (omega arith) (omega arith)

-- a turn by one place, as std's `rotate_right` has it: no digit stands in both parts
pub turned-or : (w : ℕ) → w < 2 ^ 32 → bit_or (w / 2 ^ 8) (w * 2 ^ 24 % 2 ^ 32) ≡ w / 256 + w % 256 * 16777216
turned-or w h = or_disjoint (w / 2 ^ 8) (w * 2 ^ 24 % 2 ^ 32) apart ∙ omega arith
  where
    low : bit_and (w / 2 ^ 8) (w * 2 ^ 24 % 2 ^ 32) % 2 ^ 24 ≡ 0
    low =
        let e : w * 2 ^ 24 % 2 ^ 32 % 2 ^ 24 ≡ 0 = omega arith in
        and_mod (w / 2 ^ 8) (w * 2 ^ 24 % 2 ^ 32) 24 ∙ ap (bit_and (w / 2 ^ 8 % 2 ^ 24)) e ∙ and_zero_r (w / 2 ^ 8 % 2 ^ 24)

    high : bit_and (w / 2 ^ 8) (w * 2 ^ 24 % 2 ^ 32) / 2 ^ 24 ≡ 0
    high =
        let e : w / 2 ^ 8 / 2 ^ 24 ≡ 0 = omega arith in
        and_shr (w / 2 ^ 8) (w * 2 ^ 24 % 2 ^ 32) 24
        ∙ ap (λ (x : ℕ). bit_and x (w * 2 ^ 24 % 2 ^ 32 / 2 ^ 24)) e
        ∙ and_zero_l (w * 2 ^ 24 % 2 ^ 32 / 2 ^ 24)

    apart : bit_and (w / 2 ^ 8) (w * 2 ^ 24 % 2 ^ 32) ≡ 0
    apart = omega (arith, low, high)

-- the octets of a word, as std's `to_le_bytes` has them
pub bytes-spelled : (n : ℕ) → to_le_bytes w32 n ≡ spelled 4 n
bytes-spelled n = cons_same (omega arith) (cons_same (omega arith) (cons_same (omega arith) (cons_same (omega arith) refl)))

spelled-added : (k a b : ℕ) → spelled k (bit_xor a b) ≡ tab k (λ j. bit_xor (at (spelled k a) j) (at (spelled k b) j))
spelled-added zero a b = refl
spelled-added (suc k) a b =
    cons_same (xor_mod a b 8) (rw (xor_shr a b 8) (spelled-added k (a / 256) (b / 256)))

-- a mask, of k octets x
abbrev octet_mask : ℕ → ℕ → ℕ
octet_mask x zero = 0
octet_mask x (suc k) = x + 256 * octet_mask x k

-- the lowest octet of a masked number, and the octets above it
and-each : (x k v : ℕ) → x < 256
    → (bit_and v (octet_mask x (suc k)) % 256 ≡ bit_and (v % 256) x)
    × (bit_and v (octet_mask x (suc k)) / 256 ≡ bit_and (v / 256) (octet_mask x k))
and-each x k v h =
    let a : octet_mask x (suc k) % 256 ≡ x = omega arith in
    let b : octet_mask x (suc k) / 256 ≡ octet_mask x k = omega arith in
    (and_mod v (octet_mask x (suc k)) 8 ∙ ap (bit_and (v % 256)) a, and_shr v (octet_mask x (suc k)) 8 ∙ ap (bit_and (v / 256)) b)

-- the lower seven bits of each octet, doubled
spelled-low : (k w : ℕ) → spelled k (bit_and w (octet_mask 127 k) * 2) ≡ tab k (λ j. at (spelled k w) j % 128 * 2)
spelled-low zero w = refl
spelled-low (suc k) w =
    let m = and-each 127 k w (omega arith) in
    let low : bit_and w (octet_mask 127 (suc k)) % 256 ≡ w % 256 % 128 = m.0 ∙ and_mask (w % 256) 7 in
    let rest : bit_and w (octet_mask 127 (suc k)) * 2 / 256 ≡ bit_and (w / 256) (octet_mask 127 k) * 2 = omega (arith, m.1) in
    cons_same (omega arith) (ap (spelled k) rest ∙ spelled-low k (w / 256))

-- {1b} for each octet whose highest bit is set
spelled-high : (k w : ℕ) → spelled k (bit_and (w / 128) (octet_mask 1 k) * 27) ≡ tab k (λ j. at (spelled k w) j / 128 * 27)
spelled-high zero w = refl
spelled-high (suc k) w =
    let m = and-each 1 k (w / 128) (omega arith) in
    let low : bit_and (w / 128) (octet_mask 1 (suc k)) % 256 ≡ w / 128 % 256 % 2 = m.0 ∙ and_mask (w / 128 % 256) 1 in
    let over : w / 128 / 256 ≡ w / 256 / 128 = omega arith in
    let high : bit_and (w / 128) (octet_mask 1 (suc k)) / 256 ≡ bit_and (w / 256 / 128) (octet_mask 1 k)
    = m.1 ∙ ap (λ (x : ℕ). bit_and x (octet_mask 1 k)) over in
    let rest : bit_and (w / 128) (octet_mask 1 (suc k)) * 27 / 256 ≡ bit_and (w / 256 / 128) (octet_mask 1 k) * 27 = omega arith in
    cons_same (omega arith) (ap (spelled k) rest ∙ spelled-high k (w / 256))

pub spelled-doubled : (w : ℕ)
    → spelled 4 (bit_xor (bit_and w 0x7f7f7f7f * 2) (bit_and (w / 128) 0x01010101 * 27)) ≡ tab 4 (λ j. xtime (at (spelled 4 w) j))
spelled-doubled w =
    spelled-added 4 (bit_and w 0x7f7f7f7f * 2) (bit_and (w / 128) 0x01010101 * 27)
    ∙ ap₂ add_words (spelled-low 4 w) (spelled-high 4 w)

-- ---- words that are known by their octets

pub spelled-sum : (v w : ℕ) {s t : List ℕ} → spelled 4 v ≡ s → spelled 4 w ≡ t → spelled 4 (bit_xor v w) ≡ add_words s t
spelled-sum v w e f = spelled-added 4 v w ∙ ap₂ add_words e f

pub append-four : {a b c d p q r s : List ℕ} → a ≡ p → b ≡ q → c ≡ r → d ≡ s → a ++ (b ++ (c ++ d)) ≡ p ++ (q ++ (r ++ s))
append-four e f g h = ap₂ ◌++◌ e (ap₂ ◌++◌ f (ap₂ ◌++◌ g h))

pub blocks-added : (a b : List ℕ)
    → block_of (bit_xor (at a 0) (at b 0) ∷ bit_xor (at a 1) (at b 1) ∷ bit_xor (at a 2) (at b 2) ∷ bit_xor (at a 3) (at b 3) ∷ [])
    ≡ add_blocks (block_of a) (block_of b)
blocks-added a b =
    append-four (spelled-added 4 (at a 0) (at b 0)) (spelled-added 4 (at a 1) (at b 1)) (spelled-added 4 (at a 2) (at b 2))
    (spelled-added 4 (at a 3) (at b 3))
