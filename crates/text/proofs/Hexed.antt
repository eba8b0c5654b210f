-- Hex place by place: the two digits of an octet, the octet of two digits, how many there are; and 64 bits are 16 digits.
-- Assumes nothing.
use mathlib.Core.Path.{◌≡◌, refl, ap, ◌∙◌}
use mathlib.Core.List.{List, [], ◌∷◌}
use Prim.Native.Nat.{ℕ, zero, suc, ◌+◌, ◌*◌, ◌/◌, ◌%◌, ◌^◌, ◌≤◌, ◌<◌}
use native.Mathlib.Nat.{not-suc-le-zero, le_of_suc-le-suc, pow-suc, pow-le-pow_right}
use native.Mathlib.Numerals.{add-one}
use native.Mathlib.Omega.{arith}
use lib.Dec.{lit<, lit≤}
use lib.ListN.{length, get_or, take, drop}
use lib.Seq.{drop-drop, get_or-drop}
use Rattle.std.proofs.lemmas.List.{get_or-take}
use Rattle.std.specs.Simd.{first_chunks}
use Rattle.io.specs.Digits.{hex_digit_ascii, IsDigitCount}
use Rattle.text.specs.Digits.{digit_of}
use Rattle.text.specs.Hex.{hex_of, octets_of}
use Rattle.text.proofs.Widths.{no_more}

pub length-octets : (l : List ℕ) → length (octets_of l) ≡ length l / 2
unfolding octets_of
length-octets [] = refl
length-octets (a ∷ []) = refl
length-octets (a ∷ b ∷ l) = omega (arith, length-octets l)

pub length-hex : (l : List ℕ) → length (hex_of l) ≡ length l * 2
unfolding hex_of
length-hex [] = refl
length-hex (x ∷ l) = omega (arith, length-hex l)

pub octet-at : (l : List ℕ) (i : ℕ) → i < length l / 2
    → get_or (octets_of l) i 0 ≡ digit_of (get_or l (i * 2) 0) * 16 + digit_of (get_or l (i * 2 + 1) 0)
unfolding octets_of
octet-at [] i h = absurd (omega arith)
octet-at (a ∷ []) i h = absurd (omega arith)
octet-at (a ∷ b ∷ l) zero h = refl
octet-at (a ∷ b ∷ l) (suc i) h =
    let e : suc i * 2 ≡ suc (suc (i * 2)) = omega arith in
    let f : suc i * 2 + 1 ≡ suc (suc (i * 2 + 1)) = omega arith in
    let k : i < length l / 2 = omega arith in
    rw (f, e) (octet-at l i k)

-- the digits of octet i stand in the pair i of a list
pairs-at : (k : ℕ) (l : List ℕ) (i : ℕ) → i < k → get_or (first_chunks 2 k l) i [] ≡ take 2 (drop (i * 2) l)
pairs-at zero l i h = absurd (not-suc-le-zero h)
pairs-at (suc k) l zero h = refl
pairs-at (suc k) l (suc i) h =
    let e : 2 + i * 2 ≡ suc i * 2 = omega arith in
    pairs-at k (drop 2 l) i (le_of_suc-le-suc h) ∙ ap (take 2) (drop-drop (i * 2) 2 l ∙ ap (λ (n : ℕ). drop n l) e)

pub pair-digit : (l : List ℕ) (p : List (List ℕ)) (i j : ℕ) → p ≡ first_chunks 2 (length l / 2) l → i < length l / 2 → j < 2
    → get_or (get_or p i []) j 0 ≡ get_or l (i * 2 + j) 0
pair-digit l p i j e h k =
    ap (λ (q : List (List ℕ)). get_or (get_or q i []) j 0) e
    ∙ ap (λ (q : List ℕ). get_or q j 0) (pairs-at (length l / 2) l i h)
    ∙ get_or-take 2 (drop (i * 2) l) j 0 k ∙ get_or-drop (i * 2) l j 0

pub hex-high : (l : List ℕ) (i : ℕ) → i < length l → get_or (hex_of l) (i * 2) 0 ≡ hex_digit_ascii (get_or l i 0 / 16)
unfolding hex_of
hex-high [] i h = absurd (not-suc-le-zero h)
hex-high (x ∷ l) zero h = refl
hex-high (x ∷ l) (suc i) h =
    let e : suc i * 2 ≡ suc (suc (i * 2)) = omega arith in
    rw e (hex-high l i (le_of_suc-le-suc h))

pub hex-low : (l : List ℕ) (i : ℕ) → i < length l → get_or (hex_of l) (i * 2 + 1) 0 ≡ hex_digit_ascii (get_or l i 0 % 16)
unfolding hex_of
hex-low [] i h = absurd (not-suc-le-zero h)
hex-low (x ∷ l) zero h = refl
hex-low (x ∷ l) (suc i) h =
    let e : suc i * 2 + 1 ≡ suc (suc (i * 2 + 1)) = omega arith in
    rw e (hex-low l i (le_of_suc-le-suc h))

-- a number of 64 bits has 16 digits with its zeros
pub sixteen : (a k : ℕ) → a < 2 ^ 64 → IsDigitCount 16 16 a k → k ≡ 16
sixteen a k h w = omega (arith, w.0, no_more 16 16 16 a k (lit< tt) (lit≤ tt) h w)

-- another digit to a number of i digits
pub room : (n i d : ℕ) → n < 16 ^ i → d < 16 → i < 16 → (n * 16 + d < 16 ^ (i + 1)) × (n * 16 + d < 2 ^ 64)
room n i d h k m =
    let p : 16 ^ suc i ≤ 16 ^ 16 = pow-le-pow_right (lit< tt) m in
    let s : 16 ^ suc i ≡ 16 ^ i * 16 = pow-suc 16 i in
    (rw (add-one i) (omega arith), omega arith)
