-- The laws of exclusive or that lib.Bits lacks: its grouping, that it undoes itself, and that it is zero only of equals.
-- Assumes nothing.
use mathlib.Core.Path.{◌≡◌, refl, sym, ap, ap₂, ◌∙◌}
use Prim.Native.Nat.{ℕ, zero, suc, ◌+◌, ◌*◌, ◌/◌, ◌%◌, ◌<◌}
use native.Mathlib.Nat.{mod-lt, le_of_suc-le-suc, not-suc-le-zero}
use native.Mathlib.Omega.{arith}
use lib.Arith.{bin_ind}
use lib.Bits.{bit_xor, bit_or, differ, xor_step, xor_shr, xor_mod, xor_self, xor_zero_l, xor_zero_r, or_add_and, and_le_l, and_le_r}
use lib.Dec.{lit<}

-- what holds of 0 and of 1 holds of a binary digit
digit : (P : ℕ → Type 0) → P 0 → P 1 → (x : ℕ) → x < 2 → P x
digit P p q zero h = p
digit P p q (suc zero) h = q
digit P p q (suc (suc x)) h = absurd (not-suc-le-zero (le_of_suc-le-suc (le_of_suc-le-suc h)))

abbrev Grouped : ℕ → ℕ → ℕ → Type 0
Grouped x y z = differ (bit_xor x y) z ≡ differ x (bit_xor y z)

digits-grouped : (x y z : ℕ) → x < 2 → y < 2 → z < 2 → Grouped x y z
digits-grouped x y z hx hy hz =
    digit (λ a. Grouped a y z)
    (digit (λ b. Grouped 0 b z) (digit (λ c. Grouped 0 0 c) refl refl z hz) (digit (λ c. Grouped 0 1 c) refl refl z hz) y hy)
    (digit (λ b. Grouped 1 b z) (digit (λ c. Grouped 1 0 c) refl refl z hz) (digit (λ c. Grouped 1 1 c) refl refl z hz) y hy) x hx

half-digit : (n : ℕ) → n % 2 < 2
half-digit n = mod-lt n (lit< tt)

xor_assoc : (a b c : ℕ) → bit_xor (bit_xor a b) c ≡ bit_xor a (bit_xor b c)
xor_assoc a b c =
    bin_ind (λ (n : ℕ). (b c : ℕ) → bit_xor (bit_xor n b) c ≡ bit_xor n (bit_xor b c))
    (λ b c. ap (λ (x : ℕ). bit_xor x c) (xor_zero_l b) ∙ sym (xor_zero_l (bit_xor b c)))
    (λ n ih b c.
    xor_step (bit_xor n b) c
    ∙ ap₂ (λ (x y : ℕ). bit_xor x (c / 2) * 2 + differ y (c % 2)) (xor_shr n b 1) (xor_mod n b 1)
    ∙ ap₂ (λ (x y : ℕ). x * 2 + y) (ih (b / 2) (c / 2))
    (digits-grouped (n % 2) (b % 2) (c % 2) (half-digit n) (half-digit b) (half-digit c))
    ∙ sym (ap₂ (λ (x y : ℕ). bit_xor (n / 2) x * 2 + differ (n % 2) y) (xor_shr b c 1) (xor_mod b c 1))
    ∙ sym (xor_step n (bit_xor b c))) a b c

pub xor-twice : (a b : ℕ) → bit_xor (bit_xor a b) b ≡ a
xor-twice a b = xor_assoc a b b ∙ ap (bit_xor a) (xor_self b) ∙ xor_zero_r a

-- only equals have no digit apart
pub xor-zero : (a b : ℕ) → bit_xor a b ≡ 0 → a ≡ b
xor-zero a b e = sym (xor-twice a b) ∙ ap (λ (x : ℕ). bit_xor x b) e ∙ xor_zero_l b

pub or-zero : (a b : ℕ) → bit_or a b ≡ 0 → (a ≡ 0) × (b ≡ 0)
or-zero a b e = (omega (arith, or_add_and a b, and_le_r a b), omega (arith, or_add_and a b, and_le_l a b))
