-- The S-box is what FIPS 197, 5.1.1 constructs: one test, computed over the whole table, and the rule that it shows of each entry.
-- Assumes nothing.
use mathlib.Core.Path.{◌≡◌}
use mathlib.Core.Bool.{Bool}
use Prim.Native.Nat.{ℕ, ◌<◌, min}
use lib.Dec.{T, eqb, eqb→eq, ltb, ltb→lt}
use lib.ListN.{get_or}
use Rattle.octets.proofs.Tables.{at, both_left, both_right}
use Rattle.octets.specs.Choice.{both}
use Rattle.cipher.specs.Field.{mul_bits, mul, squares, inverse}
use Rattle.cipher.specs.Sbox.{sbox_table, sbox, turned, affine, sbox_rule}

-- entry x of the table at place k: the rule's octet; k times its inverse is 1, or 0 where k is 0; and x is an octet
right : ℕ → ℕ → Bool
right k x = both (eqb x (sbox_rule k)) (both (eqb (mul k (inverse k)) (min 1 k)) (ltb x 256))

tested : (k : ℕ) → k < 256 → T (right k (get_or sbox_table k 0))
unfolding sbox_table sbox_rule turned affine inverse squares mul mul_bits right
tested k h = at right sbox_table tt k h

parts : (a b c : Bool) → T (both a (both b c)) → T a × T b × T c
parts a b c t = let r = both_right a (both b c) t in (both_left a (both b c) t, both_left b c r, both_right b c r)

facts : (k : ℕ) → k < 256 → T (eqb (sbox k) (sbox_rule k)) × T (eqb (mul k (inverse k)) (min 1 k)) × T (ltb (sbox k) 256)
unfolding sbox right
facts k h = parts (eqb (sbox k) (sbox_rule k)) (eqb (mul k (inverse k)) (min 1 k)) (ltb (sbox k) 256) (tested k h)

pub sbox-rule : (x : ℕ) → x < 256 → sbox x ≡ sbox_rule x
sbox-rule x h = eqb→eq (sbox x) (sbox_rule x) (facts x h).0

pub inverse-of : (x : ℕ) → x < 256 → mul x (inverse x) ≡ min 1 x
inverse-of x h = eqb→eq (mul x (inverse x)) (min 1 x) (facts x h).1

pub sbox-octet : (x : ℕ) → x < 256 → sbox x < 256
sbox-octet x h = ltb→lt (sbox x) 256 (facts x h).2
