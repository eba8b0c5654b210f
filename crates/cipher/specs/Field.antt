-- FIPS 197, chapter 4: the octets as the field GF(2^8). Addition (4.1) is exclusive or, octet by octet.
-- Assumes nothing.
use Rattle.std.specs.Prelude.{ℕ, zero, suc, ◌*◌, ◌/◌, ◌%◌}
use Rattle.std.specs.Int.Bits.{bit_xor}

-- 4.2.1, xtime: multiplication by {02}, "a left shift and a subsequent conditional bitwise XOR with {1b}"
abbrev pub xtime : ℕ → ℕ
xtime a = bit_xor (a % 128 * 2) (a / 128 * 27)

-- 4.2: "multiplication by higher powers of x can be implemented by repeated application of xtime(). By adding
-- intermediate results, multiplication by any constant can be implemented." Here over the n lowest bits of b.
unfoldable pub mul_bits : ℕ → ℕ → ℕ → ℕ
mul_bits zero a b = 0
mul_bits (suc n) a b = bit_xor (b % 2 * a) (mul_bits n (xtime a) (b / 2))

unfoldable pub mul : ℕ → ℕ → ℕ
mul a b = mul_bits 8 a b

-- the square of b, the square of that, and so on, n of them, multiplied together
unfoldable pub squares : ℕ → ℕ → ℕ
squares zero b = 1
squares (suc n) b = mul (mul b b) (squares n (mul b b))

-- 4.2, the multiplicative inverse: a to the power 2 + 4 + .. + 128 = 254, and 0 of 0 (theorem `inverse-of` says that it is one)
unfoldable pub inverse : ℕ → ℕ
inverse a = squares 7 a
