-- Document 02 (v) (RULES 14.1): "a CRC of two octets, as the Base Device Behavior specification defines it". That is CRC-16/X-25:
-- the polynomial 0x1021 with its bits in the other order, start 0xFFFF, inverted at the end. Here it is worked out bit by bit.
-- Assumes nothing.
use Rattle.std.specs.Prelude.{List, [], ◌∷◌, ℕ, zero, suc, ◌/◌, ◌%◌, ◌==◌}
use Rattle.std.specs.Int.Bits.{bit_xor}
use Rattle.std.specs.Prelude.{if◌then◌else◌}

-- 0x1021 is 0001 0000 0010 0001; this is 1000 0100 0000 1000
abbrev pub polynomial : ℕ
polynomial = 0x8408

-- what is in the register at first, and what inverts its 16 bits at last
abbrev pub ones : ℕ
ones = 0xffff

-- the register one bit down; where the bit that fell out was 1, the polynomial is added
unfoldable pub shifted : ℕ → ℕ
shifted c = if (c % 2) == 1 then bit_xor (c / 2) polynomial else c / 2

-- k bits down
unfoldable pub shifted_by : ℕ → ℕ → ℕ
shifted_by zero c = c
shifted_by (suc k) c = shifted_by k (shifted c)

-- an octet taken in: added to the register, which then moves eight bits down
unfoldable pub taken_in : ℕ → ℕ → ℕ
taken_in c x = shifted_by 8 (bit_xor c x)

-- the octets of s taken in, one after the other
unfoldable pub register : ℕ → List ℕ → ℕ
register c [] = c
register c (x ∷ s) = register (taken_in c x) s

unfoldable pub crc : List ℕ → ℕ
crc s = bit_xor (register ones s) ones
