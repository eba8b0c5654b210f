-- A masked number is no larger than its mask, so neither product runs over; and each octet is doubled by itself.
use native.Mathlib.Omega.{arith}
use Prim.Native.Nat.{◌/◌}
use lib.Bits.{and_le_r}
use Rattle.cipher.proofs.Lanes.{spelled-doubled}
use Rattle.cipher.proofs.words.doubled.Goals as goal

pub overflow_mul-result : goal.overflow_mul-result
overflow_mul-result c = omega (arith, and_le_r c.args.w 0x7f7f7f7f)

pub overflow_mul-result-2 : goal.overflow_mul-result-2
overflow_mul-result-2 c = omega (arith, and_le_r (c.args.w / 128) 0x01010101)

pub returns : goal.returns
returns c = spelled-doubled c.args.w
