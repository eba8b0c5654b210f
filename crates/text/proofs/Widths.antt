-- How many digits a number has: no more than are needed for the first power that is above it.
-- Assumes nothing.
use Prim.Native.Nat.{ℕ, ◌-◌, ◌^◌, ◌≤◌, ◌<◌}
use native.Mathlib.Nat.{le_of_suc-le-suc, lt_of_not-le, pow-le-pow_right}
use native.Mathlib.Omega.{arith}
use Rattle.io.specs.Digits.{IsDigitCount}

pub no_more : (b least top n k : ℕ) → 0 < b → least ≤ top → n < b ^ top → IsDigitCount b least n k → k ≤ top
no_more b least top n k p q h w =
    le_of_suc-le-suc
    (lt_of_not-le
    (λ (m : top < k).
    let r : top ≤ k - 1 = omega arith in
    omega (arith, w.2 (omega arith), pow-le-pow_right {n = b} p r)))
