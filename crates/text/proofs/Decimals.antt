-- A number passes just where it is within its limit; and the fewest digits that hold a number are its decimal.
-- Assumes nothing.
use mathlib.Core.Path.{◌≡◌, ap}
use mathlib.Core.List.{List, [], ◌∷◌, ◌++◌}
use Prim.Native.Nat.{ℕ, zero, suc, ◌-◌, ◌/◌, ◌%◌, ◌^◌, ◌≤◌, ◌<◌}
use native.Mathlib.Nat.{mod-eq_of_lt, one-le-pow}
use native.Mathlib.Omega.{arith}
use lib.Dec.{lit<, lit≤}
use borrow.Author.Tests.{le-leb, lt-leb, lt-ltb, le-ltb}
use Rattle.io.specs.Digits.{hex_digit_ascii, last_digits, IsDigitCount}
use Rattle.text.specs.Decimal.{decimal, decimal_in, at_most}
use Rattle.std.proofs.Common.{Some, None}
use Rattle.text.proofs.Widths.{no_more}

pub at-most : (most n : ℕ) → n ≤ most → at_most most n ≡ Some n
unfolding at_most
at-most most n h = rw (le-leb n most h)

pub too_many : (most n : ℕ) → most < n → at_most most n ≡ None
unfolding at_most
too_many most n h = rw (lt-leb n most h)

-- the fewest digits that hold n have no zero in front
fewest : (f k n : ℕ) → k ≤ f → IsDigitCount 10 1 n k → last_digits 10 k n ≡ decimal_in f n
unfolding decimal_in
fewest zero k n h w = absurd (omega (arith, w.0))
fewest (suc f) zero n h w = absurd (omega (arith, w.0))
fewest (suc f) (suc zero) n h w = let s : n < 10 = w.1 in rw (mod-eq_of_lt s, lt-ltb n 10 s)
fewest (suc f) (suc (suc k)) n h w =
    let e : suc (suc k) - 1 ≡ suc k = omega arith in
    let low : 10 ^ suc k ≤ n = rw e at (w.2 (omega arith)) in
    let top : n < 10 ^ suc (suc k) = w.1 in
    let many : 10 ≤ n = omega (arith, one-le-pow k 10 (lit< tt)) in
    rw (le-ltb n 10 many)
    (ap (λ (l : List ℕ). l ++ (hex_digit_ascii (n % 10) ∷ []))
    (fewest f (suc k) (n / 10) (omega arith) (omega arith, omega arith, λ _. let d : suc k - 1 ≡ k = omega arith in rw d (omega arith))))

pub decimal-is : (n k : ℕ) → n < 2 ^ 64 → IsDigitCount 10 1 n k → last_digits 10 k n ≡ decimal n
unfolding decimal
decimal-is n k h w = fewest 20 k n (no_more 10 1 20 n k (lit< tt) (lit≤ tt) (omega arith) w) w
