-- The bench language: "B a decimal from 0 to 255, C a decimal from 0 to 4294967295, S a decimal from 0 to 65535; decimals
-- have no leading zero." Assumes nothing.
use Rattle.std.specs.Prelude.{Bool, not, List, [], ◌∷◌, ◌++◌, ℕ, zero, suc, ◌/◌, ◌%◌, length, ◌==◌, nat_lt, nat_le, Option}
use Rattle.std.specs.Prelude.{Some, None, if◌then◌else◌}
use Rattle.io.specs.Digits.{hex_digit_ascii}
use Rattle.octets.specs.Choice.{both}
use Rattle.octets.specs.Lists.{at}
use Rattle.text.specs.Digits.{all_digits, spelt}

-- the last k digits of n, without a zero in front
unfoldable pub decimal_in : ℕ → ℕ → List ℕ
decimal_in zero n = []
decimal_in (suc k) n = if nat_lt n 10 then hex_digit_ascii n ∷ [] else decimal_in k (n / 10) ++ (hex_digit_ascii (n % 10) ∷ [])

-- a number in decimal: 20 digits hold every number of 64 bits
unfoldable pub decimal : ℕ → List ℕ
decimal n = decimal_in 20 n

-- a zero in front of another digit
unfoldable pub zero_led : List ℕ → Bool
zero_led l = both (nat_lt 1 (length l)) (at l 0 == 48)

-- l spells a number
unfoldable pub is_decimal : List ℕ → Bool
is_decimal l = both (nat_lt 0 (length l)) (both (not (zero_led l)) (all_digits 10 l))

-- a number within a range from 0, or nothing
unfoldable pub at_most : ℕ → ℕ → Option ℕ
at_most most n = if nat_le n most then Some n else None

-- the number that l spells, or nothing
unfoldable pub number_of : List ℕ → ℕ → Option ℕ
number_of l most = if is_decimal l then at_most most (spelt 10 0 l) else None
