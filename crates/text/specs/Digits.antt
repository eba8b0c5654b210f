-- The bench language: "Hex is read in either case". A decimal's digits are the ten that are worth less than 10.
-- Assumes nothing.
use Rattle.std.specs.Prelude.{Bool, true, List, [], ◌∷◌, ℕ, ◌+◌, ◌*◌, ◌-◌, nat_lt, if◌then◌else◌}
use Rattle.octets.specs.Choice.{both}

-- what the octet c is worth as a digit: `0` to `9`, `A` to `F`, `a` to `f`; 16 stands for no digit
unfoldable pub digit_of : ℕ → ℕ
digit_of c =
    if nat_lt c 48 then 16 else
    if nat_lt c 58 then c - 48 else
    if nat_lt c 65 then 16 else
    if nat_lt c 71 then c - 55 else
    if nat_lt c 97 then 16 else
    if nat_lt c 103 then c - 87 else 16

-- all of them are digits in base b, which is at most 16
unfoldable pub all_digits : ℕ → List ℕ → Bool
all_digits b [] = true
all_digits b (c ∷ l) = both (nat_lt (digit_of c) b) (all_digits b l)

-- the number that digits spell in base b, the most significant first, read on from n
unfoldable pub spelt : ℕ → ℕ → List ℕ → ℕ
spelt b n [] = n
spelt b n (c ∷ l) = spelt b (n * b + digit_of c) l
