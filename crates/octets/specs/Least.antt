-- "All numbers are least octet first" (document 01, "Layout of a network frame"; RULES 1.2).
-- Assumes nothing.
use Rattle.std.specs.Prelude.{List, [], ◌∷◌, ℕ, zero, suc, ◌+◌, ◌*◌, ◌/◌, ◌%◌}
use Rattle.octets.specs.Lists.{at, tab}

-- the number that octets spell
abbrev pub least_first : List ℕ → ℕ
least_first [] = 0
least_first (x ∷ s) = x + 256 * least_first s

-- the number in the k octets of s from place i on
unfoldable pub number_at : ℕ → List ℕ → ℕ → ℕ
number_at k s i = least_first (tab k (λ j. at s (i + j)))

-- the k octets that spell n
abbrev pub spelled : ℕ → ℕ → List ℕ
spelled zero n = []
spelled (suc k) n = n % 256 ∷ spelled k (n / 256)
