-- Octet strings taken apart into blocks of 16, as Annex A (A.2.1, A.2.2) and Annex B (B.6) of source document 002 do.
-- Assumes nothing.
use Rattle.std.specs.Prelude.{List, [], ◌∷◌, ℕ, ◌+◌, ◌*◌, ◌/◌, ◌%◌, length}
use Rattle.octets.specs.Lists.{at, tab}

-- "all integers shall be represented as octet strings in most-significant-octet first order" (A.1): two octets
abbrev pub two_octets : ℕ → List ℕ
two_octets n = n / 256 % 256 ∷ n % 256 ∷ []

-- the 16 octets from place i on, "with the smallest non-negative number of all-zero octets" where the string ends
unfoldable pub block_from : List ℕ → ℕ → List ℕ
block_from d i = tab 16 (λ j. at d (i + j))

-- how many blocks n octets fill
abbrev pub block_count : ℕ → ℕ
block_count n = (n + 15) / 16

-- a string parsed as M₁ || M₂ || .., the last block padded
unfoldable pub blocks : List ℕ → List (List ℕ)
blocks d = tab (block_count (length d)) (λ n. block_from d (16 * n))

-- 16 octets, all zero
abbrev pub zero_block : List ℕ
zero_block = tab 16 (λ i. 0)

-- what a chain comes to that starts from x and takes in one block after the other
unfoldable pub over : (List ℕ → List ℕ → List ℕ) → List ℕ → List (List ℕ) → List ℕ
over f x [] = x
over f x (b ∷ bs) = over f (f x b) bs
