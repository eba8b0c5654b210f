-- The bench language: "A an address, 16 hex digits, most significant first. K 32 hex digits, in octet order. F hex of
-- 0 to 256 octets. Hex is read in either case and written small." How many octets there may be is the room that is lent.
-- Assumes nothing.
use Rattle.std.specs.Prelude.{Bool, List, [], ◌∷◌, ℕ, ◌+◌, ◌*◌, ◌/◌, ◌%◌, length, ◌==◌, nat_le, Option, Some, None}
use Rattle.std.specs.Prelude.{if◌then◌else◌}
use Rattle.io.specs.Digits.{hex_digit_ascii, last_digits}
use Rattle.octets.specs.Choice.{both}
use Rattle.octets.specs.Lists.{onto}
use Rattle.text.specs.Digits.{digit_of, all_digits, spelt}

-- octets in hex, small
unfoldable pub hex_of : List ℕ → List ℕ
hex_of [] = []
hex_of (x ∷ l) = hex_digit_ascii (x / 16) ∷ hex_digit_ascii (x % 16) ∷ hex_of l

-- the octets that hex spells, two digits each
unfoldable pub octets_of : List ℕ → List ℕ
octets_of [] = []
octets_of (a ∷ []) = []
octets_of (a ∷ b ∷ l) = (digit_of a * 16 + digit_of b) ∷ octets_of l

-- what reading hex into an output answers, how many octets or nothing, and what the output then holds
pub record Unhexed : Type 0 where
  pub answer : Option ℕ
  pub out : List ℕ

abbrev pub read_into : Option ℕ → List ℕ → Unhexed
read_into r o = record { answer = r; out = o }

-- l is hex of whole octets, n of them at most
unfoldable pub is_hex : List ℕ → ℕ → Bool
is_hex l n = both ((length l % 2) == 0) (both (nat_le (length l / 2) n) (all_digits 16 l))

-- the octets at the front of the output o, or o as it stood
unfoldable pub unhexed : List ℕ → List ℕ → Unhexed
unhexed l o =
    if is_hex l (length o)
    then read_into (Some (length l / 2)) (onto (octets_of l) o)
    else read_into None o

-- an address in hex
unfoldable pub address : ℕ → List ℕ
address a = last_digits 16 16 a

-- the address that 16 digits spell, or nothing
unfoldable pub address_of : List ℕ → Option ℕ
address_of l =
    if both (length l == 16) (all_digits 16 l)
    then Some (spelt 16 0 l)
    else None
