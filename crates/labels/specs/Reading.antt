-- Document 02 (v) (RULES 14.3): "a reader of the printed hex (small or capital, at most one space or hyphen between octets), the CRC
-- check, and the link key .. Wrong digits or length: 15. CRC wrong: 16. Digits come first."
-- Assumes nothing.
use Rattle.std.specs.Prelude.{Bool, true, false, List, [], ◌∷◌, ℕ, ◌-◌, length, take, ◌==◌, nat_lt}
use Rattle.std.specs.Prelude.{if◌then◌else◌}
use Rattle.octets.specs.Choice.{both}
use Rattle.octets.specs.Lists.{at, tab, eq_list}
use Rattle.text.specs.Digits.{digit_of}
use Rattle.text.specs.Hex.{octets_of}
use Rattle.labels.specs.Codes.{code_length, with_crc, link_key}
use Rattle.labels.specs.Answers.{Reading, reading, coded, no_code}

-- ---- the text

-- a space or a hyphen
unfoldable pub separator : ℕ → Bool
separator c = if c == 0x20 then true else c == 0x2d

-- a hex digit, small or capital
unfoldable pub hex_digit : ℕ → Bool
hex_digit c = nat_lt (digit_of c) 16

-- Octets, one at least, each of two digits. Behind an octet stands the end, or one separator and further octets, or these at once.
unfoldable pub spells : List ℕ → Bool
spells [] = false
spells (a ∷ []) = false
spells (a ∷ b ∷ []) = both (hex_digit a) (hex_digit b)
spells (a ∷ b ∷ c ∷ s) = both (hex_digit a) (both (hex_digit b) (if separator c then spells s else spells (c ∷ s)))

-- its digits: all but the separators
unfoldable pub digits_in : List ℕ → List ℕ
digits_in [] = []
digits_in (c ∷ s) = if separator c then digits_in s else c ∷ digits_in s

-- the octets that they spell
unfoldable pub octets_in : List ℕ → List ℕ
octets_in s = octets_of (digits_in s)

-- ---- its octets

-- all octets but the CRC's two
unfoldable pub code_in : List ℕ → List ℕ
code_in o = take (length o - 2) o

-- the octets o: are they a code and a CRC by their number (15), is the CRC that of the code (16)
unfoldable pub judged : List ℕ → Reading
judged o =
    if code_length (length o - 2) then
    if eq_list o (with_crc (code_in o))
    then reading (coded (length o - 2)) (tab 16 (at (code_in o))) (link_key (code_in o))
    else no_code 16
    else no_code 15

unfoldable pub read_label : List ℕ → Reading
read_label s = if spells s then judged (octets_in s) else no_code 15
