-- The bench language: "Field kinds: A an address, 16 hex digits, most significant first. K 32 hex digits, in octet order. F hex
-- of 0 to 256 octets. B a decimal from 0 to 255, C a decimal from 0 to 4294967295, S a decimal from 0 to 65535; decimals have
-- no leading zero. T is `none` or B." "X any octets but tabs, at most 256 of them for a label; G hex of 0 to 1,024 octets."
-- Of a command: "Keys, hashes, inner frames and TLVs are of kind F"; their letters are k, h, i and t.
-- Assumes nothing.
use Rattle.std.specs.Prelude.{ℕ, ◌/◌, ◌%◌, Bool, List, [], ◌∷◌, length, ◌==◌, nat_le, nat_lt, Option, Some, None, is_some, unwrap_or}
use Rattle.std.specs.Prelude.{if◌then◌else◌}
use Rattle.octets.specs.Choice.{both}
use Rattle.octets.specs.Lists.{eq_list}
use Rattle.text.specs.Digits.{all_digits}
use Rattle.text.specs.Decimal.{number_of}
use Rattle.text.specs.Hex.{address_of}
use Rattle.lines.specs.declared.forms.Kind.{Kind}
use Rattle.lines.specs.declared.forms.Kind.TheVariants as kinds

-- the kind that a letter stands for: A, B, S, C, T, K, F, G, X, and k, h, i, t
unfoldable pub field_kind : ℕ → Kind
field_kind c =
    if c == 65 then kinds.Address else
    if c == 66 then kinds.Decimal 255 else
    if c == 83 then kinds.Decimal 65535 else
    if c == 67 then kinds.Decimal 4294967295 else
    if c == 84 then kinds.Protection else
    if c == 75 then kinds.Hex 16 16 else
    if c == 70 then kinds.Hex 0 256 else
    if c == 71 then kinds.Hex 0 1024 else
    if c == 88 then kinds.Text 0 256 else
    if c == 107 then kinds.Hex 0 256 else
    if c == 104 then kinds.Hex 0 256 else
    if c == 105 then kinds.Hex 0 256 else
    if c == 116 then kinds.Hex 0 256 else kinds.Word

-- the word `none`
abbrev pub none : List ℕ
none = 110 ∷ 111 ∷ 110 ∷ 101 ∷ []

-- l is hex of whole octets
abbrev pub whole_hex : List ℕ → Bool
whole_hex l = both (length l % 2 == 0) (all_digits 16 l)

-- so many, which are to be so many at least and at most
unfoldable pub between : ℕ → ℕ → ℕ → Option ℕ
between least most n = if both (nat_le least n) (nat_le n most) then Some n else None

-- what the field l is worth by its kind, or nothing; `none` is told as 256, octets by how many they are
unfoldable pub value_of : Kind → List ℕ → Option ℕ
value_of kinds.Word l = Some 0
value_of kinds.Address l = address_of l
value_of (kinds.Decimal most) l = number_of l most
value_of kinds.Protection l = if eq_list l none then Some 256 else number_of l 255
value_of (kinds.Hex least most) l = if whole_hex l then between least most (length l / 2) else None
value_of (kinds.Text least most) l = between least most (length l)

-- the protection that is told as t: what is above an octet stands for none
abbrev pub protection_of : ℕ → Option ℕ
protection_of t = if nat_lt t 256 then Some t else None

-- a field is good where it has a value
abbrev pub good : Option ℕ → Bool
good v = is_some v

-- what a good field is worth; a bad one is worth 0
abbrev pub worth : Option ℕ → ℕ
worth v = unwrap_or v 0
