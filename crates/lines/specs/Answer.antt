-- The bench language: "The answer to line N is `N`, a tab, and one of `ok`, and the fields below, each after a tab; .."
-- A tab is the octet 9, a line feed 10. Assumes nothing.
use Rattle.std.specs.Prelude.{ℕ, ◌+◌, List, [], ◌∷◌, ◌++◌, length, take, nat_le, Option, Some, None}
use Rattle.std.specs.Prelude.{if◌then◌else◌}
use Rattle.text.specs.Decimal.{decimal}
use Rattle.text.specs.Hex.{is_hex, octets_of}
use Rattle.lines.specs.declared.buffer.Octets.{Octets}

-- how many octets an answer has room for
abbrev pub room : ℕ
room = 33860

-- the words `ok` and `bad`
abbrev pub ok : List ℕ
ok = 111 ∷ 107 ∷ []

abbrev pub bad : List ℕ
bad = 98 ∷ 97 ∷ 100 ∷ []

-- s behind l in a room of n octets; what has no room is left out whole
unfoldable pub more : ℕ → List ℕ → List ℕ → List ℕ
more n l s = if nat_le (length l + length s) n then l ++ s else l

-- a field more, behind a tab
unfoldable pub field : List ℕ → List ℕ → List ℕ
field l s = more room (more room l (9 ∷ [])) s

-- a number in decimal, or the word w where there is none
abbrev pub spelt_or : Option ℕ → List ℕ → List ℕ
spelt_or None w = w
spelt_or (Some x) w = decimal x

-- a line of the output: its number, a tab, the answer, a line feed
unfoldable pub whole_line : ℕ → List ℕ → List ℕ
whole_line k l = decimal k ++ (9 ∷ []) ++ l ++ (10 ∷ [])

-- the octets that l spells in hex, n of them at most, or nothing
unfoldable pub hexed : ℕ → List ℕ → Option (List ℕ)
hexed n l = if is_hex l n then Some (octets_of l) else None

-- an answer, or any octets by value, as the code keeps them: those that count
abbrev pub said : {n : ℕ} → Octets n → List ℕ
said a = take a.n a.octets

abbrev pub written : {n : ℕ} → Octets n → List ℕ
written w = said w
