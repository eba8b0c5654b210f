-- Of the code: what contracts of private functions name. Nothing here need be believed: every callable routine's contract is
-- stated without it.
-- Assumes nothing.
use Rattle.std.specs.Prelude.{Bool, true, false, List, [], ◌∷◌, ℕ, Option, Some, None}
use Rattle.std.specs.Prelude.{if◌then◌else◌}
use Rattle.octets.specs.Choice.{both}
use Rattle.labels.specs.declared.spelling.Next.{Next}
use Rattle.labels.specs.declared.spelling.Next.TheVariants.{Octet, Digit, Behind}
use Rattle.labels.specs.Reading.{separator, hex_digit}

-- whether what is left of a text spells on, by what is to come next
unfoldable pub spells_on : List ℕ → Next → Bool
spells_on [] Octet = false
spells_on [] Digit = false
spells_on [] Behind = true
spells_on (c ∷ s) Octet = both (hex_digit c) (spells_on s Digit)
spells_on (c ∷ s) Digit = both (hex_digit c) (spells_on s Behind)
spells_on (c ∷ s) Behind = if separator c then spells_on s Octet else both (hex_digit c) (spells_on s Digit)

-- the same where something may have been wrong before
abbrev pub spells_from : List ℕ → Option Next → Bool
spells_from s None = false
spells_from s (Some n) = spells_on s n
