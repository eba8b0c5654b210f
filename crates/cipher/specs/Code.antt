-- Of the code: what contracts of private functions name. Nothing here need be believed: every callable routine's contract is
-- stated without it.
-- Assumes nothing.
use Rattle.std.specs.Prelude.{List, ◌∷◌, ◌++◌, ℕ, ◌+◌, ◌-◌, ◌*◌, ◌%◌, length, replicate, nat_le, Result, Ok, Err}
use Rattle.std.specs.Prelude.{if◌then◌else◌}
use Rattle.octets.specs.Lists.{at, tab}
use Rattle.octets.specs.Least.{spelled}
use Rattle.cipher.specs.Aes.{mixed, below}
use Rattle.cipher.specs.Blocks.{two_octets}
use Rattle.cipher.specs.Answers.{tag_length, most}
use Rattle.cipher.specs.declared.Fault.{Fault}
use Rattle.cipher.specs.declared.Fault.TheVariants.{Long, Argument}

-- the block that four words are, each held as the number that its octets spell
abbrev pub block_of : List ℕ → List ℕ
block_of w = spelled 4 (at w 0) ++ (spelled 4 (at w 1) ++ (spelled 4 (at w 2) ++ spelled 4 (at w 3)))

-- `mix_columns` of one column, of four octets
unfoldable pub mixed_column : List ℕ → List ℕ
mixed_column t = tab 4 (λ j. mixed (at t j) (below t j 1) (below t j 2) (below t j 3))

-- the octets d with the padding of a string of which b octets, a multiple of 16, went before d
unfoldable pub padded_after : ℕ → List ℕ → List ℕ
padded_after b d = d ++ (0x80 ∷ replicate ((29 - length d % 16) % 16) 0 ++ two_octets (8 * (b + length d)))

-- what sealing and opening refuse first: a tag that CCM* does not have, then more authenticated octets than are taken
abbrev pub judged : ℕ → List ℕ → Result (Unit {0}) Fault
judged M a = if tag_length M then (if nat_le (length a) most then Ok tt else Err Long) else Err Argument
