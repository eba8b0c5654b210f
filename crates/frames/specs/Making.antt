-- Document 01, "Opening and sealing" (RULES 6.8): "the plain frame (security bit cleared, auxiliary header and tag gone)", and the
-- secured frame.
-- Assumes nothing.
use Rattle.std.specs.Prelude.{List, ℕ, ◌+◌, ◌-◌, ◌*◌, ◌/◌, ◌%◌, length, take, set, nat_le}
use Rattle.std.specs.Prelude.{if◌then◌else◌}
use Rattle.octets.specs.Choice.{both}
use Rattle.octets.specs.Lists.{at, onto}
use Rattle.frames.specs.declared.Layer.{Layer}
use Rattle.frames.specs.declared.Layer.TheVariants.{Network, Aps}

-- the octet that has the security bit, and the bit's value in it: bit 9 of a network control is bit 1 of its octet 1,
-- and an APS control is octet 0
abbrev pub bit_place : Layer → ℕ
bit_place Network = 1
bit_place Aps = 0

abbrev pub bit_value : Layer → ℕ
bit_value Network = 2
bit_value Aps = 32

-- an octet with the bit of value v cleared, and set
unfoldable pub cleared : ℕ → ℕ → ℕ
cleared v x = x - x / v % 2 * v

unfoldable pub marked : ℕ → ℕ → ℕ
marked v x = cleared v x + v

-- the h octets of a frame's header, with the security bit cleared, and set
unfoldable pub plain_header : Layer → List ℕ → ℕ → List ℕ
plain_header l f h = set (take h f) (bit_place l) (cleared (bit_value l) (at f (bit_place l)))

unfoldable pub secured_header : Layer → List ℕ → ℕ → List ℕ
secured_header l f h = set (take h f) (bit_place l) (marked (bit_value l) (at f (bit_place l)))

-- a header x of n octets of f, laid at the start of an output o; o stays where f or o has fewer
unfoldable pub laid : List ℕ → List ℕ → ℕ → List ℕ → List ℕ
laid o f n x = if both (nat_le n (length f)) (nat_le n (length o)) then onto x o else o
