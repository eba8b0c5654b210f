-- Document 01, "The commands" (RULES 9.3): "the value of the first TLV of a named tag"; and Relay's rule, "at least one of tag 0 with
-- 8 or more octets".
-- Assumes nothing.
use Rattle.std.specs.Prelude.{Bool, true, false, List, [], ◌∷◌, ℕ, ◌==◌, nat_le, Option, Some, None, Result, Ok, Err}
use Rattle.std.specs.Prelude.{if◌then◌else◌}
use Rattle.octets.specs.Choice.{both}
use Rattle.tlvs.specs.declared.Wanted.{Wanted}
use Rattle.tlvs.specs.declared.Value.{Value}
use Rattle.tlvs.specs.declared.Ill.{Ill}
use Rattle.tlvs.specs.Filling.{Tlv, Tlvs, ill, filling, tlvs_of}
use Rattle.tlvs.specs.declared.Wanted.TheVariants as wanted

-- the least value that Relay asks for
abbrev pub relay_octets : ℕ
relay_octets = 8

-- whether a TLV of that tag and size is one that is looked for
unfoldable pub wants : Wanted → ℕ → ℕ → Bool
wants wanted.Nothing t n = false
wants (wanted.Tag a) t n = t == a
wants wanted.Relay t n = both (t == 0) (nat_le relay_octets n)

-- the value of a TLV
abbrev pub value_of : Tlv → Value
value_of t = record { start = t.start; size = t.size }

abbrev pub first_of : Wanted → List Tlv → Option Value
first_of w [] = None
first_of w (t ∷ ts) = if wants w t.tag t.size then Some (value_of t) else first_of w ts

abbrev pub looked_in : Wanted → Tlvs → Result (Option Value) Ill
looked_in w ill = Err (record {})
looked_in w (filling ts) = Ok (first_of w ts)

-- the first TLV of s that is looked for; ill where s has octets that TLVs do not fill
unfoldable pub walked : Wanted → List ℕ → Result (Option Value) Ill
walked w s = looked_in w (tlvs_of s)

-- "filling the rest exactly"
abbrev pub filled : Tlvs → Bool
filled ill = false
filled (filling ts) = true

unfoldable pub fills : List ℕ → Bool
fills s = filled (tlvs_of s)

-- Relay's rule
abbrev pub found : Result (Option Value) Ill → Bool
found (Err e) = false
found (Ok None) = false
found (Ok (Some v)) = true

unfoldable pub relays : List ℕ → Bool
relays s = found (walked wanted.Relay s)

-- whether one of the TLVs has that tag
abbrev pub among : ℕ → List Tlv → Bool
among a [] = false
among a (t ∷ ts) = if t.tag == a then true else among a ts

abbrev pub among_in : ℕ → Tlvs → Bool
among_in a ill = false
among_in a (filling ts) = among a ts

-- whether TLVs fill s, and one of them has that tag
unfoldable pub tagged : ℕ → List ℕ → Bool
tagged a s = among_in a (tlvs_of s)
