-- A part of what a caller lent, handed back: which memory it stands in, where it starts, and its octets (document 01, "How to
-- write each place"; RULES 9.5: "handed back as that part of the caller's own frame").
-- Assumes nothing.
use Rattle.std.specs.Prelude.{List, ℕ, ◌+◌, take, drop}
use Rattle.std.specs.Borrow.{Bor}

pub record Part : Type 0 where
  pub block : ℕ
  pub offset : ℕ
  pub octets : List ℕ

-- a part as it was handed back
abbrev pub seen : Bor (List ℕ) → Part
seen r = record { block = r.ref_ptr.0; offset = r.ref_ptr.1; octets = r.now }

-- the n octets of s from place i on
abbrev pub octets_from : List ℕ → ℕ → ℕ → List ℕ
octets_from s i n = take n (drop i s)

-- octets o as a part of what was lent as s, from place i on
abbrev pub part_at : Bor (List ℕ) → ℕ → List ℕ → Part
part_at s i o = record { block = s.ref_ptr.0; offset = s.ref_ptr.1 + i; octets = o }

-- its n octets from place i on
abbrev pub cut : Bor (List ℕ) → ℕ → ℕ → Part
cut s i n = part_at s i (octets_from s.now i n)
