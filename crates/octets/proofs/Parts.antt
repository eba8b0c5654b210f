-- A part is known by its memory, its place and its octets.
-- Assumes nothing.
use mathlib.Core.Path.{◌≡◌}
use Rattle.octets.specs.Parts.{Part}

pub same-part : {p q : Part} → p.block ≡ q.block → p.offset ≡ q.offset → p.octets ≡ q.octets → p ≡ q
same-part {p} {q} a b c = λ i. record { block = a i; offset = b i; octets = c i }
