-- Choosing by a test, as the papers do: "if .. then .. else ..", and "both".
-- Assumes nothing.
use Rattle.std.specs.Prelude.{Bool, true, false}

-- both tests pass
abbrev pub both : Bool → Bool → Bool
both true b = b
both false b = false
