-- Document 01 (RULES 1.3): "zero or all ones" is nobody's address: no sender's, no partner's, no board's.
-- Assumes nothing.
use Rattle.std.specs.Prelude.{Bool, true, ℕ, ◌-◌, ◌^◌, ◌==◌, if◌then◌else◌}

unfoldable pub no_address : ℕ → Bool
no_address a = if a == 0 then true else a == (2 ^ 64 - 1)
