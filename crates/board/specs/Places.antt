-- "Of several matching rows, slots or entries the lowest counts" (document 01, "The state and the lists"; RULES 2.4): the first place
-- that passes a test.
-- Assumes nothing.
use Rattle.std.specs.Prelude.{Bool, ℕ, zero, suc, ◌+◌, Option, Some, None}
use Rattle.std.specs.Prelude.{if◌then◌else◌}

-- of the n places from i on
unfoldable pub first_at : (ℕ → Bool) → ℕ → ℕ → Option ℕ
first_at p i zero = None
first_at p i (suc n) = if p i then Some i else first_at p (i + 1) n
