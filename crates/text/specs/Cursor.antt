-- The bench language: "`ok`, and the fields below, each after a tab": an answer is put together field by field.
-- What is laid where is `pasted`, of octets: a text that has no room is left out whole. Assumes nothing.
use Rattle.std.specs.Prelude.{List, ℕ, ◌+◌, length, nat_le, if◌then◌else◌}

-- the place behind s, once it is laid into o at place i; i itself where it has no room
unfoldable pub ahead : List ℕ → ℕ → List ℕ → ℕ
ahead o i s = if nat_le (i + length s) (length o) then i + length s else i
