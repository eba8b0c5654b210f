-- Document 01, "The commands" (RULES 9.5): "empty if refused or missing", of the value of a named tag. That it is empty only then
-- follows from document 02 (iv), "no value is empty".
-- Assumes nothing.
use Rattle.std.specs.Prelude.{ℕ, ◌+◌, Bool, false, List, drop}
use Rattle.tlvs.specs.Looking.{tagged}
use Rattle.commands.specs.Table.{rule_of}
use Rattle.commands.specs.Reading.{Judgement, refused, sound}
use Rattle.commands.specs.Reverse.{as_tlvs}

-- neither refused nor missing: one of the TLVs that follow has that tag
unfoldable pub is_there : List ℕ → ℕ → Judgement → Bool
is_there f tag (refused n) = false
is_there f tag (sound k) = tagged tag (as_tlvs (rule_of k).rest (drop (2 + (rule_of k).size) f))
