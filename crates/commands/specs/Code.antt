-- Of the code: what contracts of private functions name. Nothing here need be believed: every callable routine's contract is
-- stated without it.
-- Assumes nothing.
use Rattle.answers.specs.declared.Refusal.{Refusal}
use Rattle.commands.specs.declared.Kind.{Kind}
use Rattle.std.specs.Prelude.{ℕ, Result, Ok, Err}
use Rattle.answers.specs.Numbers.{number_of}
use Rattle.board.specs.declared.Board.{Board}
use Rattle.commands.specs.Writing.{aps_raised}
use Rattle.commands.specs.declared.Asked.{Asked}
use Rattle.commands.specs.declared.Asked.TheVariants.{Key, Hash, Tlvs, Inner}
use Rattle.commands.specs.declared.Span.{Span}
use Rattle.commands.specs.Parts.{key_span, hash_span, tlvs_span, inner_span}
use Rattle.commands.specs.Reading.{Judgement, refused, sound}

abbrev pub told_judged : Result Kind Refusal → Judgement
told_judged (Err r) = refused (number_of r)
told_judged (Ok k) = sound k

-- the board behind an answer: writing raises the APS counter, a refusal leaves it
abbrev pub left_by : Result ℕ Refusal → Board → Board
left_by (Err r) b = b
left_by (Ok n) b = aps_raised b

-- the span of the part asked for, in a frame of n octets
abbrev pub part_span : Asked → ℕ → Judgement → Span
part_span Key n v = key_span v
part_span Hash n v = hash_span v
part_span Tlvs n v = tlvs_span n v
part_span Inner n v = inner_span n v
