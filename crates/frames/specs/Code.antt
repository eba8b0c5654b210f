-- Of the code: what contracts of private functions name. Nothing here need be believed: every callable routine's contract is
-- stated without it.
-- Assumes nothing.
use Rattle.std.specs.Prelude.{Result, Ok, Err}
use Rattle.answers.specs.declared.Refusal.{Refusal}
use Rattle.answers.specs.Numbers.{number_of}
use Rattle.frames.specs.declared.Heading.{Heading}
use Rattle.frames.specs.Reading.{Header, unfit, header}

abbrev pub told_heading : Result Heading Refusal → Header
told_heading (Ok h) = header h.octets h.secured
told_heading (Err r) = unfit (number_of r)
