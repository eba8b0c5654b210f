-- Where the input's octets are known: the lines that were handed on and those that are to come are the input's, and what was
-- written is the talk of the former.
use Rattle.std.proofs.Common.{IfSome}
use Rattle.lines.specs.Passing.{standing}
use Rattle.lines.proofs.Talking.{Talking}
use Rattle.lines.proofs.running.run.Given as goal

abbrev pub invariant-loop : goal.invariant-loop
invariant-loop g l =
    IfSome (g.R.Read.remaining l.fn.input) (λ xs.
    Talking g.D.Desk.answers 2048 xs l.fn.desk (g.W.Write.contents l.fn.output) l.counter
    (standing l.reader l.chunk l.line) (g.R.Read.remaining l.input) l.desk (g.W.Write.contents l.output))
