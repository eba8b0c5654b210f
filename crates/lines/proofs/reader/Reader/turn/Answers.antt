-- The line that is begun is read on by `read_on`, in the chunk that was cut to its octets.
use Rattle.std.proofs.Common.{length, ap}
use Rattle.octets.specs.Parts.{Part}
use Rattle.lines.specs.Passing.{standing}
use Rattle.lines.proofs.Turned.{turn_on}
use Rattle.lines.proofs.reader.Reader.turn.Goals as goal

pub returns : goal.returns
returns c =
    let x = c.args in
    let cut = ap (λ (p : Part). p.octets) c.front.ensures in
    let read = c.read_on-stop in
    let begun = c.begun_line-now.ensures x.chunk.now x.buf.now in
    let was = standing x.self x.chunk.now x.buf.now in
    let n = length x.buf.now in
    let from = c.begun_line-now.result.stop.from in
    record {
      buf_after = turn_on n was read.result read.new.buf from cut read.ensures.buf_after begun;
      leaves = read.ensures.leaves;
    }
