-- As many octets as there is room for are laid behind the line's, and the line is too long where these are not all of them.
use Rattle.std.proofs.Common.{◌≡◌, ◌+◌, ◌-◌, ltb, length, arith}
use Rattle.lines.proofs.Fed.{or, fed_in}
use Rattle.lines.proofs.reading.Line.feed.Goals as goal

pub returns-then-self : goal.returns-then-self
returns-then-self c =
    let x = c.args in
    let a = c.min-at.result in
    let n = c.min-n.result in
    let longer : or x.self.long (ltb n (length x.part.now)) ≡ x.self.long = rw c.if-self.true in
    let (told, left) =
    fed_in x.buf.now x.part.now c.copy_from_slice.new.self a (a + n - a) n x.self.at x.self.long x.self.long
    c.min-at.ensures c.min-n.ensures (omega arith) c.copy_from_slice.ensures.after longer in
    record { buf_after = told; leaves = left }

pub returns-else-self : goal.returns-else-self
returns-else-self c =
    let x = c.args in
    let a = c.min-at.result in
    let n = c.min-n.result in
    let m = ltb n (length x.part.now) in
    let longer : or x.self.long m ≡ m = rw c.if-self.false in
    let (told, left) =
    fed_in x.buf.now x.part.now c.copy_from_slice.new.self a (a + n - a) n x.self.at x.self.long m
    c.min-at.ensures c.min-n.ensures (omega arith) c.copy_from_slice.ensures.after longer in
    record { buf_after = told; leaves = left }
