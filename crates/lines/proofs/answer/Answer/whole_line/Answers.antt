-- Number, tab, answer and line feed are put one behind the other, and there is room for 20 octets, 1, an answer and 1.
use Rattle.std.proofs.Common.{◌≡◌, ◌≤◌, length, arith, length-take}
use Rattle.lines.specs.Answer.{room, said}
use Rattle.lines.proofs.Written.{whole-fits}
use Rattle.lines.proofs.answer.Answer.whole_line.Goals as goal

pub returns : goal.returns
returns c =
    let a = c.args.self.now in
    let long : length a.octets ≡ room = omega arith in
    let short : length (said a) ≤ room = simp length-take (omega (arith, long)) in
    let whole = whole-fits c.args.number (said a) short in
    cc
