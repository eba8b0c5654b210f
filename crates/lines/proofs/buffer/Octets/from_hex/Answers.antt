-- What `text` read into the array of zeros are the octets that were spelt, or nothing.
use Rattle.std.proofs.Common.{ℕ, replicate}
use lib.ListN.{length-replicate}
use Rattle.lines.proofs.Spelt.{none-spelt, some_spelt}
use Rattle.lines.proofs.buffer.Octets.from_hex.Goals as goal

pub returns-in_err-n : goal.returns-in_err-n
returns-in_err-n g c =
    let n = g.row.N in
    let zeros = replicate {A = ℕ} n 0 in
    let none = none-spelt c.args.s.now zeros c.octets_of.new.out n (length-replicate {A = ℕ} n 0) c.in_err-n.ensures in
    rw c.from_residual.ensures none

pub returns : goal.returns
returns g c =
    let n = g.row.N in
    let zeros = replicate {A = ℕ} n 0 in
    let e = length-replicate {A = ℕ} n 0 in
    some_spelt c.args.s.now zeros c.octets_of.new.out n e c.in_ok-n.n c.in_ok-n.ensures
