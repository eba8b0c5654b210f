-- `io::hex` writes at least 16 digits, and a number of 64 bits has no more: these are the address.
use mathlib.Core.Path.{◌∙◌, ap}
use native.Mathlib.Omega.{arith}
use Rattle.io.specs.Digits.{last_digits}
use Rattle.text.specs.Hex.{address}
use Rattle.text.proofs.Hexed.{sixteen}
use Rattle.text.proofs.hex.put_address.Goals as goal

pub returns : goal.returns
unfolding address
returns c =
    let x = c.args in
    let w = c.hex-n.ensures in
    let all = sixteen x.a c.hex-n.result (omega arith) w.len in
    rw (w.digits ∙ ap (λ k. last_digits 16 k x.a) all) at c.put.ensures
