-- `end` is the first multiple of 16 that is 3 or more beyond d: the mark right behind d, the count in the last two, else zeros.
use mathlib.Core.Path.{sym, ap, ◌∙◌}
use native.Mathlib.Omega.{arith}
use Rattle.octets.specs.Lists.{at}
use Rattle.cipher.specs.Code.{padded_after}
use Rattle.cipher.proofs.Pads.{pad-plain, pad-mark, pad-high, pad-low, pad-else}
use Rattle.cipher.proofs.mmo.padded_octet.Goals as goal

pub returns-then-i-l : goal.returns-then-i-l
returns-then-i-l c = let x = c.args in sym (pad-plain x.b x.d.now x.i c.if-i-l.true)

pub returns-then-i-l-2 : goal.returns-then-i-l-2
returns-then-i-l-2 c = let x = c.args in sym (ap (at (padded_after x.b x.d.now)) c.if-i-l-2.true ∙ pad-mark x.b x.d.now)

pub returns-then-i-end : goal.returns-then-i-end
returns-then-i-end c = let x = c.args in sym (pad-high x.b x.d.now x.i c.if-i-end.true)

pub returns-then-i-end-2 : goal.returns-then-i-end-2
returns-then-i-end-2 c =
    let x = c.args in
    sym (pad-low x.b x.d.now x.i c.if-i-end-2.true)

pub returns : goal.returns
returns c =
    let x = c.args in
    sym (pad-else x.b x.d.now x.i (omega arith) c.if-i-end.false c.if-i-end-2.false)
