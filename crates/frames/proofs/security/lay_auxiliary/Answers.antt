-- With identifier 1 all 14 fields are the header; else the first 13, which leave the sequence number out.
use mathlib.Core.Path.{refl, ap, ◌∙◌}
use Prim.Native.Nat.{◌%◌}
use Rattle.octets.specs.Lists.{pasted}
use Rattle.frames.proofs.Sent.{fields-numbered, fields-unnumbered}
use Rattle.frames.proofs.security.lay_auxiliary.Goals as goal

pub returns-then-aux-eq1 : goal.returns-then-aux-eq1
returns-then-aux-eq1 c =
    let y = c.args in
    c.paste_at.ensures
    ∙ ap (pasted y.out.now y.i)
    (fields-numbered (y.aux.identifier % 4) y.aux.counter y.aux.sender y.aux.sequence refl
    c.aux_fields-fields.ensures c.if-aux-eq1.true)

pub returns-else-aux-eq1 : goal.returns-else-aux-eq1
returns-else-aux-eq1 c =
    let y = c.args in
    c.paste_at-else-aux-eq1.ensures
    ∙ ap (pasted y.out.now y.i)
    (fields-unnumbered (y.aux.identifier % 4) y.aux.counter y.aux.sender y.aux.sequence refl
    c.aux_fields-fields.ensures c.if-aux-eq1.false)
