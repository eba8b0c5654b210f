-- The TLVs are lent as a part of the frame; what was found in them lies as far behind where they start.
use Rattle.std.proofs.Common.{Ok, ap, ◌∙◌, arith}
use Rattle.commands.proofs.Bounds.{found-holds}
use Rattle.commands.proofs.parts.value_span.Goals as goal

pub overflow_add-result : goal.overflow_add-result
overflow_add-result c =
    omega (arith, found-holds c.args.f _ c.args.tag c.args.tlvs c.of.ensures _ c.first_of.ensures c.requires c.in-Ok-Some.value (c.in-Ok-Some.is ∙ ap Ok c.in-Ok-Some.field-0-is))

pub returns-in-Ok-Some-clause-within : goal.returns-in-Ok-Some-clause-within
returns-in-Ok-Some-clause-within c = found-holds c.args.f _ c.args.tag c.args.tlvs c.of.ensures _ c.first_of.ensures c.requires c.in-Ok-Some.value (c.in-Ok-Some.is ∙ ap Ok c.in-Ok-Some.field-0-is)
