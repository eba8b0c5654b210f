-- A refusal has no part; a frame that is sound has room for its command, and so for each part.
use Rattle.std.proofs.Common.{sym, ap, ◌∙◌}
use Rattle.settings.specs.Settings.{ours}
use Rattle.commands.specs.Code.{part_span}
use Rattle.commands.proofs.Bounds.{asked-holds, asked-nowhere}
use Rattle.commands.proofs.parts.span_of.Goals as goal

pub returns-in-Ok-clause-within : goal.returns-in-Ok-clause-within
returns-in-Ok-clause-within c = asked-holds c.args.frame.now ours _ c.args.asked _ _ c.in-Ok.ensures c.span_in.ensures

pub returns-in-Err-clause-span : goal.returns-in-Err-clause-span
returns-in-Err-clause-span c = sym (asked-nowhere c.args.asked _ _) ∙ ap (part_span c.args.asked _) c.in-Err.ensures
