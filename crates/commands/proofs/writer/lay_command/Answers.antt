-- 1, 11 and 2 are the definition's tests, in its order: the frame's length is known from the row before it is laid.
use Rattle.std.proofs.Common.{true, length, sym, refl, ap, ◌∙◌, arith}
use Rattle.settings.specs.Settings.{ours}
use Rattle.commands.specs.declared.Rule.{Rule}
use Rattle.commands.specs.Table.{rule_of}
use Rattle.commands.proofs.Laid.{own-length, refuses-long, lent-secret, writes}
use Rattle.commands.proofs.writer.lay_command.Goals as goal

pub returns-then-rule-rest : goal.returns-then-rule-rest
returns-then-rule-rest c =
    refuses-long _ _ _ _ _ _ _ _ (c.rule_of-rule.ensures.row ∙ ap rule_of c.kind_of.ensures) c.if-out-lt-LONGEST_APS.false
    (sym c.is_whole.ensures ∙ c.if-not-is_whole.false) c.if-rule-rest.true

pub own_octets-own-requires : goal.own_octets-own-requires
own_octets-own-requires c =
    lent-secret ours c.args.board.now true c.args.command _ _ c.args.out.now _ (c.rule_of-rule.ensures.row ∙ ap rule_of c.kind_of.ensures)
    (sym c.is_whole.ensures ∙ c.if-not-is_whole.false)

pub lay-requires : goal.lay-requires
lay-requires c =
    let row = c.rule_of-rule.ensures.row ∙ ap rule_of c.kind_of.ensures in
    let k = lent-secret ours c.args.board.now true c.args.command c.args.secret.now _ c.args.out.now _ row (sym c.is_whole.ensures ∙ c.if-not-is_whole.false) in
    omega (arith, ap length c.own_octets-own.ensures, own-length c.args.command c.args.secret.now k, ap (λ (r : Rule). r.size) row)

pub returns : goal.returns
returns c =
    writes _ _ _ _ _ _ _ _ (c.rule_of-rule.ensures.row ∙ ap rule_of c.kind_of.ensures) c.if-out-lt-LONGEST_APS.false
    (sym c.is_whole.ensures ∙ c.if-not-is_whole.false) c.if-rule-rest.false _ c.own_octets-own.result _ _ _
    c.command_control.ensures c.own_octets-own.ensures c.lay.ensures.count refl c.lay.ensures.laid
