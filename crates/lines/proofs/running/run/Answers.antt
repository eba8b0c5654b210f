-- Each turn hands on what comes first of the lines that are to come, and it is answered; the turns are more than an input of
-- fewer than 2 ^ 63 octets can have.
use Rattle.std.proofs.Common.{◌≡◌, ◌<◌, length, inl, inr, arith}
use Rattle.std.proofs.lemmas.Bool.{not-false, not-true}
use Rattle.lines.specs.Passing.{standing}
use Rattle.lines.proofs.Talking.{begins, goes_on, tells_all}
use Rattle.lines.proofs.running.run.Goals as goal

pub loop-init : goal.loop-init
loop-init g c = begins g.D.Desk.answers 2048 (g.R.Read.remaining c.args.input.now) _ _ _ (c.new-reader.ensures _ _)

pub loop-preserved : goal.loop-preserved
loop-preserved g c =
    let chunk : 0 < length c.loop.chunk = omega arith in
    let line : length c.loop.line ≡ 2048 = omega arith in
    let told = c.in_ok-answer_line.ensures c.read_on.new.chunk in
    goes_on g.D.Desk.answers 2048 (g.R.Read.remaining c.args.input.now) _ _ _ (standing c.loop.reader c.loop.chunk c.loop.line)
    (standing c.in_ok-reader.reader c.read_on.new.chunk c.read_on.new.line) _ _ _ _ _ _ _ (not-false _ c.if-not-reader.false) line
    (c.in_ok-reader.ensures chunk) told c.loop.invariant

pub returns-after-loop-clause-told : goal.returns-after-loop-clause-told
returns-after-loop-clause-told g c =
    tells_all g.D.Desk.answers 2048 (g.R.Read.remaining c.args.input.now) _ _ _ _ _ _ _ (inr c.loop-test.false) c.loop.invariant

pub returns-then-not-reader-clause-told : goal.returns-then-not-reader-clause-told
returns-then-not-reader-clause-told g c =
    tells_all g.D.Desk.answers 2048 (g.R.Read.remaining c.args.input.now) _ _ _ _ _ _ _ (inl (not-true _ c.if-not-reader.true)) c.loop.invariant
