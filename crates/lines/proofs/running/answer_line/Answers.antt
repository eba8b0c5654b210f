-- A line that goes on has no answer, nor has a silent one; what is written of any other is its whole line.
use Rattle.std.proofs.Common.{ℕ, List, [], Option, sym, ap, ◌∙◌, subst, OnOk, Result, Ok, Err}
use Rattle.std.specs.Io.KnownBytes.{Appends}
use Rattle.std.proofs.KnownBytes.{Appends-nil}
use Rattle.octets.specs.Parts.{Part}
use Rattle.lines.specs.Lines.{silent}
use Rattle.lines.specs.Answer.{bad, whole_line}
use Rattle.lines.specs.Passing.{numbered, standing, handing}
use Rattle.lines.specs.Running.{Told, or_bad}
use Rattle.lines.proofs.Talking.{told-none, told-one, passed-over, told-bad, asked}
use Rattle.lines.proofs.running.answer_line.Goals as goal
use Rattle.lines.proofs.running.answer_line.Goals.{then-not-is_due-via-then-not-is_due, then-not-is_due-via-else-not-is_due+then-is_silent}

pub returns-then-not-is_due : goal.returns-then-not-is_due
returns-then-not-is_due g c = λ l.
    let A = g.D.Desk.answers in
    let x = c.args in
    let s = standing x.reader l x.line.now in
    let k = g.W.Write.contents x.output.now in
    let due = sym (c.is_due.ensures l x.line.now) in
    let there = ap (λ (p : Part). p.octets) c.front-there.ensures in
    elim c.then-not-is_due.branch [
      | then-not-is_due-via-then-not-is_due w ↦ told-none A s x.desk.now k (due ∙ w.if-not-is_due.true)
      | then-not-is_due-via-else-not-is_due+then-is_silent w ↦
          let quiet = ap silent (sym there) ∙ sym w.is_silent.ensures ∙ w.if-is_silent.true in
          told-one A s x.desk.now [] x.desk.now k k (due ∙ w.if-not-is_due.false)
          (passed-over A (numbered s.number s.at.line) x.desk.now quiet) (Appends-nil k)
    ]

-- what follows from a fact of an `Ok` holds of it
on-ok : {T E : Type 0} (r : Result T E) (P Q : Type 0) → (P → Q) → OnOk r P → OnOk r Q
on-ok (Ok x) P Q f p = f p
on-ok (Err e) P Q f p = p

pub returns-then-read : goal.returns-then-read
returns-then-read g c =
    let A = g.D.Desk.answers in
    let x = c.args in
    let k = g.W.Write.contents x.output.now in
    let m = g.W.Write.contents c.tell_bad.new.output in
    let there = ap (λ (p : Part). p.octets) c.front-there.ensures in
    let loud = ap silent (sym there) ∙ sym c.is_silent.ensures ∙ c.if-is_silent.false in
    on-ok c.tell_bad.result (Appends k m (whole_line x.reader.number bad))
    ((l : List ℕ) → Told A (handing (standing x.reader l x.line.now) []) x.desk.now k x.desk.now m)
    (λ went l.
    let s = standing x.reader l x.line.now in
    let due = sym (c.is_due.ensures l x.line.now) ∙ c.if-not-is_due.false in
    told-one A s x.desk.now _ x.desk.now k m due (told-bad A (numbered s.number s.at.line) x.desk.now loud c.if-read.true) went)
    c.tell_bad.ensures

pub returns : goal.returns
returns g c =
    let A = g.D.Desk.answers in
    let x = c.args in
    let k = g.W.Write.contents x.output.now in
    let m = g.W.Write.contents c.ask.new.output in
    let e = c.ask.new.desk in
    let there = ap (λ (p : Part). p.octets) c.front-there.ensures in
    let loud = ap silent (sym there) ∙ sym c.is_silent.ensures ∙ c.if-is_silent.false in
    on-ok c.ask.result
    ((a : Option (List ℕ)) × (A x.desk.now c.front-there.result.now a e × Appends k m (whole_line x.reader.number (or_bad a))))
    ((l : List ℕ) → Told A (handing (standing x.reader l x.line.now) []) x.desk.now k e m)
    (λ went l.
    let (a, (says, told)) = went in
    let s = standing x.reader l x.line.now in
    let due = sym (c.is_due.ensures l x.line.now) ∙ c.if-not-is_due.false in
    let heard = subst (λ (o : List ℕ). A x.desk.now o a e) there says in
    told-one A s x.desk.now _ e k m due (asked A (numbered s.number s.at.line) x.desk.now e a loud c.if-read.false heard) told)
    c.ask.ensures
