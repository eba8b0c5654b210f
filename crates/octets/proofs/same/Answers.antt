-- The fold gathers what is apart in the pairs, whatever it finds: 0 in the end just where the lists are the same.
use Rattle.std.proofs.Common.{ℕ, sym, bit_or, bit_xor, rules, ap, ◌∙◌, eqb}
use Rattle.std.proofs.lemmas.Iterator.{YieldsList-from_slice, YieldsList-from_zip}
use Rattle.std.proofs.lemmas.Iterator.Consumers.{fold_from_yields_List}
use Rattle.octets.proofs.Compared.{same_length, gathered}
use Rattle.octets.proofs.same.Goals as goal

pub returns-then-a-b : goal.returns-then-a-b
returns-then-a-b c = sym (same_length c.args.a.now c.args.b.now c.if-a-b.true)

pub returns : goal.returns
returns c =
    let x = c.args in
    let gathers = λ (p : ℕ) (o : ℕ × ℕ). bit_or p (bit_xor o.0 o.1) in
    ap (λ r. eqb r 0)
    (fold_from_yields_List _ gathers 0 c.fold.result c.fold.ensures.ran
    (YieldsList-from_zip (YieldsList-from_slice x.a.now cc) (YieldsList-from_slice x.b.now cc))
    (λ p o b q k. search rules))
    ∙ gathered 0 x.a.now x.b.now c.if-a-b.false
