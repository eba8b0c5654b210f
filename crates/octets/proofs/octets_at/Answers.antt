-- Each octet is read in what is left of s from place i on; past its end that is nothing, and 0 is read.
use Rattle.std.proofs.Common.{◌≡◌, ℕ, ◌+◌, min, ◌∙◌, sym, inl, inr, ap, rules, arith, length, List, slice_range, get_or}
use Rattle.std.proofs.Math.ListN.{get_or-eq_default}
use Rattle.std.proofs.lemmas.Slice.{between_to_end}
use Rattle.std.proofs.lemmas.Bool.{cases_lt}
use Rattle.std.proofs.Math.Seq.{get_or-drop}
use Rattle.octets.specs.Lists.{at}
use Rattle.octets.proofs.FromFn.{made}
use Rattle.octets.proofs.Tabs.{tab-ext}
use Rattle.octets.proofs.octets_at.Goals as goal

left-at : (s : List ℕ) (i m j : ℕ) → m ≡ min i (length s) → at (slice_range s m (length s)) j ≡ at s (i + j)
left-at s i m j e =
    ap (λ (l : List ℕ). at l j) (between_to_end s m (length s) (omega arith)) ∙ get_or-drop m s j 0
    ∙ elim (cases_lt i (length s)) [
      | inl h ↦ ap (λ n. get_or s (n + j) 0) (omega arith)
      | inr h ↦ get_or-eq_default s 0 (omega arith) ∙ sym (get_or-eq_default s 0 (omega arith))
    ]

pub returns : goal.returns
returns g c =
    let x = c.args in
    let left = λ (j : ℕ). at (slice_range x.s.now c.min.result (length x.s.now)) j in
    made _ _ left c.from_fn.result (λ j y q k. search rules) g.row.N c.from_fn.ensures.items
    ∙ tab-ext g.row.N left (λ j. at x.s.now (x.i + j)) (λ j _. left-at x.s.now x.i c.min.result j c.min.ensures)
