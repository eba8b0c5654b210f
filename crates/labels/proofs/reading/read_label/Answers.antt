-- The text's digits and octets stand in arrays with zeros behind them, of which the front is judged.
use mathlib.Core.Path.{◌≡◌, sym, ap, ◌∙◌}
use mathlib.Core.Bool.{true}
use mathlib.Core.List.{List}
use Prim.Native.Nat.{ℕ, ◌≤◌}
use native.Mathlib.Omega.{arith}
use lib.ListN.{length, take, drop, replicate}
use lib.Seq.{take_at, length-take-le}
use Rattle.std.proofs.Common.{Some}
use Rattle.octets.specs.Lists.{onto}
use Rattle.octets.proofs.Tabs.{length-onto}
use Rattle.labels.specs.Reading.{spells, octets_in, judged, read_label}
use Rattle.labels.proofs.Judging.{judged-over, octets-read}
use Rattle.labels.proofs.reading.read_label.Goals as goal
use Rattle.labels.proofs.reading.read_label.Goals.{After-octets_of, After-unwrap-length}

read : (c : After-octets_of) → let o = octets_in c.args.s.now in
    (c.octets_of.result ≡ Some (length o)) × (length o ≤ 18) × (c.octets_of.new.out ≡ onto o (replicate 18 0))
read c =
    octets-read c.args.s.now _ _ _ _ (sym c.spells.ensures ∙ c.if-not-spells.false) c.count_digits-n.ensures c.if-n-gt-MOST_DIGITS.false
    c.lay_digits.ensures c.octets_of.ensures

-- so the front of the array, as long as was told, are the text's octets
front : (c : After-unwrap-length) → let out = c.octets_of.new.out in
    (c.unwrap-length.result ≤ length out) × (take c.unwrap-length.result out ≡ octets_in c.args.s.now)
front c =
    let o = octets_in c.args.s.now in
    let z : List ℕ = replicate 18 0 in
    let r = read (goal.at.After-unwrap-length c).After-octets_of in
    let k : c.unwrap-length.result ≡ length o = cc (r.0, c.unwrap-length.ensures) in
    let long = length-onto o z r.1 in (
      omega (arith, k, ap length r.2),
      ap (take c.unwrap-length.result) r.2 ∙ take_at o (drop (length o) z) c.unwrap-length.result (sym k),
    )

pub returns-then-not-spells : goal.returns-then-not-spells
unfolding read_label
returns-then-not-spells c = simp (sym c.spells.ensures ∙ c.if-not-spells.true)

pub returns-then-n-gt-MOST_DIGITS : goal.returns-then-n-gt-MOST_DIGITS
unfolding read_label
returns-then-n-gt-MOST_DIGITS c =
    let spelt : spells c.args.s.now ≡ true = sym c.spells.ensures ∙ c.if-not-spells.false in
    simp spelt (sym (judged-over c.args.s.now spelt (omega (arith, c.count_digits-n.ensures, c.if-n-gt-MOST_DIGITS.true))))

pub unwrap-length-requires : goal.unwrap-length-requires
unwrap-length-requires c = rw (read (goal.at.unwrap-length-requires c).After-octets_of).0

pub slice_bounds-octets-end : goal.slice_bounds-octets-end
slice_bounds-octets-end c = (front c).0

pub slice_bounds-judge-end : goal.slice_bounds-judge-end
slice_bounds-judge-end c = sym (length-take-le _ _ (front (goal.at.slice_bounds-judge-end c).After-unwrap-length).0)

pub returns : goal.returns
unfolding read_label
returns c =
    let spelt : spells c.args.s.now ≡ true = sym c.spells.ensures ∙ c.if-not-spells.false in
    simp spelt (c.judge.ensures ∙ ap judged (front (goal.at.returns c).After-unwrap-length).1)
