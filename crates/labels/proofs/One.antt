-- An answer is known by what it tells: a contract that speaks of numbers leaves one answer.
-- Assumes nothing.
use mathlib.Core.Path.{◌≡◌, refl, sym, ap, ◌∙◌}
use Prim.Native.Nat.{ℕ}
use Rattle.std.specs.Prelude.{Result, Ok, Err}
use Rattle.answers.proofs.One.{refusal_of, refusal-back}
use Rattle.answers.specs.declared.Refusal.{Refusal}
use Rattle.answers.specs.declared.Refusal.TheVariants.{Room}
use Rattle.labels.specs.declared.Label.{Label}
use Rattle.labels.specs.Answers.{LabelTold, coded, printed, refused, Reading, told_coded, told_printed}

coded_of : Reading → Result Label Refusal
coded_of r = go r.told
  where
    go : LabelTold → Result Label Refusal
    go (coded n) = Ok record { length = n; code = r.code; key = r.key.octets }
    go (printed n) = Err Room
    go (refused n) = Err (refusal_of n)

coded-back : (a : Result Label Refusal) → coded_of (told_coded a) ≡ a
unfolding coded_of
coded-back (Ok l) = refl
coded-back (Err r) = ap Err (refusal-back r)

pub coded-one : (a b : Result Label Refusal) → told_coded a ≡ told_coded b → a ≡ b
coded-one a b e = sym (coded-back a) ∙ ap coded_of e ∙ coded-back b

printed_of : LabelTold → Result ℕ Refusal
printed_of (coded n) = Err Room
printed_of (printed n) = Ok n
printed_of (refused n) = Err (refusal_of n)

printed-back : (a : Result ℕ Refusal) → printed_of (told_printed a) ≡ a
unfolding printed_of
printed-back (Ok n) = refl
printed-back (Err r) = ap Err (refusal-back r)

pub printed-one : (a b : Result ℕ Refusal) → told_printed a ≡ told_printed b → a ≡ b
printed-one a b e = sym (printed-back a) ∙ ap printed_of e ∙ printed-back b
