-- What the router answers is known by what it tells: its contract leaves one answer.
-- Assumes nothing.
use Rattle.answers.specs.declared.Refusal.{Refusal}
use Rattle.std.proofs.Common.{◌≡◌, ℕ, Result, Ok, Err, refl, sym, ap, ◌∙◌}
use Rattle.answers.proofs.One.{refusal_of, refusal-back}
use Rattle.router.specs.Routing.{RouteTold, onward, halted, told_routed}

routed_back : RouteTold → Result ℕ Refusal
routed_back (onward a) = Ok a
routed_back (halted n) = Err (refusal_of n)

routed-back : (r : Result ℕ Refusal) → routed_back (told_routed r) ≡ r
unfolding routed_back
routed-back (Ok a) = refl
routed-back (Err r) = ap Err (refusal-back r)

pub routed-one : (r s : Result ℕ Refusal) → told_routed r ≡ told_routed s → r ≡ s
routed-one r s e = sym (routed-back r) ∙ ap routed_back e ∙ routed-back s
