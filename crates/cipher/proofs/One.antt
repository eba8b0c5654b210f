-- An answer is known by what it tells: 01's number and values lose nothing, so a contract that speaks of them leaves one answer.
-- Assumes nothing.
use mathlib.Core.Path.{◌≡◌, refl, sym, ap, ◌∙◌}
use Prim.Native.Nat.{ℕ}
use lib.Dec.{eqb}
use Rattle.std.specs.Prelude.{if◌then◌else◌, List, Result, Ok, Err}
use Rattle.cipher.specs.declared.Fault.{Fault}
use Rattle.cipher.specs.declared.Fault.TheVariants.{Room, Long, Short, Forged, Argument}
use Rattle.cipher.specs.Answers.{number, Count, made, refused, counted, Product, hashed}

fault_of : ℕ → Fault
fault_of n = if eqb n 1 then Room else (if eqb n 2 then Long else (if eqb n 3 then Short else (if eqb n 9 then Forged else Argument)))

fault-back : (f : Fault) → fault_of (number f) ≡ f
unfolding fault_of
fault-back Room = refl
fault-back Long = refl
fault-back Short = refl
fault-back Forged = refl
fault-back Argument = refl

result_of : Count → Result ℕ Fault
result_of (made n) = Ok n
result_of (refused n) = Err (fault_of n)

count-back : (r : Result ℕ Fault) → result_of (counted r) ≡ r
unfolding result_of
count-back (Ok n) = refl
count-back (Err f) = ap Err (fault-back f)

pub count-one : (r s : Result ℕ Fault) → counted r ≡ counted s → r ≡ s
count-one r s e = sym (count-back r) ∙ ap result_of e ∙ count-back s

-- the same of a hash: what is told beside a refusal is no part of it
octets_told : List ℕ → Count → Result (List ℕ) Fault
octets_told h (made n) = Ok h
octets_told h (refused n) = Err (fault_of n)

octets-back : (r : Result (List ℕ) Fault) → octets_told (hashed r).octets (hashed r).answer ≡ r
unfolding octets_told
octets-back (Ok h) = refl
octets-back (Err f) = ap Err (fault-back f)

pub hashed-one : (r s : Result (List ℕ) Fault) → hashed r ≡ hashed s → r ≡ s
hashed-one r s e = sym (octets-back r) ∙ ap (λ (p : Product). octets_told p.octets p.answer) e ∙ octets-back s
