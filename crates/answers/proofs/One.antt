-- A refusal is known by its number, and an outcome by what it tells: a contract that speaks of 01's numbers leaves one answer.
-- Assumes nothing.
use Rattle.std.proofs.Common.{Option, Some, None, Result, Ok, Err}
use Rattle.std.specs.Bool.{⊤}
use mathlib.Core.Path.{◌≡◌, refl, sym, ap, ◌∙◌}
use mathlib.Core.List.{List, [], ◌∷◌}
use Prim.Native.Nat.{ℕ}
use lib.ListN.{get_or}
use Rattle.answers.specs.declared.Refusal.{Refusal}
use Rattle.answers.specs.declared.Refusal.TheVariants.{Room, Long, Short, Form, Security, NoKey, Top, Stale, Forged, Full, Command, Protection, Absent, Argument, Label, Crc, Mark}
use Rattle.answers.specs.declared.Opened.{Opened}
use Rattle.answers.specs.Numbers.{number_of, Told, done, refused, told, ProtectionTold, clear, under, protection_of, FrameTold, opened, sealed, written, turned_down, told_opened, told_sealed, told_written}

-- 01's table, read by the number; place 0 has none
table : List Refusal
table = Room ∷ Room ∷ Long ∷ Short ∷ Form ∷ Security ∷ NoKey ∷ Top ∷ Stale ∷ Forged ∷ Full ∷ Command ∷ Protection ∷ Absent ∷ Argument ∷ Label ∷ Crc ∷ Mark ∷ []

pub refusal_of : ℕ → Refusal
refusal_of n = get_or table n Room

pub refusal-back : (r : Refusal) → refusal_of (number_of r) ≡ r
unfolding refusal_of table
refusal-back Room = refl
refusal-back Long = refl
refusal-back Short = refl
refusal-back Form = refl
refusal-back Security = refl
refusal-back NoKey = refl
refusal-back Top = refl
refusal-back Stale = refl
refusal-back Forged = refl
refusal-back Full = refl
refusal-back Command = refl
refusal-back Protection = refl
refusal-back Absent = refl
refusal-back Argument = refl
refusal-back Label = refl
refusal-back Crc = refl
refusal-back Mark = refl

pub number-one : (r s : Refusal) → number_of r ≡ number_of s → r ≡ s
number-one r s e = sym (refusal-back r) ∙ ap refusal_of e ∙ refusal-back s

outcome_of : Told → Result ⊤ Refusal
outcome_of done = Ok tt
outcome_of (refused n) = Err (refusal_of n)

outcome-back : (o : Result ⊤ Refusal) → outcome_of (told o) ≡ o
unfolding outcome_of
outcome-back (Ok tt) = refl
outcome-back (Err r) = ap Err (refusal-back r)

pub told-one : (o p : Result ⊤ Refusal) → told o ≡ told p → o ≡ p
told-one o p e = sym (outcome-back o) ∙ ap outcome_of e ∙ outcome-back p

guard_of : ProtectionTold → Option ℕ
guard_of clear = None
guard_of (under k) = Some k

guard-back : (g : Option ℕ) → guard_of (protection_of g) ≡ g
unfolding guard_of
guard-back None = refl
guard-back (Some k) = refl

pub guard-one : (g h : Option ℕ) → protection_of g ≡ protection_of h → g ≡ h
guard-one g h e = sym (guard-back g) ∙ ap guard_of e ∙ guard-back h

opened_of : FrameTold → Result Opened Refusal
opened_of (opened n a p) = Ok (record { length = n; sender = a; protection = guard_of p })
opened_of (sealed n) = Err Room
opened_of (written n) = Err Room
opened_of (turned_down n) = Err (refusal_of n)

opened-back : (o : Result Opened Refusal) → opened_of (told_opened o) ≡ o
unfolding opened_of
opened-back (Ok o) =
    ap (λ (g : Option ℕ). opened-with o g) (guard-back o.protection)
  where
    opened-with : Opened → Option ℕ → Result Opened Refusal
    opened-with o g = Ok (record { length = o.length; sender = o.sender; protection = g })
opened-back (Err r) = ap Err (refusal-back r)

pub opened_one : (o p : Result Opened Refusal) → told_opened o ≡ told_opened p → o ≡ p
opened_one o p e = sym (opened-back o) ∙ ap opened_of e ∙ opened-back p

sealed_of : FrameTold → Result ℕ Refusal
sealed_of (opened n a g) = Err Room
sealed_of (sealed n) = Ok n
sealed_of (written n) = Err Room
sealed_of (turned_down n) = Err (refusal_of n)

sealed-back : (o : Result ℕ Refusal) → sealed_of (told_sealed o) ≡ o
unfolding sealed_of
sealed-back (Ok n) = refl
sealed-back (Err r) = ap Err (refusal-back r)

pub sealed-one : (o p : Result ℕ Refusal) → told_sealed o ≡ told_sealed p → o ≡ p
sealed-one o p e = sym (sealed-back o) ∙ ap sealed_of e ∙ sealed-back p

written_of : FrameTold → Result ℕ Refusal
written_of (opened n a g) = Err Room
written_of (sealed n) = Err Room
written_of (written n) = Ok n
written_of (turned_down n) = Err (refusal_of n)

written_back : (o : Result ℕ Refusal) → written_of (told_written o) ≡ o
unfolding written_of
written_back (Ok n) = refl
written_back (Err r) = ap Err (refusal-back r)

pub written_one : (o p : Result ℕ Refusal) → told_written o ≡ told_written p → o ≡ p
written_one o p e = sym (written_back o) ∙ ap written_of e ∙ written_back p
