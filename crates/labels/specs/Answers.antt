-- What reading and printing a label answer, in the numbers of document 02 (v) (RULES 14.3, 14.4), and what they leave.
-- Assumes nothing.
use Rattle.std.specs.Prelude.{List, ℕ, Result, Ok, Err}
use Rattle.octets.specs.Keys.{Key, the_key}
use Rattle.octets.specs.Lists.{tab}
use Rattle.answers.specs.Numbers.{number_of}
use Rattle.answers.specs.declared.Refusal.{Refusal}
use Rattle.labels.specs.declared.Label.{Label}

-- a code was read, of so many octets; a text was printed, of so many; or a refusal's number
pub data LabelTold : Type 0 where
  coded : ℕ → LabelTold
  printed : ℕ → LabelTold
  refused : ℕ → LabelTold

-- what reading answers, and the code and the key that come with it
pub record Reading : Type 0 where
  pub told : LabelTold
  pub code : List ℕ
  pub key : Key

abbrev pub reading : LabelTold → List ℕ → Key → Reading
reading t c k = record { told = t; code = c; key = k }

-- 16 octets, all zero
abbrev pub zeros : List ℕ
zeros = tab 16 (λ _. 0)

-- a refusal: no code and no key, but zeros
abbrev pub no_code : ℕ → Reading
no_code n = reading (refused n) zeros (the_key zeros)

-- what a label that was read tells, or a refusal
abbrev pub told_coded : Result Label Refusal → Reading
told_coded (Ok l) = reading (coded l.length) l.code (the_key l.key)
told_coded (Err r) = no_code (number_of r)

-- what a label that was printed tells, or a refusal
abbrev pub told_printed : Result ℕ Refusal → LabelTold
told_printed (Ok n) = printed n
told_printed (Err r) = refused (number_of r)
