-- The table of the refusals' words has each at its number, and an answer has room for all of a refusal.
-- Assumes nothing.
use Rattle.std.proofs.Common.{◌≡◌, ℕ, List, [], ◌∷◌, refl, ap, ◌∙◌, ap₂}
use Rattle.answers.specs.Numbers.{number_of}
use Rattle.answers.specs.declared.Refusal.{Refusal}
use Rattle.answers.specs.declared.Refusal.TheVariants.{Room, Long, Short, Form, Security, NoKey, Top, Stale, Forged, Full}
use Rattle.answers.specs.declared.Refusal.TheVariants.{Command, Protection, Absent, Argument, Label, Crc, Mark}
use Rattle.text.specs.Decimal.{decimal, decimal_in}
use Rattle.text.specs.Fields.{until, after, behind, field_at}
use Rattle.lines.specs.Answer.{room, more, field}
use Rattle.lines.specs.Refusals.{refused_word, word_of, refusal}

-- the table, of which field n is the word of refusal n
abbrev pub table : List ℕ
table =
    9 ∷ 114 ∷ 111 ∷ 111 ∷ 109 ∷ 9 ∷ 108 ∷ 111 ∷ 110 ∷ 103 ∷ 9 ∷ 115 ∷ 104 ∷ 111 ∷ 114 ∷ 116 ∷ 9 ∷ 102 ∷ 111 ∷ 114 ∷
    109 ∷ 9 ∷ 115 ∷ 101 ∷ 99 ∷ 117 ∷ 114 ∷ 105 ∷ 116 ∷ 121 ∷ 9 ∷ 110 ∷ 111 ∷ 107 ∷ 101 ∷ 121 ∷ 9 ∷ 116 ∷ 111 ∷ 112 ∷
    9 ∷ 115 ∷ 116 ∷ 97 ∷ 108 ∷ 101 ∷ 9 ∷ 102 ∷ 111 ∷ 114 ∷ 103 ∷ 101 ∷ 100 ∷ 9 ∷ 102 ∷ 117 ∷ 108 ∷ 108 ∷ 9 ∷ 99 ∷ 111 ∷
    109 ∷ 109 ∷ 97 ∷ 110 ∷ 100 ∷ 9 ∷ 112 ∷ 114 ∷ 111 ∷ 116 ∷ 101 ∷ 99 ∷ 116 ∷ 105 ∷ 111 ∷ 110 ∷ 9 ∷ 97 ∷ 98 ∷ 115 ∷
    101 ∷ 110 ∷ 116 ∷ 9 ∷ 97 ∷ 114 ∷ 103 ∷ 117 ∷ 109 ∷ 101 ∷ 110 ∷ 116 ∷ 9 ∷ 108 ∷ 97 ∷ 98 ∷ 101 ∷ 108 ∷ 9 ∷ 99 ∷ 114 ∷ 99 ∷ 9 ∷ 109 ∷ 97 ∷ 114 ∷ 107 ∷ []

pub word-there : (r : Refusal) → field_at table (number_of r) ≡ word_of r
unfolding until after behind field_at
word-there Room = refl
word-there Long = refl
word-there Short = refl
word-there Form = refl
word-there Security = refl
word-there NoKey = refl
word-there Top = refl
word-there Stale = refl
word-there Forged = refl
word-there Full = refl
word-there Command = refl
word-there Protection = refl
word-there Absent = refl
word-there Argument = refl
word-there Label = refl
word-there Crc = refl
word-there Mark = refl

-- nothing of it is left out
pub refusal-fits : (r : Refusal) → field (field (more room [] refused_word) (decimal (number_of r))) (word_of r) ≡ refusal r
unfolding more field decimal decimal_in refusal
refusal-fits Room = refl
refusal-fits Long = refl
refusal-fits Short = refl
refusal-fits Form = refl
refusal-fits Security = refl
refusal-fits NoKey = refl
refusal-fits Top = refl
refusal-fits Stale = refl
refusal-fits Forged = refl
refusal-fits Full = refl
refusal-fits Command = refl
refusal-fits Protection = refl
refusal-fits Absent = refl
refusal-fits Argument = refl
refusal-fits Label = refl
refusal-fits Crc = refl
refusal-fits Mark = refl

-- word, number and word, one put behind the other
pub refused_so : (r : Refusal) {n : ℕ} {f a w x : List ℕ} → n ≡ number_of r → f ≡ more room [] refused_word → a ≡ field f (decimal n)
    → w ≡ field_at table n → x ≡ field a w → x ≡ refusal r
refused_so r number first second word all =
    let told = second ∙ ap₂ (λ f n. field f (decimal n)) first number in
    let its = word ∙ ap (field_at table) number ∙ word-there r in
    all ∙ ap₂ field told its ∙ refusal-fits r
