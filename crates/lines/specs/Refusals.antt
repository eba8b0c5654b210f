-- The bench language: "`refused`, the refusal's number in document 01, and its word". "Words of the refusals: 1 `room`, 2 `long`,
-- 3 `short`, 4 `form`, 5 `security`, 6 `nokey`, 7 `top`, 8 `stale`, 9 `forged`, 10 `full`, 11 `command`, 12 `protection`,
-- 13 `absent`, 14 `argument`." "New words: 15 `label`, 16 `crc`, 17 `mark`". A tab is the octet 9.
-- Assumes nothing.
use Rattle.std.specs.Prelude.{ℕ, List, [], ◌∷◌, ◌++◌, ⊤, Result, Ok, Err}
use Rattle.answers.specs.Numbers.{number_of}
use Rattle.answers.specs.declared.Refusal.{Refusal}
use Rattle.answers.specs.declared.Refusal.TheVariants.{Room, Long, Short, Form, Security, NoKey, Top, Stale, Forged, Full}
use Rattle.answers.specs.declared.Refusal.TheVariants.{Command, Protection, Absent, Argument, Label, Crc, Mark}
use Rattle.text.specs.Decimal.{decimal}
use Rattle.lines.specs.Answer.{ok}

-- the word `refused`
abbrev pub refused_word : List ℕ
refused_word = 114 ∷ 101 ∷ 102 ∷ 117 ∷ 115 ∷ 101 ∷ 100 ∷ []

-- a refusal's word
abbrev pub word_of : Refusal → List ℕ
word_of Room = 114 ∷ 111 ∷ 111 ∷ 109 ∷ []
word_of Long = 108 ∷ 111 ∷ 110 ∷ 103 ∷ []
word_of Short = 115 ∷ 104 ∷ 111 ∷ 114 ∷ 116 ∷ []
word_of Form = 102 ∷ 111 ∷ 114 ∷ 109 ∷ []
word_of Security = 115 ∷ 101 ∷ 99 ∷ 117 ∷ 114 ∷ 105 ∷ 116 ∷ 121 ∷ []
word_of NoKey = 110 ∷ 111 ∷ 107 ∷ 101 ∷ 121 ∷ []
word_of Top = 116 ∷ 111 ∷ 112 ∷ []
word_of Stale = 115 ∷ 116 ∷ 97 ∷ 108 ∷ 101 ∷ []
word_of Forged = 102 ∷ 111 ∷ 114 ∷ 103 ∷ 101 ∷ 100 ∷ []
word_of Full = 102 ∷ 117 ∷ 108 ∷ 108 ∷ []
word_of Command = 99 ∷ 111 ∷ 109 ∷ 109 ∷ 97 ∷ 110 ∷ 100 ∷ []
word_of Protection = 112 ∷ 114 ∷ 111 ∷ 116 ∷ 101 ∷ 99 ∷ 116 ∷ 105 ∷ 111 ∷ 110 ∷ []
word_of Absent = 97 ∷ 98 ∷ 115 ∷ 101 ∷ 110 ∷ 116 ∷ []
word_of Argument = 97 ∷ 114 ∷ 103 ∷ 117 ∷ 109 ∷ 101 ∷ 110 ∷ 116 ∷ []
word_of Label = 108 ∷ 97 ∷ 98 ∷ 101 ∷ 108 ∷ []
word_of Crc = 99 ∷ 114 ∷ 99 ∷ []
word_of Mark = 109 ∷ 97 ∷ 114 ∷ 107 ∷ []

-- the answer that refuses: `refused`, the number and the word, a tab before each
unfoldable pub refusal : Refusal → List ℕ
refusal r = refused_word ++ (9 ∷ decimal (number_of r)) ++ (9 ∷ word_of r)

-- what is told of a request that was done, or refused
abbrev pub told : Result ⊤ Refusal → List ℕ
told (Ok x) = ok
told (Err r) = refusal r
