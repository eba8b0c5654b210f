-- Document 02 (v) (RULES 14.4): "a writer that prints the label, in capitals with one space between octets (a code of another length:
-- 15; then output too short: 1)".
-- Assumes nothing.
use Rattle.std.specs.Prelude.{List, ℕ, length, nat_le}
use Rattle.std.specs.Prelude.{if◌then◌else◌}
use Rattle.octets.specs.Lists.{onto}
use Rattle.labels.specs.Codes.{code_length, with_crc}
use Rattle.labels.specs.Spelling.{Style, space, capital, in_print}
use Rattle.labels.specs.Answers.{LabelTold, printed, refused}

-- "in capitals with one space between octets"
abbrev pub as_printed : Style
as_printed = record { gap = λ _. space; high = λ _. capital; low = λ _. capital }

-- the text of the label of code c
unfoldable pub label_text : List ℕ → List ℕ
label_text c = in_print as_printed (with_crc c)

-- what printing answers, and what the output then holds
pub record Printing : Type 0 where
  pub told : LabelTold
  pub out : List ℕ

abbrev pub printing : LabelTold → List ℕ → Printing
printing t o = record { told = t; out = o }

unfoldable pub print_label : List ℕ → List ℕ → Printing
print_label c o =
    if code_length (length c) then
    if nat_le (length (label_text c)) (length o)
    then printing (printed (length (label_text c))) (onto (label_text c) o)
    else printing (refused 1) o
    else printing (refused 15) o
