-- A line's form has a letter for each of its fields. The bench language: "`bad`: the line is not one of those below, a field is
-- malformed or beyond its range".
-- Assumes nothing.
use Rattle.std.specs.Prelude.{ℕ, ◌+◌, ◌*◌, ◌/◌, Bool, List, length, ◌==◌, Option, Some, None, unwrap_or}
use Rattle.std.specs.Prelude.{if◌then◌else◌}
use Rattle.std.specs.List.{find, list_all, list_any, position_or_len, range_with_len}
use Rattle.octets.specs.Choice.{both}
use Rattle.octets.specs.Lists.{at, eq_list, tab}
use Rattle.text.specs.Fields.{fields, field_at}
use Rattle.lines.specs.Kinds.{field_kind, value_of, good, worth}

-- field i of line l, counted from 0, by its letter in form f; a letter that the form does not have is 0
unfoldable pub value_at : List ℕ → List ℕ → ℕ → Option ℕ
value_at l f i = value_of (field_kind (at f i)) (field_at l i)

-- line l has form f: as many fields as that has letters, and all of them good
unfoldable pub has_form : List ℕ → List ℕ → Bool
has_form l f = both (fields l == length f) (list_all (λ i. good (value_at l f i)) (range_with_len 0 (length f)))

-- row r of table t is that of line l: its word is the line's field k, and the line has its form
unfoldable pub is_row : List ℕ → List ℕ → ℕ → ℕ → Bool
is_row t l k r = both (eq_list (field_at t (r * 2)) (field_at l k)) (has_form l (field_at t (r * 2 + 1)))

-- the first row of table t that is the line's, by its number, or how many rows there are
abbrev pub row_of : List ℕ → List ℕ → ℕ → ℕ
row_of t l k = unwrap_or (find (λ r. is_row t l k r) (range_with_len 0 (fields t / 2))) (fields t / 2)

-- what field i is worth
unfoldable pub worth_at : List ℕ → List ℕ → ℕ → ℕ
worth_at l f i = worth (value_at l f i)

-- what each of its first eight fields is worth, where line l has form f
abbrev pub numbers : List ℕ → List ℕ → Option (List ℕ)
numbers l f = if has_form l f then Some (tab 8 (worth_at l f)) else None

-- c is one of these letters
abbrev pub among : ℕ → List ℕ → Bool
among c l = list_any (λ x. x == c) l

-- the first place of form f that has one of these letters, or the place behind it
abbrev pub place_of : List ℕ → List ℕ → ℕ
place_of f s = position_or_len (λ x. among x s) f
