-- The bench language: "A line is fields parted by one tab and ended by one line feed".
-- A tab is the octet 9; the line feed is gone when a line comes here. Assumes nothing.
use Rattle.std.specs.Prelude.{List, [], ◌∷◌, ℕ, zero, suc, ◌+◌, ◌-◌, length, ◌==◌, if◌then◌else◌}
use Rattle.octets.specs.Lists.{eq_list}

-- what stands before the first tab
unfoldable pub until : List ℕ → List ℕ
until [] = []
until (x ∷ l) = if x == 9 then [] else x ∷ until l

-- what stands behind it
unfoldable pub after : List ℕ → List ℕ
after [] = []
after (x ∷ l) = if x == 9 then l else after l

-- what stands behind the first k tabs
unfoldable pub behind : ℕ → List ℕ → List ℕ
behind zero l = l
behind (suc k) l = behind k (after l)

-- field k, counted from 0; a field that the line does not have is empty
unfoldable pub field_at : List ℕ → ℕ → List ℕ
field_at l k = until (behind k l)

-- where it starts
unfoldable pub field_from : List ℕ → ℕ → ℕ
field_from l k = length l - length (behind k l)

-- how many tabs there are
unfoldable pub tabs : List ℕ → ℕ
tabs [] = 0
tabs (x ∷ l) = if x == 9 then suc (tabs l) else tabs l

-- how many fields: a tab parts two of them
unfoldable pub fields : List ℕ → ℕ
fields l = tabs l + 1

-- the first of the n fields from k on that is w, by its number, or the number behind them
unfoldable pub which_of : List ℕ → List ℕ → ℕ → ℕ → ℕ
which_of l w k zero = k
which_of l w k (suc n) = if eq_list (field_at l k) w then k else which_of l w (suc k) n

-- the number of the field of l that is w, or how many fields there are
unfoldable pub which : List ℕ → List ℕ → ℕ
which l w = which_of l w 0 (fields l)
