-- Document 01, "The state and the lists" (RULES 2.3): "The heard senders stand in two lent lists, 64-bit addresses and 32-bit floors",
-- "Address 0 is a free row"; and for its 64 rows document 02 (iii): "Let the two lists have any equal, even length from 2 to 1,024; the
-- first half belongs to slot 0. Other or unequal lengths are 1. 01's 32 reads half the length".
-- Assumes nothing.
use Rattle.std.specs.Prelude.{Bool, List, ℕ, ◌-◌, ◌/◌, ◌%◌, min, length, get_or, replicate, ◌==◌, nat_le, Option}
use Rattle.std.proofs.Math.Seq.{paste}
use Rattle.settings.specs.Settings.{shortest_list, longest_list}
use Rattle.octets.specs.Choice.{both}
use Rattle.board.specs.Places.{first_at}

-- "The heard senders stand in two lent lists"
pub record Lists : Type 0 where
  pub addrs : List ℕ
  pub floors : List ℕ

abbrev pub lists : List ℕ → List ℕ → Lists
lists al fl = record { addrs = al; floors = fl }

-- "any .. even length from 2 to 1,024"
unfoldable pub legal : ℕ → Bool
legal n = both (nat_le shortest_list n) (both (nat_le n longest_list) ((n % 2) == 0))

-- "equal": both lists have it
unfoldable pub lists_fit : Lists → Bool
lists_fit w = both (legal (length w.addrs)) (length w.floors == length w.addrs)

-- how many rows each slot has: "the first half belongs to slot 0", "01's 32 reads half the length"
abbrev pub half : Lists → ℕ
half w = length w.addrs / 2

-- the lowest of the n rows from i on, so far as the list has them, that has address a
unfoldable pub find_row : List ℕ → ℕ → ℕ → ℕ → Option ℕ
find_row al i n a = first_at (λ r. get_or al r 0 == a) i (min n (length al - i))

-- n rows from i on, so far as the list has them, all zero
unfoldable pub freed : List ℕ → ℕ → ℕ → List ℕ
freed l i n = paste l i (replicate (min n (length l - i)) 0) (min n (length l - i))
