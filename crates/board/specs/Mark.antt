-- Document 02 (vi), "The plug pulled mid-shift" (RULES 15): "Keep one saved number, the mark, in the host's store. .. One step is two
-- requests with the host's write between them: the first answers the next mark and changes nothing; the second is told the mark that
-- the store now holds (not the next one: 14), and only then is it moved for the board."
-- Assumes nothing.
use Rattle.std.specs.Prelude.{ℕ, ◌+◌, min, ◌==◌}
use Rattle.settings.specs.Settings.{mark_step, top}
use Rattle.std.specs.Prelude.{if◌then◌else◌}
use Rattle.answers.specs.Numbers.{done, refused}
use Rattle.board.specs.declared.Board.{Board}
use Rattle.board.specs.Requests.{Changed, changed}

-- "moved ahead in steps of 1,024, .. or to 4,294,967,295 where less is left"
unfoldable pub next_mark : ℕ → ℕ
next_mark m = min (m + mark_step) top

abbrev pub with_mark : Board → ℕ → Board
with_mark b m =
    record {
      own = b.own;
      outgoing = b.outgoing;
      mark = m;
      aps = b.aps;
      slots = b.slots;
      active = b.active;
      links = b.links;
    }

-- the second request, told that the store now holds m
unfoldable pub move_mark : Board → ℕ → Changed
move_mark b m = if m == next_mark b.mark then changed done (with_mark b m) else changed (refused 14) b
