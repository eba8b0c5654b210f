-- Document 01 (RULES 8.2): sealing "writes the secured frame likewise, answers the length, and raises the outgoing counter by 1"; the
-- counter is "never lowered (ours)", and sealing is refused (7) with the board's own at 4,294,967,295; and document 02 (vi): "Sealing
-- with the mark not yet moved is refused (17), judged after 7."
-- Assumes nothing.
use Rattle.std.specs.Prelude.{List, ℕ, ◌+◌, length, ◌==◌, nat_lt}
use Rattle.settings.specs.Settings.{top}
use Rattle.std.specs.Prelude.{if◌then◌else◌}
use Rattle.octets.specs.Lists.{onto}
use Rattle.board.specs.declared.Board.{Board}
use Rattle.board.specs.declared.Sending.{Sending}
use Rattle.answers.specs.Numbers.{Told, done, refused, FrameTold, opened, sealed, written, turned_down}

abbrev pub with_outgoing : Board → ℕ → Board
with_outgoing b n =
    record {
      own = b.own;
      outgoing = n;
      mark = b.mark;
      aps = b.aps;
      slots = b.slots;
      active = b.active;
      links = b.links;
    }

-- "raises the outgoing counter by 1"; "never lowered": at its top it stays
abbrev pub raised : ℕ → ℕ
raised c = if c == top then top else c + 1

-- the board that sealing leaves
unfoldable pub spent : Board → Board
spent b = with_outgoing b (raised b.outgoing)

-- the outgoing counter behind an answer: sealing a frame "raises the outgoing counter by 1", a refusal leaves it ("state, lists
-- and output stay"), and neither opening nor writing a command has part in it
abbrev pub counter_after : FrameTold → ℕ → ℕ
counter_after (sealed n) c = raised c
counter_after (turned_down n) c = c
counter_after (opened n a g) c = c
counter_after (written n) c = c

-- what a request over a frame answers, and the board and the output that it leaves
pub record Framed : Type 0 where
  pub answer : FrameTold
  pub board : Board
  pub out : List ℕ

abbrev pub framed : FrameTold → Board → List ℕ → Framed
framed t b o = record { answer = t; board = b; out = o }

-- ---- what is left of sealing once the key is found, at either layer

-- what sealing needs of the board
abbrev pub sending_of : Board → Sending
sending_of b = record { own = b.own; counter = b.outgoing; mark = b.mark }

-- 7: "counter 4,294,967,295, heard or own"; then 17: "Before any frame is sealed, the mark must be above its counter"
unfoldable pub may_send : Sending → Told
may_send s = if s.counter == top then refused 7 else (if nat_lt s.counter s.mark then done else refused 17)

-- "writes the secured frame" x "likewise", which is "at the start of the output", "answers the length, and raises the outgoing
-- counter by 1"; or "state, lists and output stay"
abbrev pub send_as : Board → List ℕ → List ℕ → Told → Framed
send_as b x o done = framed (sealed (length x)) (spent b) (onto x o)
send_as b x o (refused n) = framed (turned_down n) b o

unfoldable pub send : Board → List ℕ → List ℕ → Framed
send b x o = send_as b x o (may_send (sending_of b))
