-- Of the code: what contracts of private functions name. Nothing here need be believed: every callable routine's contract is
-- stated without it.
-- Assumes nothing.
use Rattle.std.specs.Prelude.{List, ℕ, nat_lt, Some}
use Rattle.std.specs.Prelude.{if◌then◌else◌}
use Rattle.octets.specs.Keys.{Key}
use Rattle.settings.specs.Settings.{Settings}
use Rattle.answers.specs.Numbers.{turned_down}
use Rattle.frames.specs.declared.Secured.{Secured}
use Rattle.seals.specs.Sealing.{message_of}
use Rattle.network.specs.Opening.{Lent, Opening, leaving, floor_at, admitted}

-- 8, 9, for a sender that has row r
unfoldable pub opened_heard : Settings → Key → ℕ → List ℕ → Secured → Lent → Opening
opened_heard z k r f s w =
    if nat_lt s.counter (floor_at w.lists.floors (Some r)) then leaving (turned_down 8) w else admitted f s w (message_of z k f s) (Some r)
