-- Document 01, "The commands" (RULES 9.6): "The writer does the reverse, with control 0x41, or 0x01 where the caller wants no
-- acknowledgement. It judges 1, 11, 2, writes and answers the length as sealing does, stamps the APS counter and then raises
-- it; after 255 comes 0. Nothing else moves it." The layouts are those of source document 000, 4.4.11.
-- Assumes nothing.
use Rattle.std.specs.Prelude.{ℕ, ◌+◌, ◌%◌, Bool, true, false, not, List, [], ◌∷◌, ◌++◌, length, ◌==◌, nat_lt}
use Rattle.std.specs.Prelude.{if◌then◌else◌}
use Rattle.octets.specs.Choice.{both}
use Rattle.octets.specs.Lists.{onto}
use Rattle.octets.specs.Least.{spelled}
use Rattle.settings.specs.Settings.{Settings, longest_aps}
use Rattle.answers.specs.Numbers.{written, turned_down}
use Rattle.board.specs.declared.Board.{Board}
use Rattle.board.specs.Sending.{Framed, framed}
use Rattle.commands.specs.declared.Command.{Command}
use Rattle.commands.specs.declared.Kind.{Kind}
use Rattle.commands.specs.declared.Kind.TheVariants.{Transport1, Transport4, Transport2, Transport3, Update, Remove, Request2, Request4, Switch, Tunnel, Verify, Confirm, Down, Up}
use Rattle.commands.specs.declared.Rule.{Rule}
use Rattle.commands.specs.Kinds.{kind_of}
use Rattle.commands.specs.Table.{rule_of, fits, secret_size}
use Rattle.commands.specs.Numbers.{CommandTold, untyped, typed, told_command}

-- ---- the frame

abbrev pub command_control : Bool → ℕ
command_control true = 0x41
command_control false = 0x01

-- a field of a command: the sixteen octets of key or hash, an octet, or a number of that many octets
pub data Field : Type 0 where
  sixteen : Field
  octet : Field
  number : ℕ → Field

-- the fields behind the identifier, or behind the type where there is one
abbrev pub layout_of : Kind → List Field
layout_of Transport1 = sixteen ∷ octet ∷ number 8 ∷ number 8 ∷ []
layout_of Transport4 = sixteen ∷ number 8 ∷ number 8 ∷ []
layout_of Transport2 = sixteen ∷ number 8 ∷ octet ∷ []
layout_of Transport3 = sixteen ∷ number 8 ∷ octet ∷ []
layout_of Update = number 8 ∷ number 2 ∷ octet ∷ []
layout_of Remove = number 8 ∷ []
layout_of Request2 = number 8 ∷ []
layout_of Request4 = []
layout_of Switch = octet ∷ []
layout_of Tunnel = number 8 ∷ []
layout_of Verify = octet ∷ number 8 ∷ sixteen ∷ []
layout_of Confirm = octet ∷ octet ∷ number 8 ∷ []
layout_of Down = []
layout_of Up = []

-- behind the octets s the fields, of which the sixteen are k and the others the numbers in order
abbrev pub laid : List ℕ → List ℕ → List Field → List ℕ → List ℕ
laid k s [] xs = s
laid k s (sixteen ∷ fs) xs = laid k (s ++ k) fs xs
laid k s (octet ∷ fs) [] = s
laid k s (octet ∷ fs) (x ∷ xs) = laid k (s ++ (x ∷ [])) fs xs
laid k s (number n ∷ fs) [] = s
laid k s (number n ∷ fs) (x ∷ xs) = laid k (s ++ spelled n x) fs xs

abbrev pub laid_out : List ℕ → List Field → CommandTold → List ℕ
laid_out k fs (untyped i xs) = laid k (i ∷ []) fs xs
laid_out k fs (typed i t xs) = laid k (i ∷ t ∷ []) fs xs

-- a command up to what follows, with its key or hash k
unfoldable pub own_octets : Command → List ℕ → List ℕ
own_octets c k = laid_out k (layout_of (kind_of c)) (told_command c)

-- control, counter and the command, with what follows
unfoldable pub frame_of : Board → Bool → Command → List ℕ → List ℕ → List ℕ
frame_of b ack c k r = command_control ack ∷ b.aps ∷ (own_octets c k ++ r)

-- ---- the judgement

-- 11: the parts lent, k and what follows, are those that a command of that rule has; a part that it lacks is lent empty
unfoldable pub whole : Settings → Rule → List ℕ → List ℕ → Bool
whole z u k r = both (length k == secret_size u.secret) (fits z u.rest r)

abbrev pub with_aps : Board → ℕ → Board
with_aps b n =
    record {
      own = b.own;
      outgoing = b.outgoing;
      mark = b.mark;
      aps = n;
      slots = b.slots;
      active = b.active;
      links = b.links;
    }

-- "after 255 comes 0"
unfoldable pub aps_raised : Board → Board
aps_raised b = with_aps b ((b.aps + 1) % 256)

unfoldable pub write_command : Settings → Board → Bool → Command → List ℕ → List ℕ → List ℕ → Framed
write_command z b ack c k r o =
    if nat_lt (length o) longest_aps then framed (turned_down 1) b o
    else (if not (whole z (rule_of (kind_of c)) k r) then framed (turned_down 11) b o
    else (if nat_lt longest_aps (length (frame_of b ack c k r)) then framed (turned_down 2) b o
    else framed (written (length (frame_of b ack c k r))) (aps_raised b) (onto (frame_of b ack c k r) o)))
