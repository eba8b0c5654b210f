-- Document 01, "The commands" (RULES 9.4): "The reader takes a plain APS frame and its protection (not none, 0, 2 or 3: 14, first): 2,
-- 3 for the control field, 4, 3 for the header, then 4 if it is no command or has its security bit set, then 11 (also with no
-- identifier), then 12. Status, flag and other type fields are handed on unjudged. Each command is an answer of its own kind
-- with its fields." The places of the fields are those of source document 000, 4.4.11, behind a header of 2 octets.
-- Assumes nothing.
use Rattle.answers.specs.declared.Refusal.{Refusal}
use Rattle.commands.specs.declared.Command.{Command}
use Rattle.std.specs.Prelude.{ℕ, ◌+◌, not, List, [], ◌∷◌, length, drop, nat_lt, Option, Some, None, Result, Ok, Err}
use Rattle.std.specs.Prelude.{if◌then◌else◌}
use Rattle.octets.specs.Lists.{at}
use Rattle.octets.specs.Least.{number_at}
use Rattle.answers.specs.Numbers.{number_of, ProtectionTold}
use Rattle.settings.specs.Settings.{Settings, longest_aps}
use Rattle.frames.specs.Reading.{PlainReading, headed, reading_command}
use Rattle.commands.specs.declared.Kind.{Kind}
use Rattle.commands.specs.declared.Kind.TheVariants.{Transport1, Transport4, Transport2, Transport3, Update, Remove, Request2, Request4, Switch, Tunnel, Verify, Confirm, Down, Up}
use Rattle.commands.specs.Kinds.{listed}
use Rattle.commands.specs.Table.{rule_of, fits, known, allows}
use Rattle.commands.specs.Numbers.{CommandTold, untyped, typed, told_command}
use Rattle.frames.specs.Reading as frames

-- ---- the judgement

-- a refusal's number, or the row of the list that the frame is of
pub data Judgement : Type 0 where
  refused : ℕ → Judgement
  sound : Kind → Judgement

-- 11 for the size and what follows, then 12
unfoldable pub judge_kind : Settings → List ℕ → ProtectionTold → Kind → Judgement
judge_kind z f p k =
    if nat_lt (length f) (2 + (rule_of k).size) then refused 11
    else (if not (fits z (rule_of k).rest (drop (2 + (rule_of k).size) f)) then refused 11
    else (if not (allows (rule_of k).under p) then refused 12
    else sound k))

-- 11 for identifier and type
unfoldable pub judge_listed : Settings → List ℕ → ProtectionTold → Option Kind → Judgement
judge_listed z f p None = refused 11
judge_listed z f p (Some k) = judge_kind z f p k

-- 3, 4, 3, 4 for the header, which a command has of 2 octets; what is past the end reads as 0, which is reserved
unfoldable pub judge_header : Settings → List ℕ → ProtectionTold → PlainReading → Judgement
judge_header z f p (frames.unread n) = refused n
judge_header z f p (headed h) = judge_listed z f p (listed (at f 2) (at f 3))

-- 14, 2
unfoldable pub judge : Settings → List ℕ → ProtectionTold → Judgement
judge z f p =
    if not (known p) then refused 14
    else (if nat_lt longest_aps (length f) then refused 2
    else judge_header z f p (reading_command f))

-- ---- the fields

-- what a frame of that kind tells
unfoldable pub command_in : List ℕ → Kind → CommandTold
command_in f Transport1 = typed 0x05 1 (at f 20 ∷ number_at 8 f 21 ∷ number_at 8 f 29 ∷ [])
command_in f Transport4 = typed 0x05 4 (number_at 8 f 20 ∷ number_at 8 f 28 ∷ [])
command_in f Transport2 = typed 0x05 2 (number_at 8 f 20 ∷ at f 28 ∷ [])
command_in f Transport3 = typed 0x05 3 (number_at 8 f 20 ∷ at f 28 ∷ [])
command_in f Update = untyped 0x06 (number_at 8 f 3 ∷ number_at 2 f 11 ∷ at f 13 ∷ [])
command_in f Remove = untyped 0x07 (number_at 8 f 3 ∷ [])
command_in f Request2 = typed 0x08 2 (number_at 8 f 4 ∷ [])
command_in f Request4 = typed 0x08 4 []
command_in f Switch = untyped 0x09 (at f 3 ∷ [])
command_in f Tunnel = untyped 0x0e (number_at 8 f 3 ∷ [])
command_in f Verify = untyped 0x0f (at f 3 ∷ number_at 8 f 4 ∷ [])
command_in f Confirm = untyped 0x10 (at f 3 ∷ at f 4 ∷ number_at 8 f 5 ∷ [])
command_in f Down = untyped 0x11 []
command_in f Up = untyped 0x12 []

-- ---- the answer

-- what the reader tells: the command in numbers, or a refusal's number
pub data ReadTold : Type 0 where
  read : CommandTold → ReadTold
  unread : ℕ → ReadTold

abbrev pub told_reading : Result Command Refusal → ReadTold
told_reading (Ok c) = read (told_command c)
told_reading (Err r) = unread (number_of r)

abbrev pub answered : List ℕ → Judgement → ReadTold
answered f (refused n) = unread n
answered f (sound k) = read (command_in f k)

unfoldable pub read_command : Settings → List ℕ → ProtectionTold → ReadTold
read_command z f p = answered f (judge z f p)
