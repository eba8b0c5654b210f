-- Document 01, "Opening and sealing" (RULES 7.1, 8.1): how far a frame is read before a key is looked for. "Order when opening: .. 3
-- for the control field, 4, 3 up to the security control, 5 for it, 3 for the rest and the tag, 5 for the sender"; "Sealing: .. 3,
-- 4, 3", where 4 is also "security bit already set". Each is read in the same way at both layers.
-- Assumes nothing.
use Rattle.std.specs.Prelude.{Bool, true, false, not, List, ℕ, ◌+◌, length, ◌==◌, nat_lt, nat_le, Result, Ok, Err}
use Rattle.settings.specs.Settings.{Settings}
use Rattle.octets.specs.Addresses.{no_address}
use Rattle.std.specs.Prelude.{if◌then◌else◌}
use Rattle.octets.specs.Choice.{both}
use Rattle.octets.specs.Lists.{at}
use Rattle.answers.specs.declared.Refusal.{Refusal}
use Rattle.answers.specs.Numbers.{number_of}
use Rattle.frames.specs.declared.Layer.{Layer}
use Rattle.frames.specs.declared.Layer.TheVariants.{Aps}
use Rattle.frames.specs.declared.Secured.{Secured}
use Rattle.frames.specs.declared.Read.{Read}
use Rattle.frames.specs.Security.{aux_length, counter_of, sender_of, sequence_of}
use Rattle.frames.specs.Aps.{aps_type}
use Rattle.frames.specs.Layers.{control_octets, control_of, form_of, secured_bit, header_of, suits, given_to}
use Rattle.frames.specs.declared.Read.TheVariants as reads

-- ---- the header, for opening, for sealing and for the command reader

-- what reading it tells: a refusal's number, or its length and whether the security bit is set
pub data Header : Type 0 where
  unfit : ℕ → Header
  header : ℕ → Bool → Header

-- "3 for the control field, 4"
unfoldable pub read_header : Layer → List ℕ → Header
read_header l f =
    if nat_lt (length f) (control_octets l) then unfit 3
    else (if not (form_of l (control_of l f)) then unfit 4
    else header (header_of l f (control_of l f)) (secured_bit l (control_of l f)))

-- ---- a frame that is to be opened

-- what reading tells: a refusal's number, the header's length of an unsecured frame, or what a secured one announces
pub data Reading : Type 0 where
  refused : ℕ → Reading
  plain : ℕ → Reading
  secured : Secured → Reading

abbrev pub told_read : Result Read Refusal → Reading
told_read (Ok (reads.Plain h)) = plain h
told_read (Ok (reads.Secured s)) = secured s
told_read (Err r) = refused (number_of r)

-- what the auxiliary header behind h octets of header announces
unfoldable pub announced : List ℕ → ℕ → ℕ → Secured
announced f h given =
    record {
      header = h;
      aux = aux_length (at f h);
      control = at f h;
      counter = counter_of f h;
      sender = sender_of f h given;
      sequence = sequence_of f h;
    }

-- a secured frame behind h octets of header: "3 up to the security control, 5 for it, 3 for the rest and the tag, 5 for the
-- sender"
unfoldable pub read_secured : Settings → Layer → List ℕ → ℕ → ℕ → Reading
read_secured z l f h given =
    if nat_le (length f) h then refused 3
    else (if not (suits l (at f h)) then refused 5
    else (if nat_lt (length f) (h + aux_length (at f h) + z.tag) then refused 3
    else (if no_address (sender_of f h given) then refused 5
    else secured (announced f h given))))

unfoldable pub read_plain : List ℕ → ℕ → Reading
read_plain f h = if nat_lt (length f) h then refused 3 else plain h

abbrev pub read_behind : Settings → Layer → List ℕ → ℕ → Header → Reading
read_behind z l f given (unfit n) = refused n
read_behind z l f given (header h true) = read_secured z l f h (given_to l given)
read_behind z l f given (header h false) = read_plain f h

unfoldable pub reading : Settings → Layer → List ℕ → ℕ → Reading
reading z l f given = read_behind z l f given (read_header l f)

-- ---- a plain frame that is to be sealed, or whose command is to be read

-- what reading tells: a refusal's number, or the header's length
pub data PlainReading : Type 0 where
  unread : ℕ → PlainReading
  headed : ℕ → PlainReading

abbrev pub told_plain : Result ℕ Refusal → PlainReading
told_plain (Err r) = unread (number_of r)
told_plain (Ok h) = headed h

abbrev pub plain_behind : List ℕ → Header → PlainReading
plain_behind f (unfit n) = unread n
plain_behind f (header h true) = unread 4
plain_behind f (header h false) = if nat_lt (length f) h then unread 3 else headed h

unfoldable pub reading_plain : Layer → List ℕ → PlainReading
reading_plain l f = plain_behind f (read_header l f)

-- "3 for the control field, 4, 3 for the header, then 4 if it is no command or has its security bit set"
abbrev pub command_behind : List ℕ → Header → PlainReading
command_behind f (unfit n) = unread n
command_behind f (header h s) =
    if nat_lt (length f) h then unread 3
    else (if both ((aps_type (at f 0)) == 1) (not s) then headed h else unread 4)

unfoldable pub reading_command : List ℕ → PlainReading
reading_command f = command_behind f (read_header Aps f)
