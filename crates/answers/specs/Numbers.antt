-- Document 01's table of refusals, and those of document 02 (RULES 1.5): the number of each; and what an answer tells, in these
-- numbers.
-- Assumes nothing.
use Rattle.std.specs.Prelude.{ℕ, Option, Some, None, Result, Ok, Err, ⊤}
use Rattle.answers.specs.declared.Refusal.{Refusal}
use Rattle.answers.specs.declared.Refusal.TheVariants.{Room, Long, Short, Form, Security, NoKey, Top, Stale, Forged, Full, Command, Protection, Absent, Argument, Label, Crc, Mark}
use Rattle.answers.specs.declared.Opened.{Opened}

abbrev pub number_of : Refusal → ℕ
number_of Room = 1
number_of Long = 2
number_of Short = 3
number_of Form = 4
number_of Security = 5
number_of NoKey = 6
number_of Top = 7
number_of Stale = 8
number_of Forged = 9
number_of Full = 10
number_of Command = 11
number_of Protection = 12
number_of Absent = 13
number_of Argument = 14
-- 02 (v): "Wrong digits or length: 15. CRC wrong: 16."
number_of Label = 15
number_of Crc = 16
-- 02 (vi): "Sealing with the mark not yet moved is refused (17)"
number_of Mark = 17

-- what a request that answers no value tells
pub data Told : Type 0 where
  done : Told
  refused : ℕ → Told

abbrev pub told : Result ⊤ Refusal → Told
told (Ok tt) = done
told (Err r) = refused (number_of r)

-- "the protection found (none or the key identifier)"
pub data ProtectionTold : Type 0 where
  clear : ProtectionTold
  under : ℕ → ProtectionTold

abbrev pub protection_of : Option ℕ → ProtectionTold
protection_of None = clear
protection_of (Some k) = under k

-- what opening, sealing and writing tell: length, sender and protection of a frame that opened, the length of one that was
-- sealed or written, or a refusal's number
pub data FrameTold : Type 0 where
  opened : ℕ → ℕ → ProtectionTold → FrameTold
  sealed : ℕ → FrameTold
  written : ℕ → FrameTold
  turned_down : ℕ → FrameTold

abbrev pub told_opened : Result Opened Refusal → FrameTold
told_opened (Ok o) = opened o.length o.sender (protection_of o.protection)
told_opened (Err r) = turned_down (number_of r)

abbrev pub told_sealed : Result ℕ Refusal → FrameTold
told_sealed (Ok n) = sealed n
told_sealed (Err r) = turned_down (number_of r)

abbrev pub told_written : Result ℕ Refusal → FrameTold
told_written (Ok n) = written n
told_written (Err r) = turned_down (number_of r)
