-- A command is known by what it tells, and so is what the reader answers: its contract leaves one answer.
-- Assumes nothing.
use Rattle.answers.specs.declared.Refusal.{Refusal}
use Rattle.std.proofs.Common.{◌≡◌, ℕ, eqb, List, sym, refl, ap, ◌∙◌, Result, Ok, Err}
use Rattle.std.specs.Prelude.{if◌then◌else◌}
use Rattle.octets.specs.Lists.{at}
use Rattle.answers.proofs.One.{refusal_of, refusal-back}
use Rattle.commands.specs.declared.Command.{Command}
use Rattle.commands.specs.declared.Command.TheVariants.{TransportKey, UpdateDevice, RemoveDevice, RequestKey, SwitchKey, Tunnel, VerifyKey, ConfirmKey, RelayDownstream, RelayUpstream}
use Rattle.commands.specs.declared.Transported.{Transported}
use Rattle.commands.specs.declared.Requested.{Requested}
use Rattle.commands.specs.Numbers.{CommandTold, untyped, typed, told_command}
use Rattle.commands.specs.Reading.{ReadTold, read, unread, told_reading}
use Rattle.commands.specs.declared.Transported.TheVariants as transports
use Rattle.commands.specs.declared.Requested.TheVariants as requests

unfoldable pub transport_back : ℕ → List ℕ → Transported
transport_back t xs =
    if eqb t 1 then transports.Network (at xs 0) (at xs 1) (at xs 2)
    else (if eqb t 2 then transports.ApplicationMaster (at xs 0) (at xs 1)
    else (if eqb t 3 then transports.ApplicationLink (at xs 0) (at xs 1)
    else transports.TrustCentre (at xs 0) (at xs 1)))

unfoldable pub request_back : ℕ → List ℕ → Requested
request_back t xs = if eqb t 2 then requests.Application (at xs 0) else requests.TrustCentre

-- the command that told this
unfoldable pub command_back : CommandTold → Command
command_back (typed i t xs) = if eqb i 0x05 then TransportKey (transport_back t xs) else RequestKey (request_back t xs)
command_back (untyped i xs) =
    if eqb i 0x06 then UpdateDevice (at xs 0) (at xs 1) (at xs 2)
    else (if eqb i 0x07 then RemoveDevice (at xs 0)
    else (if eqb i 0x09 then SwitchKey (at xs 0)
    else (if eqb i 0x0e then Tunnel (at xs 0)
    else (if eqb i 0x0f then VerifyKey (at xs 0) (at xs 1)
    else (if eqb i 0x10 then ConfirmKey (at xs 0) (at xs 1) (at xs 2)
    else (if eqb i 0x11 then RelayDownstream
    else RelayUpstream))))))

pub command-back : (c : Command) → command_back (told_command c) ≡ c
unfolding command_back transport_back request_back
command-back (TransportKey (transports.Network q d s)) = refl
command-back (TransportKey (transports.TrustCentre d s)) = refl
command-back (TransportKey (transports.ApplicationMaster a i)) = refl
command-back (TransportKey (transports.ApplicationLink a i)) = refl
command-back (UpdateDevice a s t) = refl
command-back (RemoveDevice a) = refl
command-back (RequestKey (requests.Application a)) = refl
command-back (RequestKey requests.TrustCentre) = refl
command-back (SwitchKey q) = refl
command-back (Tunnel a) = refl
command-back (VerifyKey t a) = refl
command-back (ConfirmKey s t a) = refl
command-back RelayDownstream = refl
command-back RelayUpstream = refl

pub command-one : (c d : Command) → told_command c ≡ told_command d → c ≡ d
command-one c d e = sym (command-back c) ∙ ap command_back e ∙ command-back d

reading_back : ReadTold → Result Command Refusal
reading_back (read c) = Ok (command_back c)
reading_back (unread n) = Err (refusal_of n)

reading-back : (r : Result Command Refusal) → reading_back (told_reading r) ≡ r
unfolding reading_back
reading-back (Ok c) = ap Ok (command-back c)
reading-back (Err r) = ap Err (refusal-back r)

pub reading-one : (r s : Result Command Refusal) → told_reading r ≡ told_reading s → r ≡ s
reading-one r s e = sym (reading-back r) ∙ ap reading_back e ∙ reading-back s
