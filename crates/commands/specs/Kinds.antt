-- Document 01, "The commands" (RULES 9.1), and Table 4-31 of source document 000: the identifiers, and the inner types of
-- Transport-Key and Request-Key. "Reserved identifiers and types are 11."
-- Assumes nothing.
use Rattle.std.specs.Prelude.{ℕ, ◌==◌, Option, Some, None}
use Rattle.std.specs.Prelude.{if◌then◌else◌}
use Rattle.commands.specs.declared.Command.{Command}
use Rattle.commands.specs.declared.Kind.{Kind}
use Rattle.commands.specs.declared.Kind.TheVariants.{Transport1, Transport4, Transport2, Transport3, Update, Remove, Request2, Request4, Switch, Tunnel, Verify, Confirm, Down, Up}
use Rattle.commands.specs.declared.Command.TheVariants as commands
use Rattle.commands.specs.declared.Transported.TheVariants as transports
use Rattle.commands.specs.declared.Requested.TheVariants as requests

-- the types of Transport-Key
unfoldable pub transport_of : ℕ → Option Kind
transport_of t =
    if t == 1 then Some Transport1
    else (if t == 2 then Some Transport2
    else (if t == 3 then Some Transport3
    else (if t == 4 then Some Transport4
    else None)))

-- the types of Request-Key
unfoldable pub request_of : ℕ → Option Kind
request_of t =
    if t == 2 then Some Request2
    else (if t == 4 then Some Request4
    else None)

-- an identifier, with the octet behind it, which is the type where there is one
unfoldable pub listed : ℕ → ℕ → Option Kind
listed id t =
    if id == 0x05 then transport_of t
    else (if id == 0x06 then Some Update
    else (if id == 0x07 then Some Remove
    else (if id == 0x08 then request_of t
    else (if id == 0x09 then Some Switch
    else (if id == 0x0e then Some Tunnel
    else (if id == 0x0f then Some Verify
    else (if id == 0x10 then Some Confirm
    else (if id == 0x11 then Some Down
    else (if id == 0x12 then Some Up
    else None)))))))))

-- the row of the list that a command is of
abbrev pub kind_of : Command → Kind
kind_of (commands.TransportKey (transports.Network q d s)) = Transport1
kind_of (commands.TransportKey (transports.TrustCentre d s)) = Transport4
kind_of (commands.TransportKey (transports.ApplicationMaster a i)) = Transport2
kind_of (commands.TransportKey (transports.ApplicationLink a i)) = Transport3
kind_of (commands.UpdateDevice a s t) = Update
kind_of (commands.RemoveDevice a) = Remove
kind_of (commands.RequestKey (requests.Application a)) = Request2
kind_of (commands.RequestKey requests.TrustCentre) = Request4
kind_of (commands.SwitchKey q) = Switch
kind_of (commands.Tunnel a) = Tunnel
kind_of (commands.VerifyKey t a) = Verify
kind_of (commands.ConfirmKey s t a) = Confirm
kind_of commands.RelayDownstream = Down
kind_of commands.RelayUpstream = Up
