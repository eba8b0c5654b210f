-- Document 01, "How to write each place" (RULES 9.4): "Where an answer is an enum, a definition gives this paper's number and values
-- for each of its cases." The identifiers are those of Table 4-31 of source document 000, the fields those of its 4.4.11; types 2
-- and 3 of Transport-Key are named as in Table 151 of source document 002.
-- Assumes nothing.
use Rattle.std.specs.Prelude.{ℕ, List, [], ◌∷◌}
use Rattle.commands.specs.declared.Command.{Command}
use Rattle.commands.specs.declared.Command.TheVariants.{TransportKey, UpdateDevice, RemoveDevice, RequestKey, SwitchKey, Tunnel, VerifyKey, ConfirmKey, RelayDownstream, RelayUpstream}
use Rattle.commands.specs.declared.Transported.TheVariants as transports
use Rattle.commands.specs.declared.Requested.TheVariants as requests

-- identifier and numbers of a command, in the order of the frame; where the list goes by key type, the type between them
pub data CommandTold : Type 0 where
  untyped : ℕ → List ℕ → CommandTold
  typed : ℕ → ℕ → List ℕ → CommandTold

abbrev pub told_command : Command → CommandTold
-- sequence number, destination, source; destination, source; partner, initiator flag
told_command (TransportKey (transports.Network q d s)) = typed 0x05 1 (q ∷ d ∷ s ∷ [])
told_command (TransportKey (transports.TrustCentre d s)) = typed 0x05 4 (d ∷ s ∷ [])
told_command (TransportKey (transports.ApplicationMaster a i)) = typed 0x05 2 (a ∷ i ∷ [])
told_command (TransportKey (transports.ApplicationLink a i)) = typed 0x05 3 (a ∷ i ∷ [])
-- device, short address, status; target
told_command (UpdateDevice a s t) = untyped 0x06 (a ∷ s ∷ t ∷ [])
told_command (RemoveDevice a) = untyped 0x07 (a ∷ [])
-- partner
told_command (RequestKey (requests.Application a)) = typed 0x08 2 (a ∷ [])
told_command (RequestKey requests.TrustCentre) = typed 0x08 4 []
-- sequence number; destination
told_command (SwitchKey q) = untyped 0x09 (q ∷ [])
told_command (Tunnel a) = untyped 0x0e (a ∷ [])
-- type, source; status, type, destination
told_command (VerifyKey t a) = untyped 0x0f (t ∷ a ∷ [])
told_command (ConfirmKey s t a) = untyped 0x10 (s ∷ t ∷ a ∷ [])
told_command RelayDownstream = untyped 0x11 []
told_command RelayUpstream = untyped 0x12 []
