-- Document 01, "The commands" (RULES 9.6): "The writer does the reverse." The words in which that is said: what a frame that was
-- written gives when it is read, and what is lent to write a frame again that was read.
-- Assumes nothing.
use Rattle.std.specs.Prelude.{◌≡◌, ℕ, ◌^◌, Bool, true, List, [], ◌++◌, length, nat_lt}
use Rattle.octets.specs.Choice.{both}
use Rattle.settings.specs.Settings.{Settings}
use Rattle.answers.specs.Numbers.{ProtectionTold}
use Rattle.tlvs.specs.declared.Wanted.TheVariants.{Tag}
use Rattle.tlvs.specs.Looking.{walked}
use Rattle.commands.specs.declared.Command.{Command}
use Rattle.commands.specs.declared.Command.TheVariants.{TransportKey, UpdateDevice, RemoveDevice, RequestKey, SwitchKey, Tunnel, VerifyKey, ConfirmKey, RelayDownstream, RelayUpstream}
use Rattle.commands.specs.declared.Secret.{Secret}
use Rattle.commands.specs.declared.Secret.TheVariants.{NoSecret, Key, Hash}
use Rattle.commands.specs.declared.Rest.{Rest}
use Rattle.commands.specs.declared.Rest.TheVariants.{End, Tlvs, Relay, Inner}
use Rattle.commands.specs.Kinds.{kind_of}
use Rattle.commands.specs.Table.{rule_of}
use Rattle.commands.specs.Numbers.{told_command}
use Rattle.commands.specs.Reading.{read, judge, read_command}
use Rattle.commands.specs.Parts.{octets_at, key_span, hash_span, tlvs_span, inner_span, within, value_span}
use Rattle.commands.specs.declared.Transported.TheVariants as transports
use Rattle.commands.specs.declared.Requested.TheVariants as requests

-- ---- read what was written

-- addresses of eight octets, short ones of two
abbrev pub long : ℕ → Bool
long a = nat_lt a (2 ^ 64)

abbrev pub short : ℕ → Bool
short a = nat_lt a (2 ^ 16)

-- a command whose addresses have their size; the other numbers are octets
abbrev pub ranged : Command → Bool
ranged (TransportKey (transports.Network q d s)) = both (long d) (long s)
ranged (TransportKey (transports.TrustCentre d s)) = both (long d) (long s)
ranged (TransportKey (transports.ApplicationMaster a i)) = long a
ranged (TransportKey (transports.ApplicationLink a i)) = long a
ranged (UpdateDevice a s t) = both (long a) (short s)
ranged (RemoveDevice a) = long a
ranged (RequestKey (requests.Application a)) = long a
ranged (RequestKey requests.TrustCentre) = true
ranged (SwitchKey q) = true
ranged (Tunnel a) = long a
ranged (VerifyKey t a) = long a
ranged (ConfirmKey s t a) = long a
ranged RelayDownstream = true
ranged RelayUpstream = true

-- what was lent as a key, as a hash, as TLVs, as an inner frame
abbrev pub as_key : Secret → List ℕ → List ℕ
as_key NoSecret k = []
as_key Key k = k
as_key Hash k = []

abbrev pub as_hash : Secret → List ℕ → List ℕ
as_hash NoSecret k = []
as_hash Key k = []
as_hash Hash k = k

abbrev pub as_tlvs : Rest → List ℕ → List ℕ
as_tlvs End r = []
as_tlvs Tlvs r = r
as_tlvs Relay r = r
as_tlvs Inner r = []

abbrev pub as_inner : Rest → List ℕ → List ℕ
as_inner End r = []
as_inner Tlvs r = []
as_inner Relay r = []
as_inner Inner r = r

-- the value of the first TLV of that tag among the TLVs s
abbrev pub value_in : List ℕ → ℕ → List ℕ
value_in s tag = octets_at s (within 0 (walked (Tag tag) s))

-- the frame f, read under p, gives the command c and the parts k and r with which it was written
pub record GivesBack (z : Settings) (f : List ℕ) (p : ProtectionTold) (c : Command) (k r : List ℕ) : Type 0 where
  pub command : read_command z f p ≡ read (told_command c)
  pub key : octets_at f (key_span (judge z f p)) ≡ as_key (rule_of (kind_of c)).secret k
  pub hash : octets_at f (hash_span (judge z f p)) ≡ as_hash (rule_of (kind_of c)).secret k
  pub tlvs : octets_at f (tlvs_span (length f) (judge z f p)) ≡ as_tlvs (rule_of (kind_of c)).rest r
  pub inner : octets_at f (inner_span (length f) (judge z f p)) ≡ as_inner (rule_of (kind_of c)).rest r
  pub value : (tag : ℕ) → octets_at f (value_span f tag (tlvs_span (length f) (judge z f p)))
      ≡ value_in (as_tlvs (rule_of (kind_of c)).rest r) tag

-- ---- write what was read

-- the key or the hash, and the TLVs or the inner frame, that f gives under p; a command has one of each pair at most
abbrev pub secret_read : Settings → List ℕ → ProtectionTold → List ℕ
secret_read z f p = octets_at f (key_span (judge z f p)) ++ octets_at f (hash_span (judge z f p))

abbrev pub rest_read : Settings → List ℕ → ProtectionTold → List ℕ
rest_read z f p = octets_at f (tlvs_span (length f) (judge z f p)) ++ octets_at f (inner_span (length f) (judge z f p))
