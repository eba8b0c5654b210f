-- Document 01, "The commands" (RULES 9.1): the list of sizes and protections. "Sizes count from the identifier." "The protection
-- column is ours."
-- Assumes nothing.
use Rattle.std.specs.Prelude.{ℕ, ◌+◌, Bool, true, false, List, length, ◌==◌, nat_le}
use Rattle.std.specs.Prelude.{if◌then◌else◌}
use Rattle.octets.specs.Choice.{both}
use Rattle.answers.specs.Numbers.{ProtectionTold, clear, under}
use Rattle.settings.specs.Settings.{Settings, aps_aux}
use Rattle.frames.specs.Tunnelling.{may_tunnel}
use Rattle.tlvs.specs.Looking.{fills, relays}
use Rattle.commands.specs.declared.Kind.{Kind}
use Rattle.commands.specs.declared.Kind.TheVariants.{Transport1, Transport4, Transport2, Transport3, Update, Remove, Request2, Request4, Switch, Tunnel, Verify, Confirm, Down, Up}
use Rattle.commands.specs.declared.Secret.{Secret}
use Rattle.commands.specs.declared.Secret.TheVariants.{NoSecret, Key, Hash}
use Rattle.commands.specs.declared.Rest.{Rest}
use Rattle.commands.specs.declared.Rest.TheVariants.{End, Tlvs, Relay, Inner}
use Rattle.commands.specs.declared.Allowed.{Allowed}
use Rattle.commands.specs.declared.Allowed.TheVariants.{Clear, Only, ClearOr}
use Rattle.commands.specs.declared.Rule.{Rule}

abbrev pub row : ℕ → Secret → Rest → Allowed → Rule
row n s r u = record { size = n; secret = s; rest = r; under = u }

-- the size up to what follows, the sixteen octets in it, what follows, and the protection
unfoldable pub rule_of : Kind → Rule
-- 05 Transport-Key
rule_of Transport1 = row 35 Key End (Only 2)
rule_of Transport4 = row 34 Key Tlvs (Only 3)
rule_of Transport2 = row 27 Key Tlvs (Only 3)
rule_of Transport3 = row 27 Key Tlvs (Only 3)
-- 06 Update-Device, 07 Remove-Device
rule_of Update = row 12 NoSecret Tlvs (Only 0)
rule_of Remove = row 9 NoSecret End (Only 0)
-- 08 Request-Key, 09 Switch-Key
rule_of Request2 = row 10 NoSecret End (Only 0)
rule_of Request4 = row 2 NoSecret End (Only 0)
rule_of Switch = row 2 NoSecret End (ClearOr 0)
-- 0E Tunnel, "29 or more": 9 and the inner frame; 0F Verify-Key, 10 Confirm-Key
rule_of Tunnel = row 9 NoSecret Inner Clear
rule_of Verify = row 26 Hash End Clear
rule_of Confirm = row 11 NoSecret End (Only 0)
-- 11, 12 Relay
rule_of Down = row 1 NoSecret Relay (ClearOr 0)
rule_of Up = row 1 NoSecret Relay (ClearOr 0)

-- ---- the size

-- the least frame inside a Tunnel: header, auxiliary header, one octet and the tag
abbrev pub least_inner : Settings → ℕ
least_inner z = 2 + aps_aux + 1 + z.tag

-- what may follow: of a frame that is read, all that is left; of a command that is written, the part lent. "Anything else inside is
-- 11, after 01's size check" (document 02 (i))
unfoldable pub fits : Settings → Rest → List ℕ → Bool
fits z End s = length s == 0
fits z Tlvs s = fills s
fits z Relay s = relays s
fits z Inner s = both (nat_le (least_inner z) (length s)) (may_tunnel s)

abbrev pub secret_size : Secret → ℕ
secret_size NoSecret = 0
secret_size Key = 16
secret_size Hash = 16

-- ---- the protection

-- "none, 0, 2 or 3"
unfoldable pub known : ProtectionTold → Bool
known clear = true
known (under n) = if n == 0 then true else (if n == 2 then true else (n == 3))

unfoldable pub allows : Allowed → ProtectionTold → Bool
allows Clear clear = true
allows Clear (under m) = false
allows (Only n) clear = false
allows (Only n) (under m) = m == n
allows (ClearOr n) clear = true
allows (ClearOr n) (under m) = m == n
