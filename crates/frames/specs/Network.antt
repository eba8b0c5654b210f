-- Document 01, "Layout of a network frame" (RULES 4): "Control (2), destination (2), source (2), radius, sequence number, then the
-- destination and source 64-bit addresses where announced, then a source route (count n, index, 2n octets) where
-- announced. Control bits: 0-1 type (0 data, 1 command), 2-5 version, 6-7 route discovery (0 or 1), 8 multicast,
-- 9 security, 10 source route, 11 and 12 the long addresses, 13 end device, 14-15 zero. Any other type, version,
-- discovery value, a multicast bit or a bit 14-15 set is form 4." The version is 2.
-- Assumes nothing.
use Rattle.std.specs.Prelude.{Bool, List, ℕ, ◌+◌, ◌*◌, ◌/◌, ◌%◌, ◌==◌, nat_lt, nat_le}
use Rattle.std.specs.Prelude.{if◌then◌else◌}
use Rattle.octets.specs.Choice.{both}
use Rattle.octets.specs.Least.{number_at}
use Rattle.octets.specs.Lists.{at}

unfoldable pub network_control : List ℕ → ℕ
network_control f = number_at 2 f 0

unfoldable pub network_form : ℕ → Bool
network_form c =
    both (nat_le (c % 4) 1)
    (both ((c / 4 % 16) == 2)
    (both (nat_le (c / 64 % 4) 1)
    (both ((c / 256 % 2) == 0)
    (nat_lt c 16384))))

unfoldable pub network_secured : ℕ → Bool
network_secured c = (c / 512 % 2) == 1

-- where the source route starts, if there is one
unfoldable pub network_base : ℕ → ℕ
network_base c = 8 + 8 * (c / 2048 % 2) + 8 * (c / 4096 % 2)

unfoldable pub network_header : List ℕ → ℕ → ℕ
network_header f c =
    if (c / 1024 % 2) == 1
    then network_base c + 2 + 2 * at f (network_base c)
    else network_base c

-- "Network: identifier 1 and extended nonce"
unfoldable pub network_keyed : ℕ → ℕ → Bool
network_keyed k e = both (k == 1) (e == 1)
