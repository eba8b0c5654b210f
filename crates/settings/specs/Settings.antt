-- Document 01's numbers, by name, and the settings of a board: what a request of 02 can set otherwise. The definitions above are
-- over any settings; the contracts are at ours.
-- Assumes nothing.
use Rattle.std.specs.Prelude.{ℕ, ◌+◌, ◌-◌}

-- ---- the same for every board

-- 2: "network input over 116", and 1: "output under 116 octets"
abbrev pub longest : ℕ
longest = 116

-- 2: "APS (read or written) over 108", and 1: "(command writer: 108)"
abbrev pub longest_aps : ℕ
longest_aps = 108

-- "Network: .. 14 octets", and APS: "Sealing always sends the sender, 13 octets"
abbrev pub network_aux : ℕ
network_aux = 14

abbrev pub aps_aux : ℕ
aps_aux = 13

-- 7: the counter that is neither sent nor accepted
abbrev pub top : ℕ
top = 4294967295

-- Document 02 (vi): "it is moved ahead in steps of 1,024"
abbrev pub mark_step : ℕ
mark_step = 1024

-- Document 02 (iii): "Let the two lists have any equal, even length from 2 to 1,024"
abbrev pub shortest_list : ℕ
shortest_list = 2

abbrev pub longest_list : ℕ
longest_list = 1024

-- ---- what may be set otherwise

pub record Settings : Type 0 where
  -- the security level that "it is replaced by" in the nonce and in the authenticated octets
  pub level : ℕ
  -- the octets of the tag, M
  pub tag : ℕ

-- "it is replaced by 5"; "the tag M is 4 octets"
abbrev pub ours : Settings
ours = record { level = 5; tag = 4 }

-- 2: "to seal: over 98, over 91", which is what the auxiliary header and the tag leave of a longest frame
abbrev pub longest_plain : Settings → ℕ
longest_plain z = longest - (network_aux + z.tag)

abbrev pub longest_aps_plain : Settings → ℕ
longest_aps_plain z = longest_aps - (aps_aux + z.tag)
