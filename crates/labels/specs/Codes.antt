-- Document 02 (v) (RULES 14.1, 14.2): "an install code: 6, 8, 12 or 16 octets and a CRC of two octets", "the link key as AES-MMO of
-- code and CRC". The CRC stands least octet first.
-- Assumes nothing.
use Rattle.std.specs.Prelude.{Bool, true, List, ◌++◌, ℕ, ◌==◌}
use Rattle.std.specs.Prelude.{if◌then◌else◌}
use Rattle.octets.specs.Keys.{Key, the_key}
use Rattle.octets.specs.Least.{spelled}
use Rattle.cipher.specs.Hash.{hash_of}
use Rattle.labels.specs.Crc.{crc}

unfoldable pub code_length : ℕ → Bool
code_length n = if n == 6 then true else (if n == 8 then true else (if n == 12 then true else n == 16))

-- the octets of the label of code c
unfoldable pub with_crc : List ℕ → List ℕ
with_crc c = c ++ spelled 2 (crc c)

unfoldable pub link_key : List ℕ → Key
link_key c = the_key (hash_of (with_crc c))
