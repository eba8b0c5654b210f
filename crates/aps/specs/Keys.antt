-- Document 01, "The auxiliary header and the nonce" (RULES 6.4): "APS: identifier 0 (link key), 2 (keyed hash of the link key over the
-- octet 0x00) or 3 (over 0x02); identifier 1 refused (ours)."
-- Assumes nothing.
use Rattle.std.specs.Prelude.{[], ◌∷◌, ℕ, ◌==◌}
use Rattle.std.specs.Prelude.{if◌then◌else◌}
use Rattle.octets.specs.Keys.{Key, the_key}
use Rattle.cipher.specs.Hash.{keyed_hash}

unfoldable pub key_for : Key → ℕ → Key
key_for k i =
    if i == 0 then k
    else (if i == 2 then the_key (keyed_hash k.octets (0x00 ∷ []))
    else the_key (keyed_hash k.octets (0x02 ∷ [])))
