-- One octet is not too many to hash, so the cipher answers with the hash.
use mathlib.Core.Path.{◌≡◌, ◌∙◌}
use mathlib.Core.List.{◌∷◌, []}
use native.Mathlib.Omega.{arith}
use Rattle.std.proofs.Common.{rules, Ok}
use Rattle.cipher.specs.Hash.{keyed_hash}
use Rattle.cipher.proofs.Lengths.{keyed-made}
use Rattle.cipher.proofs.Told.{hash-made}
use Rattle.aps.proofs.keys.hashed.Goals as goal
use Rattle.aps.proofs.keys.hashed.Goals.{After-keyed_hash}

made : (c : After-keyed_hash) → c.keyed_hash.result ≡ Ok (keyed_hash c.args.key (c.args.x ∷ []))
made c = hash-made _ _ (c.keyed_hash.ensures ∙ keyed-made c.args.key (c.args.x ∷ []) (omega arith))

pub unwrap-requires : goal.unwrap-requires
unwrap-requires c = let h = made (goal.at.unwrap-requires c).After-keyed_hash in search rules

pub returns : goal.returns
returns c = let h = made (goal.at.returns c).After-keyed_hash in search rules
