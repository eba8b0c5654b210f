-- Octet i is octet i % 4 of word i / 4.
use mathlib.Core.Path.{◌∙◌}
use Prim.Native.Nat.{◌/◌, ◌%◌}
use Rattle.std.proofs.Common.{rules, w32}
use Rattle.std.specs.Int.{to_le_bytes}
use Rattle.octets.specs.Lists.{at}
use Rattle.cipher.proofs.Lanes.{bytes-spelled, append-four}
use Rattle.cipher.proofs.Made.{made}
use Rattle.cipher.proofs.words.block_of.Goals as goal

pub returns : goal.returns
returns c =
    let w = c.args.w in
    made _ (λ i. at (to_le_bytes w32 (at w (i / 4))) (i % 4)) _ (λ i y q k. search rules) _ _ c.from_fn.ensures.items
    ∙ append-four (bytes-spelled (at w 0)) (bytes-spelled (at w 1)) (bytes-spelled (at w 2)) (bytes-spelled (at w 3))
