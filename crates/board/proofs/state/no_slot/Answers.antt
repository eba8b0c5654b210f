-- Each part of a default slot is 0: a default key has sixteen octets, and each is.
use Rattle.std.proofs.Common.{◌≡◌, arith}
use Rattle.std.proofs.lemmas.Grind.{common_steps}
use Rattle.board.specs.State.{zero_key}
use Rattle.board.proofs.state.no_slot.Goals as goal

pub returns : goal.returns
returns c =
    let e = c.default.ensures in
    let k : c.default.result.key ≡ zero_key = grind (arith, common_steps) in
    λ i. record { present = e.0 i; seq = e.1.0 i; key = k i }
