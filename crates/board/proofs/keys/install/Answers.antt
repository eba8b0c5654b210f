-- Lists that fit have the rows of the slot.
use mathlib.Core.Path.{sym, ◌∙◌}
use native.Mathlib.Omega.{arith}
use Rattle.board.specs.Rows.{lists, half}
use Rattle.board.proofs.Halves.{lists-long, slot-within}
use Rattle.board.proofs.keys.install.Goals as goal

pub free_rows-requires : goal.free_rows-requires
free_rows-requires c =
    let w = lists c.args.addrs.now c.args.floors.now in
    let h = lists-long w (sym c.lists_fit.ensures ∙ c.if-not-lists_fit.false) in
    let inside = slot-within (half w) c.args.slot (omega (arith, c.if-slot-gt1.false)) in
    (omega (arith, h.0, inside), omega (arith, h.1, inside))
