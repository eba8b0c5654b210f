-- The rows filled with 0 are the freed ones.
use Rattle.board.proofs.Cleared.{filled}
use Rattle.board.proofs.rows.free_rows.Goals as goal

pub returns-clause-addrs_after : goal.returns-clause-addrs_after
returns-clause-addrs_after c =
    filled c.args.addrs.now _ c.args.from c.args.n c.requires.0 (c.fill.ensures.after (λ y e. e))

pub returns-clause-floors_after : goal.returns-clause-floors_after
returns-clause-floors_after c =
    filled c.args.floors.now _ c.args.from c.args.n c.requires.1 (c.fill-2.ensures.after (λ y e. e))
