-- That a place found is an entry, is what a search tells of its answer.
use mathlib.Core.Path.{sym}
use Rattle.board.proofs.Found.{link-place}
use Rattle.board.proofs.partners.remove_link.Goals as goal

pub with_link-requires : goal.with_link-requires
with_link-requires c = link-place _ _ _ (sym c.in-Some.ensures)
