-- The first 16 octets are a block as they stand; fewer are laid onto zeros.
use mathlib.Core.Path.{ap, ◌∙◌}
use mathlib.Core.List.{List, ◌++◌}
use Prim.Native.Nat.{ℕ}
use lib.ListN.{length, drop, replicate}
use Rattle.cipher.proofs.Chunked.{block-whole, block-short}
use Rattle.cipher.proofs.blocks.zero_padded.Goals as goal

pub returns-in-Some : goal.returns-in-Some
returns-in-Some c = let h = c.in-Some.ensures.cases in block-whole _ c.args.d.now h.enough h.same

pub returns-in-None : goal.returns-in-None
returns-in-None c =
    let d = c.args.d.now in
    ap (λ (x : List ℕ). x ++ drop (length d) (replicate 16 0)) c.copy_from_slice.ensures.after
    ∙ block-short d c.in-None.ensures.cases
