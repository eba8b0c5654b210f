-- What a request leaves, put together from its parts.
-- Assumes nothing.
use mathlib.Core.Path.{◌≡◌, ap, ◌∙◌}
use mathlib.Core.List.{List}
use Prim.Native.Nat.{ℕ}
use Rattle.board.specs.declared.Board.{Board}
use Rattle.board.specs.Sending.{Framed, framed, with_outgoing, counter_after}
use Rattle.answers.specs.Numbers.{FrameTold}

-- the board that an answer leaves, by its counter
pub counted : (t : FrameTold) (b : Board) {n : ℕ} {o : List ℕ} {x : Framed} → n ≡ counter_after t b.outgoing
    → framed t (with_outgoing b (counter_after t b.outgoing)) o ≡ x → framed t (with_outgoing b n) o ≡ x
counted t b {n} {o} {x} e q = ap (λ (m : ℕ). framed t (with_outgoing b m) o) e ∙ q
