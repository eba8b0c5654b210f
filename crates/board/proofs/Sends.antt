-- Sending, by its one judgement: said here for both layers.
-- Assumes nothing.
use mathlib.Core.Path.{◌≡◌, sym, ap, ◌∙◌}
use mathlib.Core.List.{List}
use Prim.Native.Nat.{ℕ, ◌<◌}
use lib.Dec.{eqb, ltb}
use lib.ListN.{length}
use borrow.Author.Tests.{eqb-false, ltb-true}
use Rattle.settings.specs.Settings.{top}
use Rattle.octets.specs.Lists.{onto}
use Rattle.octets.proofs.Choices.{choose}
use Rattle.answers.specs.Numbers.{Told, done, refused, sealed, turned_down}
use Rattle.board.specs.declared.Board.{Board}
use Rattle.board.specs.declared.Sending.{Sending}
use Rattle.board.specs.Sending.{Framed, framed, spent, sending_of, may_send, send_as, send}

-- what holds of every refusal, and of the frame sent with a counter below the top and below the mark, holds of sending
pub by-sending : (P : Framed → Type 0) (b : Board) (x o : List ℕ) → ((n : ℕ) → P (framed (turned_down n) b o))
    → ((b.outgoing ≡ top → ⊥) → b.outgoing < b.mark → P (framed (sealed (length x)) (spent b) (onto x o))) → P (send b x o)
unfolding send may_send
by-sending P b x o down out =
    choose Q (eqb b.outgoing top) _ _ (λ _. down 7) λ q.
    choose Q (ltb b.outgoing b.mark) _ _ (λ r. out (eqb-false _ _ q) (ltb-true _ _ r)) (λ _. down 17)
  where
    Q : Told → Type 0
    Q t = P (send_as b x o t)

-- what a stage that was handed what sealing needs of the board, and not the board, knows of it
module _ (s : Sending) (b : Board) (e : sending_of b ≡ s) (x o : List ℕ) where
  pub send-refused : (n : ℕ) → may_send s ≡ refused n → framed (turned_down n) b o ≡ send b x o
  unfolding send
  send-refused n m = sym (ap (send_as b x o) (ap may_send e ∙ m))

  pub send-done : may_send s ≡ done → framed (sealed (length x)) (spent b) (onto x o) ≡ send b x o
  unfolding send
  send-done m = sym (ap (send_as b x o) (ap may_send e ∙ m))
