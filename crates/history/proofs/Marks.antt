-- The host's store beside the board's mark, where the host writes only the next mark last answered and tells only what its store holds:
-- the store holds the board's mark or the next one, so that it is above every counter sealed, whenever the plug is pulled.
-- Assumes nothing.
use mathlib.Core.Path.{◌≡◌, refl, sym, ◌∙◌}
use mathlib.Core.Bool.{Bool, true}
use mathlib.Core.List.{List, [], ◌∷◌}
use Prim.Native.Nat.{ℕ, ◌≤◌}
use native.Mathlib.Omega.{arith}
use lib.Dec.{eqb}
use borrow.Author.Tests.{eqb-true}
use Rattle.settings.specs.Settings.{Settings, top}
use Rattle.octets.proofs.Choices.{choose}
use Rattle.history.specs.Calls.{Call, install, switch, add_link, remove_link, forget, opening, sealing, looking, writing, routing, next_mark, marked}
use Rattle.history.specs.Calls.{tells, Reply, answered, gave, looked, sent_on, next_is, Exchange}
use Rattle.history.specs.Deeds.{Deed, called, wrote, cut, Replies, log, stored, answers, answered_last}
use Rattle.history.specs.Running.{Held, by_board, step}
use Rattle.history.proofs.Searches.{clash}
use Rattle.history.proofs.Ways.{network-seals, aps-seals, writes}
use Rattle.answers.specs.Numbers.{done}
use Rattle.frames.specs.declared.Layer.{Layer}
use Rattle.frames.specs.declared.Layer.TheVariants.{Network, Aps}
use Rattle.board.specs.declared.Board.{Board}
use Rattle.board.specs.Mark.{move_mark}
use Rattle.board.specs.Requests.{Changed}
use Rattle.board.specs.Sending.{spent, Framed}
use Rattle.board.proofs.Untouched.{install-keeps, switch-keeps, add-keeps, remove-keeps}
use Rattle.commands.specs.declared.Command.{Command}
use Rattle.commands.specs.Writing.{aps_raised}
use Rattle.board.specs.Mark as marks
use Rattle.aps.proofs.Ways as aps

-- the log has the deeds' own writes
pub stored-log : (board : Replies) (found : ℕ) (ds : List (Deed Call)) → stored found (log board ds) ≡ stored found ds
stored-log board found [] = refl
stored-log board found (called c ∷ ds) = stored-log board found ds
stored-log board found (wrote m ∷ ds) = refl
stored-log board found (cut ∷ ds) = stored-log board found ds

-- only one mark was answered last
answered-one : (l : List (Deed Exchange)) (j k : ℕ) → answered_last l j ≡ true → answered_last l k ≡ true → j ≡ k
answered-one [] j k p q = clash p refl
answered-one (called x ∷ l) j k p q = go x.reply (answered-one l j k) p q
  where
    go : (r : Reply) → (answered_last l j ≡ true → answered_last l k ≡ true → j ≡ k) → answers r j (answered_last l j) ≡ true
        → answers r k (answered_last l k) ≡ true → j ≡ k
    go (answered t) ih u v = ih u v
    go (gave t o) ih u v = ih u v
    go (looked t) ih u v = ih u v
    go (sent_on t s) ih u v = ih u v
    go (next_is n) ih u v = sym (eqb-true n j u) ∙ eqb-true n k v
answered-one (wrote m ∷ l) j k p q = answered-one l j k p q
answered-one (cut ∷ l) j k p q = answered-one l j k p q

-- ---- the store

pub record Keeps (mark store : ℕ) (l : List (Deed Exchange)) : Type 0 where
  pub low : mark ≤ top
  pub behind : mark ≤ store
  pub ahead : store ≤ marks.next_mark mark
  pub least : (k : ℕ) → answered_last l k ≡ true → store ≤ k
  pub most : (k : ℕ) → answered_last l k ≡ true → k ≤ marks.next_mark mark

-- at first nothing was answered
pub keeps-found : (m : ℕ) → m ≤ top → Keeps m m []
unfolding marks.next_mark
keeps-found m h =
    record { low = h; behind = omega arith; ahead = omega arith; least = λ k e. clash e refl; most = λ k e. clash e refl }

module _ {mark store : ℕ} {l : List (Deed Exchange)} (w : Keeps mark store l) where
  pub store_low : store ≤ top
  unfolding marks.next_mark
  store_low = omega (arith, w.ahead)

  -- the next mark that was answered last is written
  pub keeps-wrote : (m : ℕ) → answered_last l m ≡ true → Keeps mark m (wrote m ∷ l)
  keeps-wrote m e =
      record {
        low = w.low;
        behind = omega (arith, w.behind, w.least m e);
        ahead = w.most m e;
        least = λ k f. omega (arith, answered-one l m k e f);
        most = w.most;
      }

  -- the board starts at what the store holds
  pub keeps_cut : Keeps store store (cut ∷ l)
  unfolding marks.next_mark
  keeps_cut =
      record {
        low = store_low;
        behind = omega arith;
        ahead = omega (arith, store_low);
        least = w.least;
        most = λ k e. omega (arith, w.behind, w.most k e);
      }

  -- a call that is answered no mark, and leaves the board's
  pub keeps-called : (x : Exchange) {n : ℕ} → ((k : ℕ) → answered_last (called x ∷ l) k ≡ answered_last l k) → n ≡ mark
      → Keeps n store (called x ∷ l)
  keeps-called x {n} none e =
      rw e
      (record {
        low = w.low;
        behind = w.behind;
        ahead = w.ahead;
        least = λ k f. w.least k (sym (none k) ∙ f);
        most = λ k f. w.most k (sym (none k) ∙ f);
      })

  -- the first request
  keeps-asked : (c : Call) → Keeps mark store (called (record { call = c; reply = next_is (marks.next_mark mark) }) ∷ l)
  keeps-asked c =
      record {
        low = w.low;
        behind = w.behind;
        ahead = w.ahead;
        least = λ k e. omega (arith, w.ahead, eqb-true (marks.next_mark mark) k e);
        most = λ k e. omega (arith, eqb-true (marks.next_mark mark) k e);
      }

  -- the second, which moved the mark
  keeps-moved : (x : Exchange) → ((k : ℕ) → answered_last (called x ∷ l) k ≡ answered_last l k) → store ≡ marks.next_mark mark
      → Keeps store store (called x ∷ l)
  unfolding marks.next_mark
  keeps-moved x none e =
      record {
        low = store_low;
        behind = omega arith;
        ahead = omega (arith, store_low);
        least = λ k f. w.least k (sym (none k) ∙ f);
        most = λ k f. omega (arith, w.behind, w.most k (sym (none k) ∙ f));
      }

-- ---- one call

module _ (z : Settings) (x : Held) {store : ℕ} {l : List (Deed Exchange)} (w : Keeps x.board.mark store l) where
  abbrev b : Board
  b = x.board

  abbrev After : Call → Type 0
  After c = Keeps (step z c x).after.board.mark store (called (record { call = c; reply = (step z c x).reply }) ∷ l)

  -- neither sealing nor writing nor opening moves the mark
  keeps-seal : (l' : Layer) (f : List ℕ) (a k : ℕ) (o : List ℕ) → After (sealing l' f a k o)
  unfolding spent
  keeps-seal Network f a k o =
      keeps-called w (record { call = sealing Network f a k o; reply = (step z (sealing Network f a k o) x).reply }) (λ j. refl)
      (network-seals z b f o (λ (r : Framed). r.board.mark ≡ b.mark) (λ n. refl) (λ n p t. refl))
  keeps-seal Aps f a k o =
      keeps-called w (record { call = sealing Aps f a k o; reply = (step z (sealing Aps f a k o) x).reply }) (λ j. refl)
      (aps-seals z b f o (λ (r : Framed). r.board.mark ≡ b.mark) (λ n. refl) a k (λ n p t. refl))

  keeps-write : (a : Bool) (c : Command) (k r o : List ℕ) → After (writing a c k r o)
  unfolding aps_raised
  keeps-write a c k r o =
      keeps-called w _ (λ j. refl)
      (writes z b a c k r o (λ (y : Framed). y.board.mark ≡ b.mark) (λ n. refl) (λ n p. refl))

  keeps-told : (m : ℕ) → m ≡ store → After (marked m)
  unfolding move_mark
  keeps-told m e = choose P (eqb m (marks.next_mark b.mark)) _ _ moved (λ _. keeps-called w _ (λ j. refl) refl)
    where
      P : Changed → Type 0
      P r = Keeps r.board.mark store (called (record { call = marked m; reply = (by_board x r).reply }) ∷ l)

      moved : eqb m (marks.next_mark b.mark) ≡ true → Keeps m store (called (record { call = marked m; reply = answered done }) ∷ l)
      moved t = rw e (keeps-moved w _ (λ j. refl) (sym e ∙ eqb-true m (marks.next_mark b.mark) t))

  pub keeps-step : (c : Call) → tells c store ≡ true → After c
  keeps-step (install i n k) t = keeps-called w _ (λ j. refl) (install-keeps b x.lists i n k).mark
  keeps-step (switch n) t = keeps-called w _ (λ j. refl) (switch-keeps b n).mark
  keeps-step (add_link a k) t = keeps-called w _ (λ j. refl) (add-keeps b a k).mark
  keeps-step (remove_link a) t = keeps-called w _ (λ j. refl) (remove-keeps b a).mark
  keeps-step (forget i a) t = keeps-called w _ (λ j. refl) refl
  keeps-step (opening Network f g o) t = keeps-called w _ (λ j. refl) refl
  keeps-step (opening Aps f g o) t =
      keeps-called w _ (λ j. refl)
      (aps.open-ways z b f g o (λ (r : Framed). r.board.mark ≡ b.mark) (λ n. refl) (λ n e. refl) (λ s i u. refl))
  keeps-step (sealing l' f a k o) t = keeps-seal l' f a k o
  keeps-step (looking Network f g) t = keeps-called w _ (λ j. refl) refl
  keeps-step (looking Aps f g) t = keeps-called w _ (λ j. refl) refl
  keeps-step (writing a c k r o) t = keeps-write a c k r o
  keeps-step (routing f p) t = keeps-called w _ (λ j. refl) refl
  keeps-step next_mark t = keeps-asked w next_mark
  keeps-step (marked m) t = keeps-told m (eqb-true m store t)
