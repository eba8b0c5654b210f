-- What the slots mean: a slot is present just if a key was installed there, and has the number and octets of the last one.
-- Assumes nothing.
use Rattle.std.proofs.Common.{Some}
use mathlib.Core.Path.{◌≡◌, refl, sym, subst, ap, ap₂, ◌∙◌}
use mathlib.Core.Logic.{⊎_elim}
use mathlib.Core.Bool.{Bool, true, false}
use mathlib.Core.List.{List}
use Prim.Native.Nat.{ℕ, ◌<◌}
use native.Mathlib.Omega.{arith}
use lib.Dec.{eqb}
use lib.ListN.{length, set, length-set}
use lib.Seq.{get_or-set_same, get_or-set_other}
use borrow.Author.Tests.{eqb-true}
use Rattle.octets.specs.Keys.{Key, the_key}
use Rattle.std.specs.Prelude.{if◌then◌else◌}
use Rattle.octets.specs.Choice.{both}
use Rattle.octets.specs.Lists.{eq_list}
use Rattle.octets.proofs.Tabs.{get_or-tab}
use Rattle.history.specs.Events.{Installation, none, key, numbered, same_key}
use Rattle.history.proofs.Searches.{same_or, clash, first-ext}
use Rattle.history.proofs.Senders.{pick_same, pick-else}
use Rattle.board.specs.declared.Slot.{Slot}
use Rattle.board.specs.Places.{first_at}
use Rattle.board.specs.State.{slot_at, carries, no_slot, fresh}
use Rattle.board.specs.Requests.{slot_of, holds, installed}
use Rattle.board.proofs.Found.{first_found}

abbrev pub Keeps : Slot → Installation → Type 0
Keeps s none = s.present ≡ false
Keeps s (key n k) = (s.present ≡ true) × (s.seq ≡ n) × (s.key ≡ k.octets)

pub keeps-number : (s : Slot) (x : Installation) (n : ℕ) → Keeps s x → carries s n ≡ numbered x n
unfolding carries
keeps-number s none n w = ap (λ (t : Bool). both t (eqb s.seq n)) w
keeps-number s (key q k) n w = ap₂ (λ (t : Bool) (y : ℕ). both t (eqb y n)) w.0 w.1

pub keeps_same : (s : Slot) (x : Installation) (n : ℕ) (k : Key) → Keeps s x → holds s n k ≡ same_key x (key n k)
unfolding holds carries
keeps_same s none n k w = ap (λ (t : Bool). both (both t (eqb s.seq n)) (eq_list s.key k.octets)) w
keeps_same s (key q j) n k w =
    ap (λ (t : Bool). both (both t (eqb s.seq n)) (eq_list s.key k.octets)) w.0
    ∙ ap₂ (λ (y : ℕ) (l : List ℕ). both (eqb y n) (eq_list l k.octets)) w.1 w.2

pub record Slots (ss : List Slot) (keys : ℕ → Installation) : Type 0 where
  pub two : length ss ≡ 2
  pub keeps : (i : ℕ) → i < 2 → Keeps (slot_at ss i) (keys i)

pub slots-fresh : (own m : ℕ) → Slots (fresh own m).slots (λ i. none)
slots-fresh own m = record { two = refl; keeps = λ i h. ap (λ (s : Slot). s.present) (get_or-tab 2 (λ j. no_slot) i _ h) }

module _ {ss : List Slot} {keys : ℕ → Installation} (w : Slots ss keys) where
  -- the lowest slot with a number, by what was installed
  pub slot-told : (n : ℕ) → slot_of ss n ≡ first_at (λ i. numbered (keys i) n) 0 2
  unfolding slot_of
  slot-told n = first-ext _ _ 2 0 (λ i a b. keeps-number (slot_at ss i) (keys i) n (w.keeps i (omega arith)))

  -- the key that was found
  pub found-key : (n i : ℕ) → slot_of ss n ≡ Some i → i < 2 → keys i ≡ key n (the_key (slot_at ss i).key)
  unfolding slot_of
  found-key n i e h = go (keys i) refl
    where
      carried : carries (slot_at ss i) n ≡ true
      carried = (first_found (λ j. carries (slot_at ss j) n) 2 0 i e).passes

      go : (x : Installation) → keys i ≡ x → keys i ≡ key n (the_key (slot_at ss i).key)
      go none f =
          let k : Keeps (slot_at ss i) none = subst (Keeps (slot_at ss i)) f (w.keeps i h) in
          clash (sym (keeps-number (slot_at ss i) none n k) ∙ carried) refl
      go (key q j) f =
          let k : Keeps (slot_at ss i) (key q j) = subst (Keeps (slot_at ss i)) f (w.keeps i h) in
          f ∙ ap₂ key (numbers q (sym (keeps-number (slot_at ss i) (key q j) n k) ∙ carried)) (ap the_key (sym k.2))
        where
          numbers : (q : ℕ) → eqb q n ≡ true → q ≡ n
          numbers q g = eqb-true q n g

  pub install-slot : (i n : ℕ) (k : Key) → i < 2 → Slots (set ss i (installed n k)) (λ j. if eqb i j then key n k else keys j)
  install-slot i n k h =
      record {
        two = length-set ss i (installed n k) ∙ w.two;
        keeps = λ j h'. ⊎_elim (λ (e : j ≡ i). rw e here) (λ (e : j ≡ i → ⊥). there j h' e) (same_or j i);
      }
    where
      here : Keeps (slot_at (set ss i (installed n k)) i) (if eqb i i then key n k else keys i)
      here =
          let g : slot_at (set ss i (installed n k)) i ≡ installed n k = get_or-set_same ss i (installed n k) _ (omega (arith, w.two)) in
          rw (pick_same i (key n k) (keys i), g) (refl, refl, refl)

      there : (j : ℕ) → j < 2 → (j ≡ i → ⊥) → Keeps (slot_at (set ss i (installed n k)) j) (if eqb i j then key n k else keys j)
      there j h' ne =
          let g : slot_at (set ss i (installed n k)) j ≡ slot_at ss j = get_or-set_other ss i j (installed n k) _ ne in
          rw (pick-else i j (key n k) (keys j) ne, g) (w.keeps j h')
