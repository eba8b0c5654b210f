-- What the link entries mean: a partner's entry is there just if a key was added for it and not removed since, has the octets
-- of the last one, and its floor is the least counter above all that were opened under it.
-- Assumes nothing.
use Rattle.std.proofs.Common.{Option, Some, None}
use mathlib.Core.Path.{◌≡◌, refl, sym, ap, ap₂, ◌∙◌}
use mathlib.Core.Logic.{⊎_elim}
use mathlib.Core.Bool.{Bool, true, false, not}
use mathlib.Core.List.{List, []}
use Prim.Native.Nat.{ℕ, ◌<◌}
use native.Mathlib.Omega.{arith}
use lib.Dec.{eqb}
use lib.ListN.{length, set, length-set}
use lib.Seq.{get_or-set_same, get_or-set_other}
use borrow.Author.Tests.{eqb-true, eq-eqb, not-true}
use Rattle.octets.specs.Keys.{Key, the_key}
use Rattle.std.specs.Prelude.{if◌then◌else◌}
use Rattle.octets.specs.Choice.{both}
use Rattle.octets.proofs.Tabs.{get_or-tab}
use Rattle.history.specs.Events.{Installation, none, key}
use Rattle.history.proofs.Searches.{same_or, clash, first-ext, first-only, first-nowhere}
use Rattle.history.proofs.Counters.{bound}
use Rattle.history.proofs.Senders.{pick_same, pick-else}
use Rattle.board.specs.declared.Link.{Link}
use Rattle.board.specs.State.{link_at, pairs, no_link, fresh}
use Rattle.board.specs.Requests.{link_of, free_link}
use Rattle.board.proofs.Found.{first_found, first-none}

abbrev pub Tells : List Link → Option ℕ → Installation → List ℕ → Type 0
Tells ls (Some i) k l = (k ≡ key 0 (the_key (link_at ls i).key)) × ((link_at ls i).floor ≡ bound l)
Tells ls None k l = k ≡ none

abbrev pub pairs_at : List Link → ℕ → ℕ → Bool
pairs_at ls a i = pairs (link_at ls i) a

pub record Links (ls : List Link) (keys : ℕ → Installation) (opened : ℕ → List ℕ) : Type 0 where
  pub eight : length ls ≡ 8
  pub once : (a i j : ℕ) → i < 8 → j < 8 → pairs_at ls a i ≡ true → pairs_at ls a j ≡ true → i ≡ j
  pub tells : (a : ℕ) → Tells ls (link_of ls a) (keys a) (opened a)

no-pair : (a : ℕ) → pairs no_link a ≡ false
unfolding pairs
no-pair a = refl

pair_one : (l : Link) (a b : ℕ) → pairs l a ≡ true → pairs l b ≡ true → a ≡ b
unfolding pairs
pair_one l a b e f = go l.present e f
  where
    go : (t : Bool) → both t (eqb l.partner a) ≡ true → both t (eqb l.partner b) ≡ true → a ≡ b
    go true p q = sym (eqb-true _ a p) ∙ eqb-true _ b q
    go false p q = clash p refl

-- an entry for a pairs with a, and with nobody else
pub pair-mine : (l : Link) (a : ℕ) → l.present ≡ true → l.partner ≡ a → pairs l a ≡ true
unfolding pairs
pair-mine l a e f = ap₂ both e (eq-eqb _ a f)

pub pair-free : (l : Link) (a : ℕ) → l.present ≡ false → pairs l a ≡ false
unfolding pairs
pair-free l a e = ap (λ (t : Bool). both t (eqb l.partner a)) e

pub pair-other : (l : Link) (a b : ℕ) → pairs l a ≡ true → (b ≡ a → ⊥) → pairs l b ≡ false
pair-other l a b e ne = go (pairs l b) refl
  where
    go : (t : Bool) → pairs l b ≡ t → pairs l b ≡ false
    go true f = absurd (ne (pair_one l b a f e))
    go false f = f

-- what is told of a partner may be said in other words
pub links-ext : {ls : List Link} {keys keys' : ℕ → Installation} {opened opened' : ℕ → List ℕ} → Links ls keys opened
    → ((a : ℕ) → keys a ≡ keys' a) → ((a : ℕ) → opened a ≡ opened' a) → Links ls keys' opened'
links-ext {ls} {keys} {keys'} {opened} {opened'} w p q =
    record { eight = w.eight; once = w.once; tells = λ a. rw (← p a, ← q a) (w.tells a) }

pub links-fresh : (own m : ℕ) → Links (fresh own m).links (λ a. none) (λ a. [])
unfolding link_of
links-fresh own m =
    record {
      eight = refl;
      once = λ a i j h k e f. clash e (free a i h);
      tells = λ a. rw (first-nowhere (pairs_at (fresh own m).links a) 8 0 (λ i b c. free a i (omega arith))) refl;
    }
  where
    free : (a i : ℕ) → i < 8 → pairs_at (fresh own m).links a i ≡ false
    free a i h = ap (λ (l : Link). pairs l a) (get_or-tab 8 (λ j. no_link) i _ h) ∙ no-pair a

-- ---- one entry changes: it was free or the partner's, and is so again

module _ {ls : List Link} {keys : ℕ → Installation} {opened : ℕ → List ℕ} (w : Links ls keys opened) (i a : ℕ) (l : Link) (i< : i < 8)
    (was : (b : ℕ) → (b ≡ a → ⊥) → pairs_at ls b i ≡ false) (now : (b : ℕ) → (b ≡ a → ⊥) → pairs l b ≡ false)
    (others : (j : ℕ) → j < 8 → (j ≡ i → ⊥) → pairs_at ls a j ≡ false) where
  abbrev ks : List Link
  ks = set ls i l

  now-is : link_at ks i ≡ l
  now-is = get_or-set_same ls i l _ (omega (arith, w.eight))

  kept : (j : ℕ) → (j ≡ i → ⊥) → link_at ks j ≡ link_at ls j
  kept j ne = get_or-set_other ls i j l _ ne

  test-kept : (b j : ℕ) → (b ≡ a → ⊥) → pairs_at ks b j ≡ pairs_at ls b j
  test-kept b j ne =
      ⊎_elim (λ (e : j ≡ i). rw e (ap (λ (x : Link). pairs x b) now-is ∙ now b ne ∙ sym (was b ne)))
      (λ (e : j ≡ i → ⊥). ap (λ (x : Link). pairs x b) (kept j e)) (same_or j i)

  place_kept : (b : ℕ) → (b ≡ a → ⊥) → link_of ks b ≡ link_of ls b
  unfolding link_of
  place_kept b ne = first-ext (pairs_at ks b) (pairs_at ls b) 8 0 (λ j c d. test-kept b j ne)

  once-kept : (b j k : ℕ) → j < 8 → k < 8 → pairs_at ks b j ≡ true → pairs_at ks b k ≡ true → j ≡ k
  once-kept b j k j< k< e f =
      ⊎_elim (λ (g : b ≡ a). mine g)
      (λ (g : b ≡ a → ⊥). w.once b j k j< k< (sym (test-kept b j g) ∙ e) (sym (test-kept b k g) ∙ f)) (same_or b a)
    where
      at_i : b ≡ a → (q : ℕ) → q < 8 → pairs_at ks b q ≡ true → q ≡ i
      at_i g q q< u =
          ⊎_elim (λ (x : q ≡ i). x)
          (λ (x : q ≡ i → ⊥). clash u (ap (λ (y : Link). pairs y b) (kept q x) ∙ ap (pairs (link_at ls q)) g ∙ others q q< x)) (same_or q i)

      mine : b ≡ a → j ≡ k
      mine g = at_i g j j< e ∙ sym (at_i g k k< f)

  tells-kept : (b : ℕ) → (b ≡ a → ⊥) → Tells ks (link_of ks b) (keys b) (opened b)
  unfolding link_of
  tells-kept b ne = rw (place_kept b ne) (go (link_of ls b) refl (w.tells b))
    where
      away : (q : ℕ) → link_of ls b ≡ Some q → q ≡ i → ⊥
      away q e f = clash (rw (← f) (first_found (pairs_at ls b) 8 0 q e).passes) (was b ne)

      go : (p : Option ℕ) → link_of ls b ≡ p → Tells ls p (keys b) (opened b) → Tells ks p (keys b) (opened b)
      go (Some q) e t = rw (kept q (away q e)) t
      go None e t = t

  pub entry-changes : (keys' : ℕ → Installation) (opened' : ℕ → List ℕ) → ((b : ℕ) → (b ≡ a → ⊥) → keys' b ≡ keys b)
      → ((b : ℕ) → (b ≡ a → ⊥) → opened' b ≡ opened b) → Tells ks (link_of ks a) (keys' a) (opened' a) → Links ks keys' opened'
  entry-changes keys' opened' ek eo t =
      record {
        eight = length-set ls i l ∙ w.eight;
        once = once-kept;
        tells = λ b. ⊎_elim (λ (e : b ≡ a). rw e t) (λ (e : b ≡ a → ⊥). rw (ek b e, eo b e) (tells-kept b e)) (same_or b a);
      }

  -- an entry for a
  pub entry-put : (k : Key) (o : List ℕ) → pairs l a ≡ true → the_key l.key ≡ k → l.floor ≡ bound o
      → Links ks (λ b. if eqb a b then key 0 k else keys b) (λ b. if eqb a b then o else opened b)
  unfolding link_of
  entry-put k o mine ek ef =
      entry-changes _ _ (λ b ne. pick-else a b (key 0 k) (keys b) ne) (λ b ne. pick-else a b o (opened b) ne)
      (rw (place, pick_same a (key 0 k) (keys a), pick_same a o (opened a), now-is) (ap (key 0) (sym ek), ef))
    where
      place : link_of ks a ≡ Some i
      place =
          first-only (pairs_at ks a) 0 8 i (omega arith) (omega arith) (ap (λ (y : Link). pairs y a) now-is ∙ mine)
          (λ j c d e. ⊎_elim (λ (x : j ≡ i). x)
          (λ (x : j ≡ i → ⊥). clash e (ap (λ (y : Link). pairs y a) (kept j x) ∙ others j (omega arith) x)) (same_or j i))

  -- no entry for a
  pub entry_gone : pairs l a ≡ false → Links ks (λ b. if eqb a b then none else keys b) (λ b. if eqb a b then [] else opened b)
  unfolding link_of
  entry_gone free =
      entry-changes _ _ (λ b ne. pick-else a b none (keys b) ne) (λ b ne. pick-else a b [] (opened b) ne)
      (rw (place, pick_same a none (keys a)) refl)
    where
      place : link_of ks a ≡ None
      place =
          first-nowhere (pairs_at ks a) 8 0
          (λ j c d. ⊎_elim (λ (x : j ≡ i). rw x (ap (λ (y : Link). pairs y a) now-is ∙ free))
          (λ (x : j ≡ i → ⊥). ap (λ (y : Link). pairs y a) (kept j x) ∙ others j (omega arith) x) (same_or j i))

-- ---- the entry that a search found

module _ {ls : List Link} {keys : ℕ → Installation} {opened : ℕ → List ℕ} (w : Links ls keys opened) (a i : ℕ) where
  pub record Mine : Type 0 where
    pub low : i < 8
    pub pairing : pairs_at ls a i ≡ true
    pub was : (b : ℕ) → (b ≡ a → ⊥) → pairs_at ls b i ≡ false
    pub others : (j : ℕ) → j < 8 → (j ≡ i → ⊥) → pairs_at ls a j ≡ false

  pub mine : link_of ls a ≡ Some i → Mine
  unfolding link_of
  mine e =
      let g = first_found (pairs_at ls a) 8 0 i e in
      let h : i < 8 = omega (arith, g.high) in
      record {
        low = h;
        pairing = g.passes;
        was = λ b ne. pair-other (link_at ls i) a b g.passes ne;
        others = λ j j< ne. away j j< ne h g.passes (pairs_at ls a j) refl;
      }
    where
      away : (j : ℕ) → j < 8 → (j ≡ i → ⊥) → i < 8 → pairs_at ls a i ≡ true → (t : Bool) → pairs_at ls a j ≡ t → pairs_at ls a j ≡ false
      away j j< ne i< p true f = absurd (ne (w.once a j i j< i< f p))
      away j j< ne i< p false f = f

  -- a free entry, where the partner has none
  pub free : link_of ls a ≡ None → free_link ls ≡ Some i
      → (i < 8) × ((b : ℕ) → (b ≡ a → ⊥) → pairs_at ls b i ≡ false) × ((j : ℕ) → j < 8 → (j ≡ i → ⊥) → pairs_at ls a j ≡ false)
  unfolding link_of free_link
  free e f =
      let g = first_found (λ k. not (link_at ls k).present) 8 0 i f in (
        omega (arith, g.high),
        λ b ne. pair-free (link_at ls i) b (not-true _ g.passes),
        λ j j< ne. first-none (pairs_at ls a) 8 0 e j (omega arith) (omega arith),
      )
