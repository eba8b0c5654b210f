-- What the rows mean, kept: a sender is heard, a sender is forgotten, the rows of a slot are freed; and whether there is room.
-- Assumes nothing.
use Rattle.std.proofs.Common.{Option, Some, None}
use mathlib.Core.Path.{◌≡◌, refl, sym, ap, ◌∙◌}
use mathlib.Core.Logic.{inl, inr, ⊎_elim}
use mathlib.Core.Bool.{Bool, true, false, not}
use mathlib.Core.List.{List, [], ◌∷◌}
use Prim.Native.Nat.{ℕ, ◌+◌, ◌*◌, ◌<◌, ◌≤◌}
use native.Mathlib.Omega.{arith}
use lib.Dec.{eqb, ltb}
use lib.ListN.{length, get_or, set}
use lib.Seq.{get_or-set_same, get_or-set_other}
use borrow.Author.Tests.{eqb-true, eqb-false, eq-eqb, ne_eqb, lt-ltb, le-ltb}
use Rattle.std.specs.Prelude.{if◌then◌else◌}
use Rattle.octets.specs.Choice.{both}
use Rattle.history.proofs.Searches.{same_or, first-ext, first-only, first-nowhere, bit, count-ext, count_none, count-all, count_less}
use Rattle.history.proofs.Counters.{bound, bound-more, member, less, Distinct, no_one, one_more, member-less, member-other, distinct-less, length-less}
use Rattle.history.proofs.Freed.{freed-in, freed-out}
use Rattle.history.proofs.Rows.{In, slot_apart, row_is, in_use, place_of, there, Rows, Mine, row-changes}
use Rattle.board.specs.Rows.{lists, find_row, freed}
use Rattle.board.proofs.Found.{first_found, first-none, rows-there}
use Rattle.board.proofs.Halves.{slot-within}
use Rattle.board.proofs.Cleared.{freed-length}
use Rattle.network.specs.Opening.{floor_at, or_free, row_for}

-- ---- choosing by names

pub pick_same : {A : Type 0} (i : ℕ) (x y : A) → (if eqb i i then x else y) ≡ x
pick_same i x y = rw (eq-eqb i i refl)

pub pick-else : {A : Type 0} (i j : ℕ) (x y : A) → (j ≡ i → ⊥) → (if eqb i j then x else y) ≡ y
pick-else i j x y ne = rw (ne_eqb i j (λ e. ne (sym e)))

pub both-same : {A : Type 0} (i a : ℕ) (x y : A) → (if both (eqb i i) (eqb a a) then x else y) ≡ x
both-same i a x y = rw (eq-eqb i i refl, eq-eqb a a refl)

pub both-else : {A : Type 0} (i j a b : ℕ) (x y : A) → (j ≡ i → b ≡ a → ⊥) → (if both (eqb i j) (eqb a b) then x else y) ≡ y
both-else i j a b x y el = go (eqb i j) refl (eqb a b) refl
  where
    go : (t : Bool) → eqb i j ≡ t → (u : Bool) → eqb a b ≡ u → (if both t u then x else y) ≡ y
    go true e true f = absurd (el (sym (eqb-true i j e)) (sym (eqb-true a b f)))
    go true e false f = refl
    go false e u f = refl

module _ (m : ℕ) {al fl : List ℕ} {opened : ℕ → ℕ → List ℕ} {senders : ℕ → List ℕ} (w : Rows m al fl opened senders) (i : ℕ)
    (i< : i < 2) where
  pub row-there : (a : ℕ) → find_row al (i * m) m a ≡ place_of m al i a
  row-there a = rows-there al (i * m) m a (omega (arith, slot-within m i i<, w.addrs))

  module _ (a : ℕ) (az : a ≡ 0 → ⊥) where
    -- row r is the sender's, or is free and becomes so
    record Takes (r : ℕ) : Type 0 where
      pub within : In m i r
      pub was : Mine a (get_or al r 0)
      pub others : (q : ℕ) → In m i q → (q ≡ r → ⊥) → get_or al q 0 ≡ a → ⊥
      pub uses : in_use al r ≡ member a (senders i)

    own_row : (r : ℕ) → place_of m al i a ≡ Some r → Takes r
    own_row r e =
        let g = first_found (row_is al a) m (i * m) r e in
        let at-r : get_or al r 0 ≡ a = eqb-true _ _ g.passes in
        let nz : get_or al r 0 ≡ 0 → ⊥ = λ u. az (sym at-r ∙ u) in
        record {
          within = (g.low, g.high);
          was = inl at-r;
          others = λ q inq ne f. ne (sym (w.once i i< r q (g.low, g.high) inq (at-r ∙ sym f) nz));
          uses = ap not (ne_eqb _ 0 nz) ∙ ap there (sym e) ∙ w.known i a i< az;
        }

    free-row : (r : ℕ) → place_of m al i a ≡ None → place_of m al i 0 ≡ Some r → Takes r
    free-row r e f =
        let g = first_found (row_is al 0) m (i * m) r f in
        record {
          within = (g.low, g.high);
          was = inr (eqb-true _ _ g.passes);
          others = λ q inq ne u. eqb-false _ a (first-none (row_is al a) m (i * m) e q inq.0 inq.1) u;
          uses = ap not g.passes ∙ ap there (sym e) ∙ w.known i a i< az;
        }

    row-for : row_for m (lists al fl) i a ≡ or_free m (lists al fl) i (place_of m al i a)
    unfolding row_for
    row-for = ap (or_free m (lists al fl) i) (row-there a)

    takes : (r : ℕ) → row_for m (lists al fl) i a ≡ Some r → Takes r
    takes r e = go (place_of m al i a) refl (sym row-for ∙ e)
      where
        go : (p : Option ℕ) → place_of m al i a ≡ p → or_free m (lists al fl) i p ≡ Some r → Takes r
        go (Some q) f g = own_row r (f ∙ g)
        go None f g = free-row r f (sym (row-there 0) ∙ g)

    -- "There is room if the sender was opened .. or if fewer .. were."
    pub room-told : there (row_for m (lists al fl) i a) ≡ (if member a (senders i) then true else ltb (length (senders i)) m)
    room-told =
        ap there row-for ∙ go (place_of m al i a) refl
        ∙ ap (λ (t : Bool). if t then true else ltb (length (senders i)) m) (w.known i a i< az)
      where
        free : (p : Option ℕ) → place_of m al i 0 ≡ p → there p ≡ ltb (length (senders i)) m
        free (Some r) e =
            let g = first_found (row_is al 0) m (i * m) r e in
            sym (lt-ltb (length (senders i)) m
            (omega (arith, w.used i i<, count_less (in_use al) r m (i * m) g.low g.high (ap not g.passes))))
        free None e =
            sym (le-ltb (length (senders i)) m
            (omega (arith, w.used i i<, count-all (in_use al) m (i * m) (λ k c d. ap not (first-none (row_is al 0) m (i * m) e k c d)))))

        go : (p : Option ℕ) → place_of m al i a ≡ p
            → there (or_free m (lists al fl) i p) ≡ (if there p then true else ltb (length (senders i)) m)
        go (Some q) f = refl
        go None f = ap there (row-there 0) ∙ free (place_of m al i 0) refl

    -- ---- heard

    pub hear-rows : (r n : ℕ) → row_for m (lists al fl) i a ≡ Some r → bound (opened i a) ≤ n
        → Rows m (set al r a) (set fl r (n + 1)) (λ j b. if both (eqb i j) (eqb a b) then n ∷ opened j b else opened j b)
        (λ j. if eqb i j then a ∷ less a (senders j) else senders j)
    hear-rows r n e h =
        row-changes m w i r a a (n + 1) i< t.within az t.was (inl refl) t.others opened' senders'
        (λ j b el. both-else i j a b (n ∷ opened j b) (opened j b) el)
        (ap (floor_at (set fl r (n + 1))) place ∙ get_or-set_same fl r (n + 1) 0 (omega (arith, in-floors)) ∙ sym (bound-more n (opened i a) h)
        ∙ ap bound (sym (both-same i a (n ∷ opened i a) (opened i a))))
        elsewhere
        (ap there place ∙ sym (ap (member a) here ∙ pick_same a true (member a (less a (senders i)))))
        (λ j ne. ap length (pick-else i j (a ∷ less a (senders j)) (senders j) ne))
        (omega (arith, ap length here, length-less a (senders i) (w.distinct i i<), ap bit t.uses, ap bit now-used))
        alone
      where
        t : Takes r
        t = takes r e

        opened' : ℕ → ℕ → List ℕ
        opened' = λ j b. if both (eqb i j) (eqb a b) then n ∷ opened j b else opened j b

        senders' : ℕ → List ℕ
        senders' = λ j. if eqb i j then a ∷ less a (senders j) else senders j

        here : senders' i ≡ a ∷ less a (senders i)
        here = pick_same i (a ∷ less a (senders i)) (senders i)

        in-floors : r < length fl
        in-floors = omega (arith, slot-within m i i<, w.floors, t.within)

        now-is : get_or (set al r a) r 0 ≡ a
        now-is = get_or-set_same al r a 0 (omega (arith, slot-within m i i<, w.addrs, t.within))

        now-used : in_use (set al r a) r ≡ true
        now-used = ap (λ (y : ℕ). not (eqb y 0)) now-is ∙ ap not (ne_eqb a 0 az)

        place : place_of m (set al r a) i a ≡ Some r
        place =
            first-only (row_is (set al r a) a) (i * m) m r t.within.0 t.within.1 (eq-eqb _ a now-is)
            (λ k c d f. ⊎_elim (λ (g : k ≡ r). g)
            (λ (g : k ≡ r → ⊥). absurd (t.others k (c, d) g (sym (get_or-set_other al r k a 0 g) ∙ eqb-true _ _ f))) (same_or k r))

        elsewhere : (j b : ℕ) → (j ≡ i → b ≡ a → ⊥) → member b (senders' j) ≡ member b (senders j)
        elsewhere j b el = go (eqb i j) refl
          where
            go : (u : Bool) → eqb i j ≡ u → member b (if u then a ∷ less a (senders j) else senders j) ≡ member b (senders j)
            go true f =
                let ne : b ≡ a → ⊥ = el (sym (eqb-true i j f)) in
                pick-else a b true (member b (less a (senders j))) ne ∙ member-other a b (senders j) (λ g. ne (sym g))
            go false f = refl

        alone : (j : ℕ) → j < 2 → Distinct (senders' j)
        alone j j< = go (eqb i j)
          where
            go : (u : Bool) → Distinct (if u then a ∷ less a (senders j) else senders j)
            go true = one_more (member-less a (senders j)) (distinct-less a (senders j) (w.distinct j j<))
            go false = w.distinct j j<

    -- ---- forgotten

    pub lose-rows : (r : ℕ) → place_of m al i a ≡ Some r
        → Rows m (set al r 0) (set fl r 0) (λ j b. if both (eqb i j) (eqb a b) then [] else opened j b)
        (λ j. if eqb i j then less a (senders j) else senders j)
    lose-rows r e =
        row-changes m w i r a 0 0 i< t.within az t.was (inr refl) t.others opened' senders'
        (λ j b el. both-else i j a b [] (opened j b) el)
        (ap (floor_at (set fl r 0)) place ∙ ap bound (sym (both-same i a [] (opened i a))))
        elsewhere
        (ap there place ∙ sym (ap (member a) here ∙ member-less a (senders i)))
        (λ j ne. ap length (pick-else i j (less a (senders j)) (senders j) ne))
        (omega (arith, ap length here, length-less a (senders i) (w.distinct i i<), ap bit t.uses, ap bit now-free))
        alone
      where
        t : Takes r
        t = own_row r e

        opened' : ℕ → ℕ → List ℕ
        opened' = λ j b. if both (eqb i j) (eqb a b) then [] else opened j b

        senders' : ℕ → List ℕ
        senders' = λ j. if eqb i j then less a (senders j) else senders j

        here : senders' i ≡ less a (senders i)
        here = pick_same i (less a (senders i)) (senders i)

        now-is : get_or (set al r 0) r 0 ≡ 0
        now-is = get_or-set_same al r 0 0 (omega (arith, slot-within m i i<, w.addrs, t.within))

        now-free : in_use (set al r 0) r ≡ false
        now-free = ap (λ (y : ℕ). not (eqb y 0)) now-is

        place : place_of m (set al r 0) i a ≡ None
        place =
            first-nowhere (row_is (set al r 0) a) m (i * m)
            (λ k c d. ⊎_elim (λ (g : k ≡ r). rw g (ap (λ (y : ℕ). eqb y a) now-is ∙ ne_eqb 0 a (λ u. az (sym u))))
            (λ (g : k ≡ r → ⊥). ne_eqb _ a (λ f. t.others k (c, d) g (sym (get_or-set_other al r k 0 0 g) ∙ f))) (same_or k r))

        elsewhere : (j b : ℕ) → (j ≡ i → b ≡ a → ⊥) → member b (senders' j) ≡ member b (senders j)
        elsewhere j b el = go (eqb i j) refl
          where
            go : (u : Bool) → eqb i j ≡ u → member b (if u then less a (senders j) else senders j) ≡ member b (senders j)
            go true f = member-other a b (senders j) (λ g. el (sym (eqb-true i j f)) (sym g))
            go false f = refl

        alone : (j : ℕ) → j < 2 → Distinct (senders' j)
        alone j j< = go (eqb i j)
          where
            go : (u : Bool) → Distinct (if u then less a (senders j) else senders j)
            go true = distinct-less a (senders j) (w.distinct j j<)
            go false = w.distinct j j<

  -- ---- the rows of the slot are freed

  pub clear-rows : Rows m (freed al (i * m) m) (freed fl (i * m) m) (λ j b. if eqb i j then [] else opened j b)
      (λ j. if eqb i j then [] else senders j)
  clear-rows =
      record {
        addrs = freed-length al (i * m) m in-addrs ∙ w.addrs;
        floors = freed-length fl (i * m) m in-floors ∙ w.floors;
        once = λ j j< r q inr inq e nz. by j (λ (f : j ≡ i). absurd (nz (zeros r (rw (← f) inr))))
            (λ ne. w.once j j< r q inr inq (sym (kept j j< ne r inr) ∙ e ∙ kept j j< ne q inq) (λ u. nz (kept j j< ne r inr ∙ u)));
        floor = λ j b j< bz. by j (λ (f : j ≡ i). rw f (ap (floor_at gl) (nowhere b bz) ∙ sym (ap bound (pick_same i [] (opened i b)))))
            (λ ne. ap (floor_at gl) (places j j< ne b) ∙ floors j j< ne b ∙ w.floor j b j< bz
            ∙ ap bound (sym (pick-else i j [] (opened j b) ne)));
        known = λ j b j< bz. by j (λ (f : j ≡ i). rw f (ap there (nowhere b bz) ∙ sym (ap (member b) (pick_same i [] (senders i)))))
            (λ ne. ap there (places j j< ne b) ∙ w.known j b j< bz ∙ ap (member b) (sym (pick-else i j [] (senders j) ne)));
        used = λ j j<. by j
            (λ (f : j ≡ i). rw f (count_none (in_use bl) m (i * m) (λ k c d. ap (λ (y : ℕ). not (eqb y 0)) (zeros k (c, d)))
            ∙ sym (ap length (pick_same i [] (senders i)))))
            (λ ne. count-ext (in_use bl) (in_use al) m (j * m) (λ k c d. ap (λ (y : ℕ). not (eqb y 0)) (kept j j< ne k (c, d))) ∙ w.used j j<
            ∙ ap length (sym (pick-else i j [] (senders j) ne)));
        distinct = λ j j<. alone j j< (eqb i j);
      }
    where
      bl : List ℕ
      bl = freed al (i * m) m

      gl : List ℕ
      gl = freed fl (i * m) m

      in-addrs : i * m + m ≤ length al
      in-addrs = omega (arith, slot-within m i i<, w.addrs)

      in-floors : i * m + m ≤ length fl
      in-floors = omega (arith, slot-within m i i<, w.floors)

      by : {P : Type 0} (j : ℕ) → (j ≡ i → P) → ((j ≡ i → ⊥) → P) → P
      by j f g = ⊎_elim f g (same_or j i)

      zeros : (k : ℕ) → In m i k → get_or (freed al (i * m) m) k 0 ≡ 0
      zeros k ink = freed-in al (i * m) m in-addrs k ink.0 ink.1

      out : (j : ℕ) → j < 2 → (j ≡ i → ⊥) → (k : ℕ) → In m j k → i * m ≤ k → k < i * m + m → ⊥
      out j j< ne k ink c d = ne (slot_apart m j i k j< i< ink (c, d))

      kept : (j : ℕ) → j < 2 → (j ≡ i → ⊥) → (k : ℕ) → In m j k → get_or (freed al (i * m) m) k 0 ≡ get_or al k 0
      kept j j< ne k ink = freed-out al (i * m) m in-addrs k (out j j< ne k ink)

      nowhere : (b : ℕ) → (b ≡ 0 → ⊥) → place_of m (freed al (i * m) m) i b ≡ None
      nowhere b bz =
          first-nowhere (row_is (freed al (i * m) m) b) m (i * m)
          (λ k c d. ap (λ (y : ℕ). eqb y b) (zeros k (c, d)) ∙ ne_eqb 0 b (λ u. bz (sym u)))

      places : (j : ℕ) → j < 2 → (j ≡ i → ⊥) → (b : ℕ) → place_of m (freed al (i * m) m) j b ≡ place_of m al j b
      places j j< ne b =
          first-ext (row_is (freed al (i * m) m) b) (row_is al b) m (j * m) (λ k c d. ap (λ (y : ℕ). eqb y b) (kept j j< ne k (c, d)))

      floors : (j : ℕ) → j < 2 → (j ≡ i → ⊥) → (b : ℕ) → floor_at (freed fl (i * m) m) (place_of m al j b) ≡ floor_at fl (place_of m al j b)
      floors j j< ne b = go (place_of m al j b) refl
        where
          go : (p : Option ℕ) → place_of m al j b ≡ p → floor_at (freed fl (i * m) m) p ≡ floor_at fl p
          go (Some q) e =
              let g = first_found (row_is al b) m (j * m) q e in
              freed-out fl (i * m) m in-floors q (out j j< ne q (g.low, g.high))
          go None e = refl

      alone : (j : ℕ) → j < 2 → (u : Bool) → Distinct (if u then [] else senders j)
      alone j j< true = no_one
      alone j j< false = w.distinct j j<
