-- What the rows mean: a sender's row is there just if the sender was opened under its slot's key and not forgotten since, and
-- its floor is the least counter above all that were opened. No frame, no key and no call is spoken of here.
-- Assumes nothing.
use Rattle.std.proofs.Common.{Option, Some, None}
use mathlib.Core.Path.{◌≡◌, refl, sym, ap, ◌∙◌}
use mathlib.Core.Logic.{◌⊎◌, ⊎_elim}
use mathlib.Core.Bool.{Bool, true, false, not}
use mathlib.Core.List.{List, []}
use Prim.Native.Nat.{ℕ, zero, suc, ◌+◌, ◌*◌, ◌<◌, ◌≤◌}
use native.Mathlib.Omega.{arith}
use lib.Dec.{eqb}
use lib.ListN.{length, get_or, set, length-set, replicate, length-replicate, get_or-replicate}
use lib.Seq.{get_or-set_same, get_or-set_other}
use borrow.Author.Tests.{eqb-true, ne_eqb}
use Rattle.history.proofs.Searches.{same_or, first-ext, first-nowhere, bit, count, count-ext, count_none, count-change}
use Rattle.history.proofs.Counters.{bound, member, Distinct, no_one}
use Rattle.board.specs.Places.{first_at}
use Rattle.board.proofs.Found.{first_found}
use Rattle.board.proofs.Halves.{slot-within}
use Rattle.network.specs.Opening.{floor_at}

-- ---- the rows of a slot

abbrev pub In : ℕ → ℕ → ℕ → Type 0
In m i r = (i * m ≤ r) × (r < i * m + m)

pub slot_apart : (m i j r : ℕ) → i < 2 → j < 2 → In m i r → In m j r → i ≡ j
slot_apart m zero zero r a b c d = refl
slot_apart m zero (suc zero) r a b c d = absurd (omega arith)
slot_apart m (suc zero) zero r a b c d = absurd (omega arith)
slot_apart m (suc zero) (suc zero) r a b c d = refl
slot_apart m zero (suc (suc j)) r a b c d = absurd (omega arith)
slot_apart m (suc zero) (suc (suc j)) r a b c d = absurd (omega arith)
slot_apart m (suc (suc i)) j r a b c d = absurd (omega arith)

abbrev pub row_is : List ℕ → ℕ → ℕ → Bool
row_is al a k = eqb (get_or al k 0) a

abbrev pub in_use : List ℕ → ℕ → Bool
in_use al k = not (eqb (get_or al k 0) 0)

abbrev pub place_of : ℕ → List ℕ → ℕ → ℕ → Option ℕ
place_of m al i a = first_at (row_is al a) (i * m) m

abbrev pub there : Option ℕ → Bool
there (Some r) = true
there None = false

pub record Rows (m : ℕ) (al fl : List ℕ) (opened : ℕ → ℕ → List ℕ) (senders : ℕ → List ℕ) : Type 0 where
  pub addrs : length al ≡ 2 * m
  pub floors : length fl ≡ 2 * m
  pub once : (i : ℕ) → i < 2 → (r q : ℕ) → In m i r → In m i q → get_or al r 0 ≡ get_or al q 0 → (get_or al r 0 ≡ 0 → ⊥) → r ≡ q
  pub floor : (i a : ℕ) → i < 2 → (a ≡ 0 → ⊥) → floor_at fl (place_of m al i a) ≡ bound (opened i a)
  pub known : (i a : ℕ) → i < 2 → (a ≡ 0 → ⊥) → there (place_of m al i a) ≡ member a (senders i)
  pub used : (i : ℕ) → i < 2 → count (in_use al) (i * m) m ≡ length (senders i)
  pub distinct : (i : ℕ) → i < 2 → Distinct (senders i)

-- what is told of the senders may be said in other words
pub rows_ext : {m : ℕ} {al fl : List ℕ} {opened opened' : ℕ → ℕ → List ℕ} {senders senders' : ℕ → List ℕ} → Rows m al fl opened senders
    → ((i a : ℕ) → opened i a ≡ opened' i a) → ((i : ℕ) → senders i ≡ senders' i) → Rows m al fl opened' senders'
rows_ext w p q =
    record {
      addrs = w.addrs;
      floors = w.floors;
      once = w.once;
      floor = λ i a h ne. w.floor i a h ne ∙ ap bound (p i a);
      known = λ i a h ne. w.known i a h ne ∙ ap (member a) (q i);
      used = λ i h. w.used i h ∙ ap length (q i);
      distinct = λ i h. rw (← q i) (w.distinct i h);
    }

-- ---- fresh lists

abbrev pub zeroes : ℕ → List ℕ
zeroes n = replicate n 0

pub rows-fresh : (m : ℕ) → Rows m (zeroes (2 * m)) (zeroes (2 * m)) (λ i a. []) (λ i. [])
rows-fresh m =
    record {
      addrs = length-replicate {A = ℕ} (2 * m) 0;
      floors = length-replicate {A = ℕ} (2 * m) 0;
      once = λ i h r q a b e ne. absurd (ne (zeros i r h a));
      floor = λ i a h ne. ap (floor_at (zeroes (2 * m))) (nowhere i a h ne);
      known = λ i a h ne. ap there (nowhere i a h ne);
      used = λ i h. count_none (in_use (zeroes (2 * m))) m (i * m) (λ k a b. rw (zeros i k h (a, b)));
      distinct = λ i h. no_one;
    }
  where
    zeros : (i r : ℕ) → i < 2 → In m i r → get_or (zeroes (2 * m)) r 0 ≡ 0
    zeros i r h a = get_or-replicate {A = ℕ} (2 * m) r 0 0 (omega (arith, slot-within m i h, a))

    nowhere : (i a : ℕ) → i < 2 → (a ≡ 0 → ⊥) → place_of m (zeroes (2 * m)) i a ≡ None
    nowhere i a h ne =
        first-nowhere (row_is (zeroes (2 * m)) a) m (i * m)
        (λ k c d. ap (λ (x : ℕ). eqb x a) (zeros i k h (c, d)) ∙ ne_eqb 0 a (λ e. ne (sym e)))

-- ---- one row changes: it was free or the sender's, and is so again

abbrev pub Mine : ℕ → ℕ → Type 0
Mine a v = (v ≡ a) ⊎ (v ≡ 0)

not-mine : (a b v : ℕ) → Mine a v → (b ≡ a → ⊥) → (b ≡ 0 → ⊥) → v ≡ b → ⊥
not-mine a b v w na nz e = ⊎_elim (λ (p : v ≡ a). na (sym e ∙ p)) (λ (p : v ≡ 0). nz (sym e ∙ p)) w

module _ (m : ℕ) {al fl : List ℕ} {opened : ℕ → ℕ → List ℕ} {senders : ℕ → List ℕ} (w : Rows m al fl opened senders)
    (i r a v x : ℕ) (i< : i < 2) (inr : In m i r) (az : a ≡ 0 → ⊥) (was : Mine a (get_or al r 0)) (now : Mine a v)
    (others : (q : ℕ) → In m i q → (q ≡ r → ⊥) → get_or al q 0 ≡ a → ⊥) where
  abbrev bl : List ℕ
  bl = set al r v

  abbrev gl : List ℕ
  gl = set fl r x

  now-is : get_or bl r 0 ≡ v
  now-is = get_or-set_same al r v 0 (omega (arith, slot-within m i i<, w.addrs, inr))

  kept : (k : ℕ) → (k ≡ r → ⊥) → get_or bl k 0 ≡ get_or al k 0
  kept k ne = get_or-set_other al r k v 0 ne

  -- another sender, or another slot
  abbrev Else : ℕ → ℕ → Type 0
  Else j b = j ≡ i → b ≡ a → ⊥

  test-kept : (j b k : ℕ) → j < 2 → (b ≡ 0 → ⊥) → Else j b → In m j k → row_is bl b k ≡ row_is al b k
  test-kept j b k j< bz el ink = ⊎_elim here (λ ne. ap (λ (y : ℕ). eqb y b) (kept k ne)) (same_or k r)
    where
      at-r : j ≡ i → row_is bl b r ≡ row_is al b r
      at-r e =
          ap (λ (y : ℕ). eqb y b) now-is ∙ ne_eqb v b (not-mine a b v now (el e) bz)
          ∙ sym (ne_eqb (get_or al r 0) b (not-mine a b (get_or al r 0) was (el e) bz))

      here : k ≡ r → row_is bl b k ≡ row_is al b k
      here e = rw e (at-r (slot_apart m j i r j< i< (omega (arith, e, ink), omega (arith, e, ink)) inr))

  place_kept : (j b : ℕ) → j < 2 → (b ≡ 0 → ⊥) → Else j b → place_of m bl j b ≡ place_of m al j b
  place_kept j b j< bz el = first-ext (row_is bl b) (row_is al b) m (j * m) (λ k c d. test-kept j b k j< bz el (c, d))

  floor-kept : (j b : ℕ) → j < 2 → (b ≡ 0 → ⊥) → Else j b → floor_at gl (place_of m al j b) ≡ floor_at fl (place_of m al j b)
  floor-kept j b j< bz el = go (place_of m al j b) refl
    where
      away : (q : ℕ) → place_of m al j b ≡ Some q → q ≡ r → ⊥
      away q e f =
          let g = first_found (row_is al b) m (j * m) q e in
          let u : get_or al r 0 ≡ b = ap (λ (k : ℕ). get_or al k 0) (sym f) ∙ eqb-true _ _ g.passes in
          not-mine a b (get_or al r 0) was (el (slot_apart m j i r j< i< (omega (arith, f, g.low), omega (arith, f, g.high)) inr)) bz u

      go : (p : Option ℕ) → place_of m al j b ≡ p → floor_at gl p ≡ floor_at fl p
      go (Some q) e = get_or-set_other fl r q x 0 (away q e)
      go None e = refl

  once-kept : (j : ℕ) → j < 2 → (s q : ℕ) → In m j s → In m j q → get_or bl s 0 ≡ get_or bl q 0 → (get_or bl s 0 ≡ 0 → ⊥) → s ≡ q
  once-kept j j< s q ins inq e nz = ⊎_elim (λ p. first p) (λ p. second p) (same_or s r)
    where
      hit : (k : ℕ) → In m j r → In m j k → (k ≡ r → ⊥) → get_or al k 0 ≡ v → (v ≡ 0 → ⊥) → ⊥
      hit k inr' ink ne f vz =
          let ij = slot_apart m j i r j< i< inr' inr in
          let ik : In m i k = rw (← ij) ink in
          ⊎_elim (λ (p : v ≡ a). others k ik ne (f ∙ p)) (λ (p : v ≡ 0). vz p) now

      first : s ≡ r → s ≡ q
      first p = ⊎_elim (λ (u : q ≡ r). p ∙ sym u) (λ (u : q ≡ r → ⊥). absurd (apart u)) (same_or q r)
        where
          at-s : get_or bl s 0 ≡ v
          at-s = rw p now-is

          apart : (q ≡ r → ⊥) → ⊥
          apart u =
              hit q (omega (arith, p, ins), omega (arith, p, ins)) inq u (sym (kept q u) ∙ sym e ∙ at-s) (λ n. nz (at-s ∙ n))

      second : (s ≡ r → ⊥) → s ≡ q
      second p = ⊎_elim (λ (u : q ≡ r). absurd (apart u)) (λ (u : q ≡ r → ⊥). neither u) (same_or q r)
        where
          apart : q ≡ r → ⊥
          apart u =
              let at-q : get_or bl q 0 ≡ v = rw u now-is in
              hit s (omega (arith, u, inq), omega (arith, u, inq)) ins p (sym (kept s p) ∙ e ∙ at-q) (λ n. nz (e ∙ at-q ∙ n))

          neither : (q ≡ r → ⊥) → s ≡ q
          neither u = w.once j j< s q ins inq (sym (kept s p) ∙ e ∙ kept q u) (λ n. nz (kept s p ∙ n))

  use_kept : (j : ℕ) → j < 2 → (j ≡ i → ⊥) → count (in_use bl) (j * m) m ≡ count (in_use al) (j * m) m
  use_kept j j< ne =
      count-ext (in_use bl) (in_use al) m (j * m)
      (λ k c d. ap (λ (y : ℕ). not (eqb y 0)) (kept k (λ e. ne (slot_apart m j i r j< i< (omega arith, omega arith) inr))))

  use-here : count (in_use bl) (i * m) m + bit (in_use al r) ≡ count (in_use al) (i * m) m + bit (in_use bl r)
  use-here =
      count-change (in_use al) (in_use bl) r m (i * m) inr.0 inr.1
      (λ k c d ne. ap (λ (y : ℕ). not (eqb y 0)) (sym (kept k ne)))

  pub row-changes : (opened' : ℕ → ℕ → List ℕ) (senders' : ℕ → List ℕ) → ((j b : ℕ) → Else j b → opened' j b ≡ opened j b)
      → floor_at gl (place_of m bl i a) ≡ bound (opened' i a)
      → ((j b : ℕ) → Else j b → member b (senders' j) ≡ member b (senders j))
      → there (place_of m bl i a) ≡ member a (senders' i)
      → ((j : ℕ) → (j ≡ i → ⊥) → length (senders' j) ≡ length (senders j))
      → length (senders' i) + bit (in_use al r) ≡ length (senders i) + bit (in_use bl r)
      → ((j : ℕ) → j < 2 → Distinct (senders' j)) → Rows m bl gl opened' senders'
  row-changes opened' senders' eo fo em fm el fl' di =
      record {
        addrs = length-set al r v ∙ w.addrs;
        floors = length-set fl r x ∙ w.floors;
        once = once-kept;
        floor = λ j b j< bz. by j b (λ j b. floor_at gl (place_of m bl j b) ≡ bound (opened' j b)) fo
            (λ el. ap (floor_at gl) (place_kept j b j< bz el) ∙ floor-kept j b j< bz el ∙ w.floor j b j< bz ∙ ap bound (sym (eo j b el)));
        known = λ j b j< bz. by j b (λ j b. there (place_of m bl j b) ≡ member b (senders' j)) fm
            (λ el. ap there (place_kept j b j< bz el) ∙ w.known j b j< bz ∙ sym (em j b el));
        used = λ j j<. ⊎_elim (λ (e : j ≡ i). rw e (omega (arith, use-here, fl', w.used i i<)))
            (λ (e : j ≡ i → ⊥). use_kept j j< e ∙ w.used j j< ∙ sym (el j e)) (same_or j i);
        distinct = di;
      }
    where
      by : (j b : ℕ) (P : ℕ → ℕ → Type 0) → P i a → (Else j b → P j b) → P j b
      by j b P p f =
          ⊎_elim (λ (e : j ≡ i). ⊎_elim (λ (g : b ≡ a). rw (e, g) p) (λ (g : b ≡ a → ⊥). f (λ _. g)) (same_or b a))
          (λ (e : j ≡ i → ⊥). f (λ q _. e q)) (same_or j i)
