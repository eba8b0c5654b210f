-- Laws of the first place that passes a test: what an answer tells, and that std's `position` finds it.
-- Assumes nothing.
use Rattle.std.proofs.Common.{Some, None, position}
use mathlib.Core.Path.{◌≡◌, refl, sym, ap, ◌∙◌}
use mathlib.Core.Logic.{⊎_elim}
use mathlib.Core.Bool.{Bool, true, false, not}
use mathlib.Core.List.{List, [], ◌∷◌}
use Prim.Native.Nat.{ℕ, zero, suc, ◌+◌, ◌-◌, ◌<◌, ◌≤◌, min}
use native.Mathlib.Nat.{eq-or-lt_of_le}
use native.Mathlib.Omega.{arith}
use lib.Dec.{eqb}
use lib.ListN.{length, get_or, take, drop}
use Rattle.std.specs.Prelude.{if◌then◌else◌}
use Rattle.std.specs.Option.{option_map}
use Rattle.std.specs.List.{position_from}
use Rattle.std.proofs.lemmas.Iterator.Adapters.{position_from-zero}
use Rattle.std.proofs.lemmas.List.{length-take, length-drop, get_or-take, get_or-drop}
use Rattle.board.specs.Places.{first_at}
use Rattle.board.specs.declared.Slot.{Slot}
use Rattle.board.specs.declared.Link.{Link}
use Rattle.board.specs.Rows.{find_row}
use Rattle.board.specs.State.{slot_at, link_at, carries, pairs}
use Rattle.board.specs.Requests.{slot_of, link_of, free_link}

module _ (p : ℕ → Bool) where
  -- ---- what an answer tells

  pub record FoundAt (i n r : ℕ) : Type 0 where
    pub passes : p r ≡ true
    pub low : i ≤ r
    pub high : r < i + n
    pub before : (k : ℕ) → i ≤ k → k < r → p k ≡ false

  pub first_found : (n i r : ℕ) → first_at p i n ≡ Some r → FoundAt i n r
  unfolding first_at
  first_found zero i r e = let z : ◌≡◌ {A = ℕ} 0 1 = cc in absurd (omega arith)
  first_found (suc n) i r e = go (first_found n (i + 1) r) (p i) refl e
    where
      here : p i ≡ true → i ≡ r → FoundAt i (suc n) r
      here t q =
          record {
            passes = rw (← q) t;
            low = omega arith;
            high = omega arith;
            before = λ k h l. absurd (omega arith);
          }

      later : p i ≡ false → FoundAt (i + 1) n r → FoundAt i (suc n) r
      later t f =
          record {
            passes = f.passes;
            low = let a = f.low in omega arith;
            high = let a = f.high in omega arith;
            before = λ k h l. ⊎_elim (λ (q : i ≡ k). rw (← q) t) (λ (q : i < k). f.before k (omega arith) l) (eq-or-lt_of_le h);
          }

      go : (first_at p (i + 1) n ≡ Some r → FoundAt (i + 1) n r) → (t : Bool) → p i ≡ t
          → (if t then Some i else first_at p (i + 1) n) ≡ Some r → FoundAt i (suc n) r
      go ih true t q = here t (cc)
      go ih false t q = later t (ih q)

  pub first-none : (n i : ℕ) → first_at p i n ≡ None → (k : ℕ) → i ≤ k → k < i + n → p k ≡ false
  unfolding first_at
  first-none zero i e k h l = absurd (omega arith)
  first-none (suc n) i e k h l = go (first-none n (i + 1)) (p i) refl e
    where
      go : (first_at p (i + 1) n ≡ None → (k : ℕ) → i + 1 ≤ k → k < i + 1 + n → p k ≡ false) → (t : Bool) → p i ≡ t
          → (if t then Some i else first_at p (i + 1) n) ≡ None → p k ≡ false
      go ih true t q = let z : ◌≡◌ {A = ℕ} 0 1 = cc in absurd (omega arith)
      go ih false t q =
          ⊎_elim (λ (s : i ≡ k). rw (← s) t) (λ (s : i < k). ih q k (omega arith) (omega arith)) (eq-or-lt_of_le h)

-- ---- what std's `position` finds

module _ {X : Type 0} (t : X → Bool) (d : X) where
  abbrev at : List X → ℕ → Bool
  at xs k = t (get_or xs k d)

  -- in a list whose first element stands at place i, where q tells of the places
  from-place : (q : ℕ → Bool) (xs : List X) (i : ℕ) → ((j k : ℕ) → j ≡ i + k → k < length xs → q j ≡ at xs k)
      → position_from t i xs ≡ first_at q i (length xs)
  unfolding first_at
  from-place q [] i h = refl
  from-place q (x ∷ xs) i h =
      let e : q i ≡ t x = h i 0 (omega arith) (omega arith) in
      let rest = from-place q xs (i + 1) (λ j k p b. h j (suc k) (omega arith) (omega arith)) in
      rw e (ap (λ o. if t x then Some i else o) rest)

  moved : (xs : List X) (i j n : ℕ) → n ≡ i + j → option_map (λ r. i + r) (position_from t j xs) ≡ position_from t n xs
  moved [] i j n p = refl
  moved (x ∷ xs) i j n p = go (t x) (moved xs i (j + 1) (n + 1) (omega arith))
    where
      go : (b : Bool) → option_map (λ r. i + r) (position_from t (j + 1) xs) ≡ position_from t (n + 1) xs
          → option_map (λ r. i + r) (if b then Some j else position_from t (j + 1) xs)
          ≡ (if b then Some n else position_from t (n + 1) xs)
      go true e = ap (λ (r : ℕ). Some r) (sym p)
      go false e = e

  -- in a whole list, of n elements
  pub first-position : (xs : List X) (n : ℕ) → length xs ≡ n → position t xs ≡ first_at (λ k. t (get_or xs k d)) 0 n
  first-position xs n e =
      let same : (j k : ℕ) → j ≡ 0 + k → k < length xs → at xs j ≡ at xs k = λ j k p b. let q : j ≡ k = omega arith in rw q refl in
      position_from-zero t xs ∙ from-place (at xs) xs 0 same ∙ ap (first_at (at xs) 0) e

  -- in the n elements of a list from place i on, so far as it has them
  pub first-within : (xs : List X) (i n : ℕ)
      → option_map (λ r. i + r) (position t (take n (drop i xs))) ≡ first_at (λ k. t (get_or xs k d)) i (min n (length xs - i))
  first-within xs i n =
      let part = take n (drop i xs) in
      let e : length part ≡ min n (length xs - i) = length-take n (drop i xs) ∙ ap (min n) (length-drop i xs) in
      let same : (j k : ℕ) → j ≡ i + k → k < length part → at xs j ≡ at part k =
      λ j k p b.
      let within : k < n = omega (arith, e) in
      let q : get_or part k d ≡ get_or xs (i + k) d = get_or-take n (drop i xs) k d within ∙ get_or-drop i xs k d in
      rw (p, q) refl in
      ap (option_map (λ r. i + r)) (position_from-zero t part) ∙ moved part i 0 i (omega arith)
      ∙ from-place (at xs) part i same ∙ ap (first_at (at xs) i) e

-- rows that the list has
pub rows-there : (al : List ℕ) (i n a : ℕ) → i + n ≤ length al → find_row al i n a ≡ first_at (λ r. eqb (get_or al r 0) a) i n
unfolding find_row
rows-there al i n a h = let e : min n (length al - i) ≡ n = omega arith in ap (first_at (λ r. eqb (get_or al r 0) a) i) e

-- a row, a slot, or a link entry, that was found is one of those there are
pub row-place : (al : List ℕ) (i n a r : ℕ) → find_row al i n a ≡ Some r → r < length al
unfolding find_row
row-place al i n a r e =
    let w = first_found (λ k. eqb (get_or al k 0) a) (min n (length al - i)) i r e in
    let low = w.low in
    let high = w.high in
    omega arith

pub slot-place : (ss : List Slot) (n i : ℕ) → slot_of ss n ≡ Some i → i < 2
unfolding slot_of
slot-place ss n i e = (first_found (λ k. carries (slot_at ss k) n) 2 0 i e).high

pub link-place : (ls : List Link) (a i : ℕ) → link_of ls a ≡ Some i → i < 8
unfolding link_of
link-place ls a i e = (first_found (λ k. pairs (link_at ls k) a) 8 0 i e).high

pub free-place : (ls : List Link) (i : ℕ) → free_link ls ≡ Some i → i < 8
unfolding free_link
free-place ls i e = (first_found (λ k. not (link_at ls k).present) 8 0 i e).high
