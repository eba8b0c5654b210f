-- Laws of the fields of a line: a turn of each loop that looks for tabs, and its end.
-- Assumes nothing.
use mathlib.Core.Path.{◌≡◌, refl, sym, ap, ◌∙◌}
use mathlib.Core.Bool.{Bool, true, false}
use mathlib.Core.List.{List, [], ◌∷◌}
use Prim.Native.Nat.{ℕ, zero, suc, ◌+◌, ◌-◌, ◌≤◌, ◌<◌}
use native.Mathlib.Nat.{not-suc-le-zero}
use native.Mathlib.Omega.{arith}
use lib.Dec.{eqb, ltb}
use lib.ListN.{length, take, drop, drop_of_length-le, length-drop, length-take}
use lib.Seq.{drop-drop}
use Rattle.std.specs.Prelude.{if◌then◌else◌}
use Rattle.std.proofs.Common.{count_by, position, unwrap_or, cond, Option, Some, None, MatchOption, add-zero, zero-add}
use borrow.Author.Tests.{ltb-false}
use Rattle.std.proofs.lemmas.List.Recursion.{is_count_by, is_position_or_len}
use Rattle.std.specs.List.{position_or_len}
use Rattle.octets.specs.Lists.{eq_list}
use Rattle.text.specs.Fields.{until, after, behind, field_at, field_from, tabs, which_of}

-- the tabs of a line, counted
pub tabs-count : (l : List ℕ) → tabs l ≡ count_by (λ x. eqb x 9) l
unfolding tabs
tabs-count l = is_count_by tabs (λ x. eqb x 9) refl (λ x m. grind arith) l

pub until_front : (l : List ℕ) → until l ≡ take (length (until l)) l
unfolding until
until_front [] = refl
until_front (x ∷ l) = go (until_front l) (eqb x 9)
  where
    go : until l ≡ take (length (until l)) l → (t : Bool)
        → (if t then [] else x ∷ until l) ≡ take (length (if t then [] else x ∷ until l)) (x ∷ l)
    go ih true = refl
    go ih false = ap (λ (m : List ℕ). x ∷ m) ih

-- how much stands before the first tab
until-place : (l : List ℕ) → length (until l) ≡ position_or_len (λ x. eqb x 9) l
unfolding until
until-place l = is_position_or_len (λ m. length (until m)) (λ x. eqb x 9) refl (λ x m. go x (until m) (eqb x 9)) l
  where
    go : (x : ℕ) (m : List ℕ) (t : Bool) → length (if t then [] else x ∷ m) ≡ cond t 0 (1 + length m)
    go x m true = refl
    go x m false = omega arith

place_or_end : (p n : ℕ) → p ≤ n → unwrap_or (cond (ltb p n) (Some p) None) n ≡ p
place_or_end p n h = go (ltb p n) refl
  where
    go : (t : Bool) → ltb p n ≡ t → unwrap_or (cond t (Some p) None) n ≡ p
    go true e = refl
    go false e = omega (arith, ltb-false p n e)

pub first-tab : (l : List ℕ) → unwrap_or (position (λ x. eqb x 9) l) (length l) ≡ length (until l)
first-tab l =
    let h : length (until l) ≤ length l = omega (arith, simp length-take at (ap length (until_front l))) in
    place_or_end _ _ (omega (arith, until-place l, h)) ∙ sym (until-place l)

after-behind : (l : List ℕ) → after l ≡ drop (suc (length (until l))) l
unfolding until after
after-behind [] = refl
after-behind (x ∷ l) = go (after-behind l) (eqb x 9)
  where
    go : after l ≡ drop (suc (length (until l))) l → (t : Bool)
        → (if t then l else after l) ≡ drop (suc (length (if t then [] else x ∷ until l))) (x ∷ l)
    go ih true = refl
    go ih false = ih

-- what stands behind the next tab, which stands at place t
pub after-tab : (l : List ℕ) (i t : ℕ) → t ≡ i + length (until (drop i l)) → drop (t + 1) l ≡ after (drop i l)
after-tab l i t e =
    let s : t + 1 ≡ i + suc (length (until (drop i l))) = omega arith in
    ap (λ (n : ℕ). drop n l) s ∙ sym (drop-drop (suc (length (until (drop i l)))) i l) ∙ sym (after-behind (drop i l))

pub after_none : (l : List ℕ) (i t : ℕ) → t ≡ i + length (until (drop i l)) → length l ≤ t → drop t l ≡ after (drop i l)
after_none l i t e h =
    let k : length l ≤ t + 1 = omega arith in
    drop_of_length-le l h ∙ sym (drop_of_length-le l k) ∙ after-tab l i t e

pub behind_more : (l m : List ℕ) (k : ℕ) → 0 < k → m ≡ after l → behind k l ≡ behind (k - 1) m
unfolding behind
behind_more l m zero h e = absurd (not-suc-le-zero h)
behind_more l m (suc k) h e =
    let s : suc k - 1 ≡ k = omega arith in
    rw s (ap (behind k) (sym e))

pub behind-none : (k : ℕ) → behind k [] ≡ []
unfolding behind after
behind-none zero = refl
behind-none (suc k) = behind-none k

-- where a field starts
pub field-from : (l : List ℕ) (k i : ℕ) → i ≤ length l → drop i l ≡ behind k l → i ≡ field_from l k
unfolding field_from
field-from l k i h e = omega (arith, length-drop i l, ap length e)

-- a field, by what is left of the line and how much stands before the next tab there
pub field_is : (l rest : List ℕ) (k t : ℕ) → rest ≡ behind k l → t ≡ length (until rest) → take t rest ≡ field_at l k
unfolding field_at
field_is l rest k t e f = ap (λ (n : ℕ). take n rest) f ∙ sym (until_front rest) ∙ ap until e

-- a search by the number of a field: those below i are not w
module _ (l w : List ℕ) where
  abbrev pub IsIt : ℕ → Type 0
  IsIt k = eq_list (field_at l k) w ≡ true

  abbrev pub IsNot : ℕ → Type 0
  IsNot k = eq_list (field_at l k) w ≡ false

  passed : (m j : ℕ) → ((i : ℕ) → i < j → IsNot i) → which_of l w 0 (j + m) ≡ which_of l w j m
  unfolding which_of
  passed m zero h = rw zero-add
  passed m (suc j) h =
      let e : suc j + m ≡ j + suc m = omega arith in
      let here : eq_list (field_at l j) w ≡ false = h j (omega arith) in
      let more : which_of l w j (suc m) ≡ which_of l w (suc j) m = rw here in
      rw e (passed (suc m) j (λ i b. h i (omega arith)) ∙ more)

  pub which-found : (n : ℕ) (r : Option ℕ)
      → MatchOption r ((k : ℕ) → 0 ≤ k → k < n → IsNot k)
      (λ i. (0 ≤ i) × (i < n) × IsIt i × ((k : ℕ) → 0 ≤ k → k < i → IsNot k))
      → unwrap_or r n ≡ which_of l w 0 n
  unfolding which_of
  which-found n None h = sym (simp add-zero at (passed 0 n (λ i b. h i (omega arith) b)))
  which-found n (Some i) h =
      let e : n ≡ i + suc (n - (i + 1)) = omega (arith, h.1) in
      let here : eq_list (field_at l i) w ≡ true = h.2 in
      let found : which_of l w i (suc (n - (i + 1))) ≡ i = rw here in
      sym (ap (which_of l w 0) e ∙ passed (suc (n - (i + 1))) i (λ k b. h.3 k (omega arith) b) ∙ found)
