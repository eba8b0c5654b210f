-- Laws of a line that is being read: octets more of it, the chunk up to its line feed, and the buffer behind the line.
-- Assumes nothing.
use Rattle.std.proofs.Common.{◌≡◌, ℕ, suc, ◌+◌, ◌-◌, ◌<◌, ◌≤◌, min, Bool, true, false, not, cond, eqb, ltb, leb, Some, None, List, [], ◌∷◌, ◌++◌, length, take, drop, sym, refl, ap, ◌∙◌, append-nil, arith, take-append-drop, drop_of_length-le, length-append, length-drop, drop-drop, length-take-le, take_all, le-ltb, lt-ltb, ltb-false, ltb-true, leb-false, leb-true, le-leb}
use lib.Seq.{append_snoc, take-length, take-nil}
use borrow.Author.Tests.{lt-leb}
use borrow.Rule.Slice.PartMut.{put_mid, same_len_mid}
use Rattle.std.proofs.lemmas.List.{take_min}
use Rattle.std.proofs.lemmas.List.Sums.{prefix_len-le-length}
use Rattle.std.proofs.lemmas.Slice.{take-put_mid, drop-put_mid}
use Rattle.std.specs.List.{position, position_or_len, prefix_len}
use Rattle.std.specs.Prelude.{if◌then◌else◌}
use Rattle.octets.specs.Lists.{onto}
use Rattle.lines.specs.Reading.{Held, holds, fed, all_fed, reached, read_on}

pub suc-leb : (m n : ℕ) → leb (suc m) (suc n) ≡ leb m n
suc-leb m n = go (leb m n) refl
  where
    go : (t : Bool) → leb m n ≡ t → leb (suc m) (suc n) ≡ t
    go true e = le-leb (suc m) (suc n) (omega (arith, leb-true m n e))
    go false e = lt-leb (suc m) (suc n) (omega (arith, leb-false m n e))

abbrev pub or : Bool → Bool → Bool
or t u = if t then true else u

or-false : (t : Bool) → t ≡ or t false
or-false true = refl
or-false false = refl

or-true : (t : Bool) → true ≡ or t true
or-true true = refl
or-true false = refl

-- the octets that there is room for are kept
pub fed-kept : (n : ℕ) (o l : List ℕ) (t : Bool) → length o ≤ n
    → all_fed n (holds o t) l ≡ holds (o ++ take (n - length o) l) (or t (ltb (n - length o) (length l)))
unfolding all_fed fed
fed-kept n o [] t h =
    rw (take-nil {A = ℕ} (n - length o), append-nil o, le-ltb (n - length o) 0 (omega arith)) (ap (holds o) (or-false t))
fed-kept n o (c ∷ l) t h = go (ltb (length o) n) refl (fed-kept n (o ++ (c ∷ [])) l t) (fed-kept n o l true h)
  where
    fits : List ℕ → Bool → Type 0
    fits p u = all_fed n (holds p u) l ≡ holds (p ++ take (n - length p) l) (or u (ltb (n - length p) (length l)))

    go : (u : Bool) → ltb (length o) n ≡ u → (length (o ++ (c ∷ [])) ≤ n → fits (o ++ (c ∷ [])) t) → fits o true
        → all_fed n (if u then holds (o ++ (c ∷ [])) t else holds o true) l
        ≡ holds (o ++ take (n - length o) (c ∷ l)) (or t (ltb (n - length o) (suc (length l))))
    go true e f g =
        let lt : length o < n = ltb-true (length o) n e in
        let len : length (o ++ (c ∷ [])) ≡ length o + 1 = length-append o (c ∷ []) in
        let m = n - (length o + 1) in
        let step : n - length o ≡ suc m = omega arith in
        let on = rw len at (f (omega (arith, len))) in
        rw (step, suc-leb (suc m) (length l)) (on ∙ ap (λ (x : List ℕ). holds x (or t (ltb m (length l)))) (append_snoc o c (take m l)))
    go false e f g =
        let none : n - length o ≡ 0 = omega (arith, ltb-false (length o) n e) in
        let on = rw none at g in
        rw (none, lt-ltb 0 (suc (length l)) (omega arith)) (on ∙ ap (λ (u : Bool). holds (o ++ []) u) (or-true t))

-- the octets before the first line feed are the line's
pub read-found : (n : ℕ) (h : Held) (l : List ℕ)
    → let k = position_or_len (λ c. eqb c 10) l in
    read_on n h l ≡ reached (all_fed n h (take k l)) (ltb k (length l)) (drop (k + 1) l)
unfolding read_on all_fed
read-found n h [] = refl
read-found n h (c ∷ l) = go (eqb c 10) (read-found n (fed n h c) l)
  where
    k : ℕ
    k = prefix_len (λ x. not (eqb x 10)) l

    go : (u : Bool) → read_on n (fed n h c) l ≡ reached (all_fed n (fed n h c) (take k l)) (ltb k (length l)) (drop (k + 1) l)
        → (if u then reached h true l else read_on n (fed n h c) l)
        ≡ reached (all_fed n h (take (cond (not u) (1 + k) 0) (c ∷ l))) (ltb (cond (not u) (1 + k) 0) (suc (length l)))
        (drop (cond (not u) (1 + k) 0 + 1) (c ∷ l))
    go true ih = rw (lt-ltb 0 (suc (length l)) (omega arith))
    go false ih =
        let next : 1 + k ≡ suc k = omega arith in
        let behind : suc k + 1 ≡ suc (k + 1) = omega arith in
        rw (next, behind, suc-leb (suc k) (length l)) ih

module _ (m : ℕ) (l : List ℕ) where
  ltb-least : ltb (min m (length l)) (length l) ≡ ltb m (length l)
  ltb-least = go (leb m (length l)) refl
    where
      go : (u : Bool) → leb m (length l) ≡ u → ltb (min m (length l)) (length l) ≡ ltb m (length l)
      go true e = let least : min m (length l) ≡ m = omega (arith, leb-true m (length l) e) in rw least
      go false e =
          let more : length l ≤ m = omega (arith, leb-false m (length l) e) in
          let least : min m (length l) ≡ length l = omega arith in
          rw (least, le-ltb m (length l) more) (le-ltb (length l) (length l) (omega arith))

module _ (a b : List ℕ) (i : ℕ) where
  -- so the one is the other but for its front
  pub but-front : length a ≡ length b → drop i a ≡ drop i b → a ≡ onto (take i a) b
  but-front n e = go (leb i (length a)) refl
    where
      go : (t : Bool) → leb i (length a) ≡ t → a ≡ onto (take i a) b
      go true h =
          let k : length (take i a) ≡ i = length-take-le i a (leb-true i (length a) h) in
          rw k (sym (take-append-drop i a) ∙ ap (λ (l : List ℕ). take i a ++ l) e)
      go false h =
          let k : length a ≤ i = omega (arith, leb-false i (length a) h) in
          rw (take_all i a k, drop_of_length-le b {i = length a} (omega arith)) (sym (append-nil a))

-- what a part leaves in the buffer: of its octets as many as there is room for, behind the line's
pub fed-front : (b p ys : List ℕ) (a k n i : ℕ) (t : Bool) → a ≡ min i (length b) → n ≡ min (length p) (length b - a) → ys ≡ take n p
    → holds (take (a + n) (put_mid a k b ys)) (or t (ltb n (length p))) ≡ all_fed (length b) (holds (take i b) t) p
fed-front b p ys a k n i t at few laid =
    let within : a ≤ length b = omega arith in
    let front : length (take a b) ≡ a = length-take-le a b within in
    let some : n ≤ length p = omega arith in
    let long : length ys ≡ n = ap length laid ∙ length-take-le n p some in
    let there : take (a + n) (put_mid a k b ys) ≡ take a b ++ ys = take-put_mid a k b ys (a + n) (omega arith) within in
    let m = length b - a in
    let least : n ≡ min m (length p) = omega arith in
    let same : take i b ≡ take a b = sym (take_min i b) ∙ ap (λ (j : ℕ). take j b) (sym at) in
    let kept = rw front at (fed-kept (length b) (take a b) p t (omega arith)) in
    rw (there, laid, least, take_min m p, ltb-least m p, same) (sym kept)

pub fed_in : (b p ys : List ℕ) (a k n i : ℕ) (t u : Bool) → a ≡ min i (length b) → n ≡ min (length p) (length b - a) → k ≡ n
    → ys ≡ take n p → or t (ltb n (length p)) ≡ u
    → (holds (take (a + n) (put_mid a k b ys)) u ≡ all_fed (length b) (holds (take i b) t) p)
    × (put_mid a k b ys ≡ onto (take (a + n) (put_mid a k b ys)) b)
fed_in b p ys a k n i t u at few size laid longer =
    let l = put_mid a k b ys in
    let some : n ≤ length p = omega arith in
    let long : length ys ≡ k = ap length laid ∙ length-take-le n p some ∙ sym size in
    let whole : length l ≡ length b = same_len_mid a k b ys (long ∙ sym (length-take-le k (drop a b) (omega (arith, length-drop a b)))) in
    let behind : drop (a + n) l ≡ drop (a + n) b = drop-put_mid a k b ys (a + n) (omega arith) (omega arith) long in
    (rw (← longer) (fed-front b p ys a k n i t at few laid), but-front l b (a + n) whole behind)

module _ (p : ℕ → Bool) (l : List ℕ) where
  -- what is found is the first place
  pub found_at : (k : ℕ) → Some k ≡ position p l → (position_or_len p l ≡ k) × (ltb k (length l) ≡ true)
  found_at k e = go (ltb (position_or_len p l) (length l)) refl e
    where
      go : (u : Bool) → ltb (position_or_len p l) (length l) ≡ u → Some k ≡ (if u then Some (position_or_len p l) else None)
          → (position_or_len p l ≡ k) × (ltb k (length l) ≡ true)
      go true q r = let same : position_or_len p l ≡ k = cc in (same, rw same at q)
      go false q r = cc

  pub found-none : None ≡ position p l → position_or_len p l ≡ length l
  found-none e = go (ltb (position_or_len p l) (length l)) refl e
    where
      go : (u : Bool) → ltb (position_or_len p l) (length l) ≡ u → None ≡ (if u then Some (position_or_len p l) else None)
          → position_or_len p l ≡ length l
      go true q r = cc
      go false q r =
          omega (arith, ltb-false (position_or_len p l) (length l) q, prefix_len-le-length (λ x. not (p x)) l)

-- what is left of a chunk from a place on, as the code takes it, and up to its first line feed
module _ (n : ℕ) (h : Held) (l : List ℕ) (i s : ℕ) (start : s ≡ min i (length l)) where
  abbrev pub rest : List ℕ
  rest = take (length l - s) (drop s l)

  rest-is : rest ≡ drop i l
  rest-is =
      take_all (length l - s) (drop s l) (omega (arith, length-drop s l)) ∙ go (leb i (length l)) refl
    where
      go : (u : Bool) → leb i (length l) ≡ u → drop s l ≡ drop i l
      go true e = let same : s ≡ i = omega (arith, leb-true i (length l) e) in rw same
      go false e =
          let more : length l ≤ i = omega (arith, leb-false i (length l) e) in
          let all : s ≡ length l = omega arith in
          rw (all, drop_of_length-le l more) (drop_of_length-le l {i = length l} (omega arith))

  behind : (k : ℕ) → drop (k + 1) rest ≡ drop (s + k + 1) l
  behind k =
      let there : drop s l ≡ rest = sym (take_all (length l - s) (drop s l) (omega (arith, length-drop s l))) in
      let place : s + (k + 1) ≡ s + k + 1 = omega arith in
      rw (← there) (drop-drop (k + 1) s l ∙ ap (λ (j : ℕ). drop j l) place)

  pub read_ended : (k : ℕ) → Some k ≡ position (λ c. eqb c 10) rest
      → reached (all_fed n h (take k rest)) true (drop (s + k + 1) l) ≡ read_on n h (drop i l)
  read_ended k e =
      let (first, inside) = found_at (λ c. eqb c 10) rest k e in
      let read = rw (first, inside, behind k) at (read-found n h rest) in
      sym read ∙ ap (read_on n h) rest-is

  pub read_open : None ≡ position (λ c. eqb c 10) rest → reached (all_fed n h rest) false (drop (length l) l) ≡ read_on n h (drop i l)
  read_open e =
      let none : position_or_len (λ c. eqb c 10) rest ≡ length rest = found-none (λ c. eqb c 10) rest e in
      let read =
      rw (none, take-length rest, le-ltb (length rest) (length rest) (omega arith), drop_of_length-le rest {i = length rest + 1} (omega arith))
      at (read-found n h rest) in
      rw (drop_of_length-le l {i = length l} (omega arith)) (sym read ∙ ap (read_on n h) rest-is)
