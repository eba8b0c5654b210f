-- Laws of the walk over TLVs: what each turn of the loop finds, and that what was found lies inside and has an octet at least.
-- Assumes nothing.
use mathlib.Core.Path.{◌≡◌, refl, sym, ap, subst, ◌∙◌}
use mathlib.Core.Bool.{Bool, true, false}
use mathlib.Core.List.{List, [], ◌∷◌}
use Prim.Native.Nat.{ℕ, zero, suc, ◌+◌, ◌-◌, ◌≤◌, ◌<◌}
use native.Mathlib.Nat.{add-zero}
use native.Mathlib.Omega.{arith}
use lib.Dec.{eqb, leb}
use lib.ListN.{length, get_or, drop, drop_of_length-le, length-drop}
use borrow.Author.Tests.{leb-true, leb-false}
use Rattle.octets.proofs.Choices.{choose}
use Rattle.std.proofs.Common.{Option, Some, None, Result, Ok, Err, is_ok, if◌then◌else◌}
use Rattle.std.specs.Bool.{then_some}
use Rattle.std.specs.Option.{option_or}
use Rattle.tlvs.specs.declared.Ill.{Ill}
use Rattle.tlvs.specs.declared.Value.{Value}
use Rattle.tlvs.specs.declared.Wanted.{Wanted}
use Rattle.tlvs.specs.declared.Wanted.TheVariants.{Tag}
use Rattle.tlvs.specs.Filling.{value_size, Tlv, Tlvs, ill, filling, led, tlvs_from}
use Rattle.tlvs.specs.Looking.{wants, value_of, first_of, looked_in, walked, filled, fills, found, among, among_in, tagged}

-- ---- octets passed

pass : (i n : ℕ) (s : List ℕ) → n ≤ length s → tlvs_from i n s ≡ tlvs_from (i + n) 0 (drop n s)
unfolding tlvs_from
pass i zero s h = rw (add-zero i)
pass i (suc n) [] h = absurd (omega arith)
pass i (suc n) (o ∷ s) h =
    let q : i + 1 + n ≡ i + suc n = omega arith in
    pass (i + 1) n s (omega arith) ∙ ap (λ (j : ℕ). tlvs_from j 0 (drop n s)) q

short : (i n : ℕ) (s : List ℕ) → length s < n → tlvs_from i n s ≡ ill
unfolding tlvs_from
short i zero s h = absurd (omega arith)
short i (suc n) [] h = refl
short i (suc n) (o ∷ s) h = short (i + 1) n s (omega arith)

one : (s : List ℕ) → length s ≡ 1 → s ≡ get_or s 0 0 ∷ []
one [] h = absurd (omega arith)
one (t ∷ []) h = refl
one (t ∷ n ∷ s) h = absurd (omega arith)

two : (s : List ℕ) → 2 ≤ length s → s ≡ get_or s 0 0 ∷ get_or s 1 0 ∷ drop 2 s
two [] h = absurd (omega arith)
two (t ∷ []) h = absurd (omega arith)
two (t ∷ n ∷ s) h = refl

-- ---- turns of the loop

-- what is found in all, where x was seen before and y is found in the rest
abbrev pub after : Option Value → Result (Option Value) Ill → Result (Option Value) Ill
after x (Err e) = Err e
after x (Ok y) = Ok (option_or x y)

after-none : (x : Option Value) → after x (Ok None) ≡ Ok x
after-none None = refl
after-none (Some v) = refl

after-all : (y : Result (Option Value) Ill) → after None y ≡ y
after-all (Err e) = refl
after-all (Ok y) = refl

-- what is found from a TLV on, by whether that one is wanted
led-next : (w : Wanted) (t : Tlv) (ts : Tlvs) (x : Option Value)
    → after x (looked_in w (led t ts)) ≡ after (option_or x (then_some (wants w t.tag t.size) (value_of t))) (looked_in w ts)
led-next w t ill x = refl
led-next w t (filling ts) x = ap (λ (o : Option Value). Ok o) (go x (wants w t.tag t.size))
  where
    go : (x : Option Value) (b : Bool)
        → option_or x (if b then Some (value_of t) else first_of w ts)
        ≡ option_or (option_or x (then_some b (value_of t))) (first_of w ts)
    go None true = refl
    go None false = refl
    go (Some v) true = refl
    go (Some v) false = refl

-- all that is found, where the walk has `rest` left and has seen x
abbrev pub Stands : Wanted → List ℕ → Option Value → List ℕ → Type 0
Stands w s x rest = walked w s ≡ after x (looked_in w (tlvs_from (length s - length rest) 0 rest))

-- the walk begins with all of s left and nothing seen
pub walk-from : (w : Wanted) (s : List ℕ) → Stands w s None s
unfolding walked
walk-from w s =
    let z : 0 ≡ length s - length s = omega arith in
    sym (after-all (looked_in w (tlvs_from 0 0 s))) ∙ ap (λ (i : ℕ). after None (looked_in w (tlvs_from i 0 s))) z

module _ (w : Wanted) (s : List ℕ) (x : Option Value) (rest : List ℕ) (e : Stands w s x rest) where
  in_rest : List ℕ → Result (Option Value) Ill
  in_rest l = after x (looked_in w (tlvs_from (length s - length rest) 0 l))

  pub walk-done : length rest ≡ 0 → Ok x ≡ walked w s
  unfolding tlvs_from in_rest
  walk-done h = sym (e ∙ ap in_rest (drop_of_length-le rest {i = 0} (omega arith)) ∙ after-none x)

  pub walk-bare : length rest < 2 → (length rest ≡ 0 → ⊥) → Err (record {}) ≡ walked w s
  unfolding tlvs_from in_rest
  walk-bare h k = sym (e ∙ ap in_rest (one rest (omega arith)))

  -- what was seen, when a TLV passes whose value has n octets and starts at place i
  seen : ℕ → ℕ → Option Value
  seen i n = option_or x (then_some (wants w (get_or rest 0 0) n) (record { start = i; size = n }))

  turned : (i n : ℕ) → 2 ≤ length rest → i ≡ length s - length rest + 2 → n ≡ value_size (get_or rest 1 0)
      → walked w s ≡ after (seen i n) (looked_in w (tlvs_from i n (drop 2 rest)))
  unfolding tlvs_from in_rest seen
  turned i n h p q =
      rw (p, q)
      (e ∙ ap in_rest (two rest h)
      ∙ led-next w (record { tag = get_or rest 0 0; start = length s - length rest + 2; size = value_size (get_or rest 1 0) })
      (tlvs_from (length s - length rest + 2) (value_size (get_or rest 1 0)) (drop 2 rest)) x)

  module _ (tail : List ℕ) (t : tail ≡ drop 2 rest) (n : ℕ) (h : 2 ≤ length rest) (q : n ≡ value_size (get_or rest 1 0)) where
    pub walk-cut : length tail < n → Err (record {}) ≡ walked w s
    walk-cut k =
        let i = length s - length rest + 2 in
        sym (turned i n h refl q
        ∙ ap (λ (ts : Tlvs). after (seen i n) (looked_in w ts)) (short i n (drop 2 rest) (omega (arith, ap length t))))

    pub walk-next : (y : Option Value) (left : List ℕ)
        → y ≡ option_or x (then_some (wants w (get_or rest 0 0) n) (record { start = length s - length tail; size = n }))
        → left ≡ drop n tail → length rest ≤ length s → n ≤ length tail → Stands w s y left
    unfolding seen
    walk-next y left v l m k =
        let from = length s - length tail in
        let long : length tail + 2 ≡ length rest = omega (arith, ap length t, length-drop 2 rest) in
        let start : from ≡ length s - length rest + 2 = omega arith in
        let end : from + n ≡ length s - length left = omega (arith, ap length l, length-drop n tail) in
        turned from n h start q
        ∙ ap (λ (o : Option Value). after o (looked_in w (tlvs_from from n (drop 2 rest)))) (sym v)
        ∙ ap (λ (ts : Tlvs). after y (looked_in w ts))
        (pass from n (drop 2 rest) (omega (arith, ap length t))
        ∙ ap (λ (j : ℕ). tlvs_from j 0 (drop n (drop 2 rest))) end
        ∙ ap (tlvs_from (length s - length left) 0) (sym (l ∙ ap (drop n) t)))

-- ---- filling

-- whatever is looked for, a walk that does not end ill was over TLVs that fill
pub fills_walked : (w : Wanted) (s : List ℕ) → is_ok (walked w s) ≡ fills s
unfolding fills walked
fills_walked w s = go (tlvs_from 0 0 s)
  where
    go : (ts : Tlvs) → is_ok (looked_in w ts) ≡ filled ts
    go ill = refl
    go (filling ts) = refl

-- ---- what was found lies inside, and is never empty

abbrev pub Inside : ℕ → Result (Option Value) Ill → Type 0
Inside m (Err e) = 0 ≤ m
Inside m (Ok None) = 0 ≤ m
Inside m (Ok (Some v)) = (v.start + v.size ≤ m) × (1 ≤ v.size)

-- "no value is empty" (document 02 (iv))
value-some : (n : ℕ) → 1 ≤ value_size n
unfolding value_size
value-some n = omega arith

led-inside : (m : ℕ) (w : Wanted) (t : Tlv) (ts : Tlvs) → (t.start + t.size ≤ m) × (1 ≤ t.size) → Inside m (looked_in w ts)
    → Inside m (looked_in w (led t ts))
led-inside m w t ill h k = omega arith
led-inside m w t (filling ts) h k =
    choose (λ (o : Option Value). Inside m (Ok o)) (wants w t.tag t.size) (Some (value_of t)) (first_of w ts)
    (λ _. h) (λ _. k)

from-inside : (w : Wanted) (i n : ℕ) (s : List ℕ) → Inside (i + length s) (looked_in w (tlvs_from i n s))
unfolding tlvs_from
from-inside w i zero [] = omega arith
from-inside w i zero (t ∷ []) = omega arith
from-inside w i zero (t ∷ n ∷ s) = go (leb (value_size n) (length s)) refl (from-inside w (i + 2) (value_size n) s)
  where
    go : (b : Bool) → leb (value_size n) (length s) ≡ b → Inside (i + 2 + length s) (looked_in w (tlvs_from (i + 2) (value_size n) s))
        → let rest = tlvs_from (i + 2) (value_size n) s in
        Inside (i + length (t ∷ n ∷ s)) (looked_in w (led (record { tag = t; start = i + 2; size = value_size n }) rest))
    go true e ih =
        let q : i + 2 + length s ≡ i + length (t ∷ n ∷ s) = omega arith in
        led-inside (i + length (t ∷ n ∷ s)) w _ (tlvs_from (i + 2) (value_size n) s)
        (omega (arith, leb-true (value_size n) (length s) e), value-some n)
        (subst (λ (m : ℕ). Inside m (looked_in w (tlvs_from (i + 2) (value_size n) s))) q ih)
    go false e ih = rw (short (i + 2) (value_size n) s (leb-false (value_size n) (length s) e)) (omega arith)
from-inside w i (suc n) [] = omega arith
from-inside w i (suc n) (o ∷ s) =
    let q : i + 1 + length s ≡ i + length (o ∷ s) = omega arith in
    subst (λ (m : ℕ). Inside m (looked_in w (tlvs_from (i + 1) n s))) q (from-inside w (i + 1) n s)

pub walked-inside : (w : Wanted) (s : List ℕ) → Inside (length s) (walked w s)
unfolding walked
walked-inside w s =
    let q : 0 + length s ≡ length s = omega arith in
    subst (λ (m : ℕ). Inside m (looked_in w (tlvs_from 0 0 s))) q (from-inside w 0 0 s)

-- ---- a tag is found just where a TLV has it

first-among : (a : ℕ) (ts : List Tlv) → found (Ok (first_of (Tag a) ts)) ≡ among a ts
unfolding wants
first-among a [] = refl
first-among a (t ∷ ts) = go (eqb t.tag a) (first-among a ts)
  where
    go : (b : Bool) → found (Ok (first_of (Tag a) ts)) ≡ among a ts
        → found (Ok (if b then Some (value_of t) else first_of (Tag a) ts)) ≡ (if b then true else among a ts)
    go true e = refl
    go false e = e

pub walked-tagged : (a : ℕ) (s : List ℕ) → found (walked (Tag a) s) ≡ tagged a s
unfolding walked tagged
walked-tagged a s = go (tlvs_from 0 0 s)
  where
    go : (ts : Tlvs) → found (looked_in (Tag a) ts) ≡ among_in a ts
    go ill = refl
    go (filling ts) = first-among a ts

pub none-tagged : (a : ℕ) → tagged a [] ≡ false
unfolding tagged tlvs_from
none-tagged a = refl
