-- A text read from the front: a digit, a separator or something else is taken off it, and what is left spells on; and its digits,
-- counted and laid.
-- Assumes nothing.
use mathlib.Core.Path.{◌≡◌, refl, sym, ap, ap₂, ◌∙◌}
use mathlib.Core.Bool.{Bool, true, false, not, cond}
use mathlib.Core.List.{List, [], ◌∷◌, ◌++◌}
use Prim.Native.Nat.{ℕ, ◌+◌, ◌<◌, ◌≤◌}
use native.Mathlib.Nat.{zero-add}
use native.Mathlib.Omega.{arith}
use lib.Dec.{eqb}
use lib.ListN.{length, get_or, set, take, drop}
use lib.Seq.{take-length}
use borrow.Author.Tests.{eqb-true, le-ltb}
use Rattle.std.specs.List.{filter, enumerate_from}
use Rattle.std.proofs.lemmas.List.{get_or_default}
use Rattle.std.proofs.lemmas.List.FromFn.{length-enumerate_from, get_or-enumerate_from}
use Rattle.std.specs.Prelude.{if◌then◌else◌}
use Rattle.octets.specs.Choice.{both}
use Rattle.octets.proofs.Choices.{both_true}
use Rattle.octets.specs.Lists.{onto}
use Rattle.text.proofs.Placed.{front-more}
use Rattle.text.specs.Digits.{digit_of}
use Rattle.labels.specs.declared.spelling.Next.{Next}
use Rattle.labels.specs.declared.spelling.Next.TheVariants.{Octet, Digit, Behind}
use Rattle.labels.specs.Reading.{separator, hex_digit, spells, digits_in}
use Rattle.labels.specs.Code.{spells_on}

pub never : {A : Type 0} → ◌≡◌ {A = Bool} false true → A
never e = let z : ◌≡◌ {A = ℕ} 0 1 = cc in absurd (omega arith)

-- neither a space nor a hyphen is a digit
pub separator-digit : (c : ℕ) → separator c ≡ true → hex_digit c ≡ false
unfolding separator hex_digit digit_of
separator-digit c e = go (eqb c 0x20) refl e
  where
    is : (k : ℕ) → eqb c k ≡ true → digit_of k ≡ 16 → hex_digit c ≡ false
    is k q d = le-ltb (digit_of c) 16 (omega (arith, ap digit_of (eqb-true c k q) ∙ d))

    go : (t : Bool) → eqb c 0x20 ≡ t → separator c ≡ true → hex_digit c ≡ false
    go true q r = is 0x20 q refl
    go false q r = is 0x2d (sym (rw q) ∙ r) refl

pub digit-separator : (c : ℕ) → hex_digit c ≡ true → separator c ≡ false
digit-separator c e = go (separator c) refl
  where
    go : (t : Bool) → separator c ≡ t → separator c ≡ false
    go true q = never (sym (separator-digit c q) ∙ e)
    go false q = q

-- ---- what is left spells on

both_false : (t : Bool) → both t false ≡ false
both_false true = refl
both_false false = refl

-- at first an octet is to come
pub spells-on : (s : List ℕ) → spells s ≡ spells_on s Octet
unfolding spells spells_on
spells-on [] = refl
spells-on (a ∷ []) = sym (both_false (hex_digit a))
spells-on (a ∷ b ∷ []) = ap (both (hex_digit a)) (sym (both_true (hex_digit b)))
spells-on (a ∷ b ∷ c ∷ s) =
    ap (λ t. both (hex_digit a) (both (hex_digit b) t)) (ap₂ (λ t u. if separator c then t else u) (spells-on s) (spells-on (c ∷ s)))

-- what is no digit may stand behind an octet alone, and only if it is a separator
pub no-digit : (c : ℕ) (s : List ℕ) (n : Next) → hex_digit c ≡ false → (n ≡ Behind → separator c ≡ false) → spells_on (c ∷ s) n ≡ false
unfolding spells_on
no-digit c s Octet p q = rw p
no-digit c s Digit p q = rw p
no-digit c s Behind p q = rw (q refl, p)

-- ---- its digits

pub digits-filter : (s : List ℕ) → digits_in s ≡ filter (λ c. not (separator c)) s
unfolding digits_in
digits-filter [] = refl
digits-filter (c ∷ s) = go (separator c) (digits-filter s)
  where
    go : (t : Bool) {l m : List ℕ} → l ≡ m → (if t then l else c ∷ l) ≡ cond (not t) (c ∷ m) m
    go true e = e
    go false e = ap (λ l. c ∷ l) e

-- ---- its digits laid, one after the other

-- what a chain that tells each digit of the text with its place has told at turn k
pub digit-there : (s : List ℕ) (k n x : ℕ) → let all = enumerate_from 0 (filter (λ c. not (separator c)) s) in
    (k < length all) × ((n, x) ≡ get_or all k (n, x)) → (k < length (digits_in s)) × (n ≡ k) × (x ≡ get_or (digits_in s) k 0)
digit-there s k n x h =
    let g = filter (λ c. not (separator c)) s in
    let long : k < length g = omega (arith, h.0, length-enumerate_from 0 g) in
    let there = h.1 ∙ get_or-enumerate_from 0 g k (n, x) long in
    rw (digits-filter s) (long, ap (λ (p : ℕ × ℕ). p.0) there ∙ zero-add k, ap (λ (p : ℕ × ℕ). p.1) there ∙ get_or_default g k x 0 long)

pub digits-told : (s : List ℕ) → length (enumerate_from 0 (filter (λ c. not (separator c)) s)) ≡ length (digits_in s)
digits-told s = length-enumerate_from 0 (filter (λ c. not (separator c)) s) ∙ ap length (sym (digits-filter s))

-- a turn of the loop that lays its digit at the front of what was o
pub laid-more : (s o out : List ℕ) (k m n x : ℕ) → out ≡ take k (digits_in s) ++ drop k o → k < length (digits_in s)
    → length (digits_in s) ≤ length o → n ≡ k → x ≡ get_or (digits_in s) k 0 → m ≡ k + 1
    → set out n x ≡ take m (digits_in s) ++ drop m o
laid-more s o out k m n x e h r p q w = rw (e, p, q, w) (front-more o (digits_in s) k (omega arith) h)

-- the text s, of which k digits are laid at the front of what was o
pub laid-all : (s o out : List ℕ) (k : ℕ) → out ≡ take k (digits_in s) ++ drop k o → k ≡ length (digits_in s) → out ≡ onto (digits_in s) o
laid-all s o out k e h =
    e ∙ ap (λ (m : ℕ). take m (digits_in s) ++ drop m o) h
    ∙ ap (λ (f : List ℕ). f ++ drop (length (digits_in s)) o) (take-length (digits_in s))
