-- A good label with one octet of code or CRC replaced by another is 16: no two registers become one, so that a CRC tells the octet.
-- Assumes nothing.
use mathlib.Core.Path.{◌≡◌, refl, sym, ap, ◌∙◌}
use mathlib.Core.Bool.{Bool, true, false}
use mathlib.Core.List.{List, [], ◌∷◌}
use Prim.Native.Nat.{ℕ, zero, suc, ◌+◌, ◌-◌, ◌*◌, ◌/◌, ◌%◌, ◌^◌, ◌≤◌, ◌<◌}
use native.Mathlib.Nat.{not-suc-le-zero, le_of_suc-le-suc}
use native.Mathlib.Omega.{arith}
use lib.Bits.{bit_xor, xor_lt, xor_comm}
use lib.Dec.{eqb, ltb, lit<}
use lib.ListN.{length, set, take, drop, length-set}
use lib.Seq.{drop_at, length-take-le, take-set-lt, take-set-le, drop-set-lt, get_or-set_same, get_or-take}
use borrow.Author.Tests.{eqb-true, eqb-false, ltb-true, ltb-false}
use Rattle.std.specs.Prelude.{if◌then◌else◌}
use Rattle.octets.specs.Choice.{both}
use Rattle.octets.specs.Least.{least_first, spelled}
use Rattle.octets.specs.Lists.{at, eq_list, Octets}
use Rattle.octets.proofs.AllOctets.{nil-octets, cons-octets, tail-octets, take-octets}
use Rattle.octets.proofs.Choices.{both-parts}
use Rattle.octets.proofs.Compared.{same-equal}
use Rattle.octets.proofs.Numbers.{least-spelled}
use Rattle.octets.proofs.Xor.{xor-twice}
use Rattle.text.specs.Digits.{digit_of, all_digits}
use Rattle.text.specs.Hex.{octets_of}
use Rattle.labels.specs.Codes.{code_length, with_crc}
use Rattle.labels.specs.Spelling.{Style, in_print}
use Rattle.labels.specs.Answers.{coded, no_code}
use Rattle.labels.specs.Reading.{spells, digits_in, octets_in, code_in, judged, read_label}
use Rattle.labels.proofs.Lengths.{spelt-digits}
use Rattle.labels.proofs.Styles.{any-style}
use Rattle.labels.proofs.ReadBack.{with-octets, Holds, judged-holds, with-holds}
use Rattle.labels.specs.Crc.{polynomial, ones, shifted, shifted_by, taken_in, register, crc}

-- ---- the register

-- the same added to both
xor_same : (a b k : ℕ) → bit_xor a k ≡ bit_xor b k → a ≡ b
xor_same a b k e = sym (xor-twice a k) ∙ ap (λ x. bit_xor x k) e ∙ xor-twice b k

shifted-lt : (c : ℕ) → c < 2 ^ 16 → shifted c < 2 ^ 16
unfolding shifted
shifted-lt c h = go (eqb (c % 2) 1)
  where
    go : (t : Bool) → (if t then bit_xor (c / 2) polynomial else c / 2) < 2 ^ 16
    go true = xor_lt 16 (c / 2) polynomial (omega arith) (lit< tt)
    go false = omega arith

-- the polynomial has the highest bit, and what moved down has not: so the bit that fell out is known, and so are the others
apart : (a b : ℕ) → a < 2 ^ 15 → b < 2 ^ 15 → bit_xor a polynomial ≡ b → ⊥
apart a b h k e =
    let p : bit_xor a b ≡ polynomial =
    ap (bit_xor a) (sym e) ∙ xor_comm a (bit_xor a polynomial) ∙ ap (λ x. bit_xor x a) (xor_comm a polynomial) ∙ xor-twice polynomial a in
    omega (arith, xor_lt 15 a b h k)

shifted_one : (c d : ℕ) → c < 2 ^ 16 → d < 2 ^ 16 → shifted c ≡ shifted d → c ≡ d
unfolding shifted
shifted_one c d h k e = go (eqb (c % 2) 1) refl (eqb (d % 2) 1) refl e
  where
    go : (t : Bool) → eqb (c % 2) 1 ≡ t → (u : Bool) → eqb (d % 2) 1 ≡ u
        → (if t then bit_xor (c / 2) polynomial else c / 2) ≡ (if u then bit_xor (d / 2) polynomial else d / 2) → c ≡ d
    go true p true q r = omega (arith, xor_same (c / 2) (d / 2) polynomial r, eqb-true (c % 2) 1 p, eqb-true (d % 2) 1 q)
    go true p false q r = absurd (apart (c / 2) (d / 2) (omega arith) (omega arith) r)
    go false p true q r = absurd (apart (d / 2) (c / 2) (omega arith) (omega arith) (sym r))
    go false p false q r = omega (arith, r, eqb-false (c % 2) 1 p, eqb-false (d % 2) 1 q)

shifts-lt : (k c : ℕ) → c < 2 ^ 16 → shifted_by k c < 2 ^ 16
unfolding shifted_by
shifts-lt zero c h = h
shifts-lt (suc k) c h = shifts-lt k (shifted c) (shifted-lt c h)

shifts-one : (k c d : ℕ) → c < 2 ^ 16 → d < 2 ^ 16 → shifted_by k c ≡ shifted_by k d → c ≡ d
unfolding shifted_by
shifts-one zero c d h l e = e
shifts-one (suc k) c d h l e = shifted_one c d h l (shifts-one k (shifted c) (shifted d) (shifted-lt c h) (shifted-lt d l) e)

added-lt : (c x : ℕ) → c < 2 ^ 16 → x < 256 → bit_xor c x < 2 ^ 16
added-lt c x h k = xor_lt 16 c x h (omega arith)

taken-lt : (c x : ℕ) → c < 2 ^ 16 → x < 256 → taken_in c x < 2 ^ 16
unfolding taken_in
taken-lt c x h k = shifts-lt 8 (bit_xor c x) (added-lt c x h k)

-- two registers, the same octet
taken-register : (c d x : ℕ) → c < 2 ^ 16 → d < 2 ^ 16 → x < 256 → taken_in c x ≡ taken_in d x → c ≡ d
unfolding taken_in
taken-register c d x h k b e = xor_same c d x (shifts-one 8 (bit_xor c x) (bit_xor d x) (added-lt c x h b) (added-lt d x k b) e)

-- one register, two octets
taken-octet : (c x y : ℕ) → c < 2 ^ 16 → x < 256 → y < 256 → taken_in c x ≡ taken_in c y → x ≡ y
unfolding taken_in
taken-octet c x y h k l e =
    xor_same x y c (xor_comm x c ∙ shifts-one 8 (bit_xor c x) (bit_xor c y) (added-lt c x h k) (added-lt c y h l) e ∙ xor_comm c y)

register-one : (s : List ℕ) (c d : ℕ) → Octets s → c < 2 ^ 16 → d < 2 ^ 16 → register c s ≡ register d s → c ≡ d
unfolding register
register-one [] c d o h k e = e
register-one (x ∷ s) c d o h k e =
    taken-register c d x h k (o.octet 0)
    (register-one s (taken_in c x) (taken_in d x) (tail-octets o) (taken-lt c x h (o.octet 0)) (taken-lt d x k (o.octet 0)) e)

-- ---- the CRC

-- an octet that leaves the register as it is, is the one that was there
register-set : (s : List ℕ) (c i x : ℕ) → Octets s → c < 2 ^ 16 → i < length s → x < 256 → register c (set s i x) ≡ register c s → x ≡ at s i
unfolding register
register-set [] c i x o h l b e = absurd (not-suc-le-zero l)
register-set (y ∷ s) c zero x o h l b e =
    taken-octet c x y h b (o.octet 0)
    (register-one s (taken_in c x) (taken_in c y) (tail-octets o) (taken-lt c x h b) (taken-lt c y h (o.octet 0)) e)
register-set (y ∷ s) c (suc i) x o h l b e =
    register-set s (taken_in c y) i x (tail-octets o) (taken-lt c y h (o.octet 0)) (le_of_suc-le-suc l) b e

pub crc-set : (s : List ℕ) (i x : ℕ) → Octets s → i < length s → x < 256 → crc (set s i x) ≡ crc s → x ≡ at s i
unfolding crc
crc-set s i x o l b e = register-set s ones i x o (lit< tt) l b (xor_same (register ones (set s i x)) (register ones s) ones e)

register-lt : (s : List ℕ) (c : ℕ) → Octets s → c < 2 ^ 16 → register c s < 2 ^ 16
unfolding register
register-lt [] c o h = h
register-lt (x ∷ s) c o h = register-lt s (taken_in c x) (tail-octets o) (taken-lt c x h (o.octet 0))

pub crc-lt : (s : List ℕ) → Octets s → crc s < 2 ^ 16
unfolding crc
crc-lt s o = xor_lt 16 (register ones s) ones (register-lt s ones o (lit< tt)) (lit< tt)

-- ---- the label

set-octets : (s : List ℕ) (i x : ℕ) → Octets s → x < 256 → Octets (set s i x)
set-octets [] i x o h = o
set-octets (y ∷ s) zero x o h = cons-octets x s h (tail-octets o)
set-octets (y ∷ s) (suc i) x o h = cons-octets y (set s i x) (o.octet 0) (set-octets s i x (tail-octets o) h)

spelled-one : (j k : ℕ) → j < 2 ^ 16 → k < 2 ^ 16 → spelled 2 j ≡ spelled 2 k → j ≡ k
spelled-one j k h l e = sym (least-spelled 2 j h) ∙ ap least_first e ∙ least-spelled 2 k l

-- the CRC stands behind the code
crc-behind : (c : List ℕ) (n : ℕ) → length c ≡ n → drop n (with_crc c) ≡ spelled 2 (crc c)
unfolding with_crc
crc-behind c n e = drop_at c (spelled 2 (crc c)) n e

module _ (o : List ℕ) (i x : ℕ) (b : Octets o) (w : Holds o) (l : i < length o) (h : x < 256) (new : x ≡ at o i → ⊥) where
  -- an octet of the code: its CRC is another
  in_code : i < length o - 2 → set o i x ≡ with_crc (set (take (length o - 2) o) i x) → ⊥
  unfolding code_in
  in_code k e =
      let c = take (length o - 2) o in
      let long : length c ≡ length o - 2 = length-take-le (length o - 2) o (omega arith) in
      let oc = take-octets (length o - 2) o b in
      let set-lt : Octets (set c i x) = set-octets c i x oc h in
      let there : spelled 2 (crc c) ≡ spelled 2 (crc (set c i x)) =
      sym (crc-behind c (length o - 2) long) ∙ sym (ap (drop (length o - 2)) w.whole) ∙ sym (drop-set-lt (length o - 2) o i x k)
      ∙ ap (drop (length o - 2)) e
      ∙ crc-behind (set c i x) (length o - 2) (length-set c i x ∙ long) in
      let same = spelled-one (crc c) (crc (set c i x)) (crc-lt c oc) (crc-lt (set c i x) set-lt) there in
      new (crc-set c i x oc (rw long k) h (sym same) ∙ get_or-take (length o - 2) o i 0 k)

  -- an octet of the CRC: the code is the same
  in-crc : length o - 2 ≤ i → set o i x ≡ with_crc (take (length o - 2) o) → ⊥
  unfolding code_in
  in-crc k e = new (sym (get_or-set_same o i x 0 l) ∙ ap (λ s. at s i) (e ∙ sym w.whole))

  not-its-crc : set o i x ≡ with_crc (code_in (set o i x)) → ⊥
  unfolding code_in
  not-its-crc e = go (ltb i (length o - 2)) refl
    where
      n : length (set o i x) - 2 ≡ length o - 2
      n = ap (λ k. k - 2) (length-set o i x)

      code : (c : List ℕ) → take (length o - 2) (set o i x) ≡ c → set o i x ≡ with_crc c
      code c q = e ∙ ap (λ k. with_crc (take k (set o i x))) n ∙ ap with_crc q

      go : (t : Bool) → ltb i (length o - 2) ≡ t → ⊥
      go true q = let k = ltb-true i (length o - 2) q in in_code k (code _ (take-set-lt (length o - 2) o i x k))
      go false q = let k = ltb-false i (length o - 2) q in in-crc k (code _ (take-set-le (length o - 2) o i x k))

  judged-set : judged (set o i x) ≡ no_code 16
  unfolding judged
  judged-set = rw (ap (λ k. code_length (k - 2)) (length-set o i x) ∙ w.long, go (eq_list (set o i x) (with_crc (code_in (set o i x)))) refl)
    where
      go : (t : Bool) → eq_list (set o i x) (with_crc (code_in (set o i x))) ≡ t → eq_list (set o i x) (with_crc (code_in (set o i x))) ≡ false
      go true q = absurd (not-its-crc (same-equal (set o i x) (with_crc (code_in (set o i x))) q))
      go false q = q

-- octets of digits
digits-octets : (l : List ℕ) → all_digits 16 l ≡ true → Octets (octets_of l)
unfolding octets_of all_digits
digits-octets [] e = nil-octets
digits-octets (a ∷ []) e = nil-octets
digits-octets (a ∷ b ∷ l) e =
    let p = both-parts (ltb (digit_of a) 16) (both (ltb (digit_of b) 16) (all_digits 16 l)) e in
    let q = both-parts (ltb (digit_of b) 16) (all_digits 16 l) p.1 in
    let u = ltb-true (digit_of a) 16 p.0 in
    let v = ltb-true (digit_of b) 16 q.0 in
    cons-octets (digit_of a * 16 + digit_of b) (octets_of l) (omega arith) (digits-octets l q.1)

spelt-octets : (s : List ℕ) → spells s ≡ true → Octets (octets_in s)
unfolding octets_in
spelt-octets s e = digits-octets (digits_in s) (spelt-digits s e).plain

-- A text t has the octets of a good label s, but for one, which is another.
pub one-octet : (s t : List ℕ) (n i x : ℕ) → (read_label s).told ≡ coded n → spells t ≡ true → i < length (octets_in s) → x < 256
    → (x ≡ at (octets_in s) i → ⊥) → octets_in t ≡ set (octets_in s) i x → read_label t ≡ no_code 16
unfolding read_label
one-octet s t n i x e f l h new d = go (spells s) refl e
  where
    go : (u : Bool) → spells s ≡ u → (if u then judged (octets_in s) else no_code 15).told ≡ coded n
        → (if spells t then judged (octets_in t) else no_code 15) ≡ no_code 16
    go true p q = rw (f, d) (judged-set (octets_in s) i x (spelt-octets s p) (judged-holds (octets_in s) n q) l h new)
    go false p q = let z : ◌≡◌ {A = ℕ} 0 1 = cc in absurd (omega arith)

-- The same of a label in print, in any style.
pub one-octet-printed : (p : Style) (c : List ℕ) (i x : ℕ) → Octets c → code_length (length c) ≡ true → i < length (with_crc c) → x < 256
    → (x ≡ at (with_crc c) i → ⊥) → read_label (in_print p (set (with_crc c) i x)) ≡ no_code 16
one-octet-printed p c i x o e l h new =
    any-style p (set (with_crc c) i x) (set-octets (with_crc c) i x (with-octets c o) h)
    ∙ judged-set (with_crc c) i x (with-octets c o) (with-holds c e) l h new
