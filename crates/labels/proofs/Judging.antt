-- What the code finds out about the octets of a label, step by step, is what the definition judges.
-- Assumes nothing.
use mathlib.Core.Path.{◌≡◌, refl, sym, ap, ap₂, ◌∙◌}
use mathlib.Core.Bool.{Bool, true, false}
use mathlib.Core.List.{List, [], ◌∷◌, ◌++◌}
use Prim.Native.Nat.{ℕ, ◌-◌, ◌/◌, ◌%◌, ◌≤◌, ◌<◌}
use native.Mathlib.Omega.{arith}
use lib.ListN.{length, take, drop, replicate, length-drop, take-append-drop}
use lib.Seq.{take_at, take_all, length-take-le}
use borrow.Author.Tests.{eq-eqb, le-leb}
use Rattle.std.specs.Prelude.{Option, Some, Result, Ok, Err}
use Rattle.octets.specs.Keys.{the_key}
use Rattle.octets.specs.Least.{spelled}
use Rattle.octets.specs.Lists.{eq_list, onto}
use Rattle.octets.proofs.Compared.{same-equal}
use Rattle.octets.proofs.Tabs.{onto-zeros}
use Rattle.cipher.specs.Answers.{made, Product, product, hashed}
use Rattle.cipher.specs.Hash.{hash_of}
use Rattle.cipher.specs.declared.Fault.{Fault}
use Rattle.labels.specs.Crc.{crc}
use Rattle.labels.specs.Codes.{code_length, with_crc, link_key}
use Rattle.labels.specs.Answers.{reading, coded, no_code}
use Rattle.text.specs.Hex.{octets_of, is_hex, unhexed, Unhexed, read_into}
use Rattle.text.proofs.Hexed.{length-octets}
use Rattle.labels.specs.Reading.{code_in, judged, spells, digits_in, octets_in}
use Rattle.labels.proofs.Lengths.{code-most, code-over, spelt-digits}

-- lists that begin alike are the same where they go on alike
same-behind : (a b c : List ℕ) → eq_list (a ++ b) (a ++ c) ≡ eq_list b c
same-behind [] b c = refl
same-behind (x ∷ a) b c = rw (eq-eqb x x refl) (same-behind a b c)

-- ---- the octets o

-- the octets behind the code, compared with the CRC that was worked out for it
pub crc-told : (o b : List ℕ) (n : ℕ) (r t : Bool) → r ≡ eq_list (take (length o - n) (drop n o)) b → b ≡ spelled 2 (crc (take n o))
    → r ≡ t → eq_list (drop n o) (spelled 2 (crc (take n o))) ≡ t
crc-told o b n r t e f h =
    let all : take (length o - n) (drop n o) ≡ drop n o = take_all (length o - n) (drop n o) (omega (arith, length-drop n o)) in
    ap₂ eq_list (sym all) (sym f) ∙ sym e ∙ h

-- a hash that was made
pub hash-made : (r : Result (List ℕ) Fault) (h : List ℕ) → hashed r ≡ product (made 16) h → r ≡ Ok h
hash-made (Ok k) h e = ap (λ (p : Product). Ok p.octets) e
hash-made (Err f) h e = cc (ap (λ (p : Product). p.answer) e)

module _ (o : List ℕ) where
  pub judged-few : length o < 2 → judged o ≡ no_code 15
  unfolding judged code_length
  judged-few h = let e : length o - 2 ≡ 0 = omega arith in rw e

  pub judged-length : code_length (length o - 2) ≡ false → judged o ≡ no_code 15
  unfolding judged
  judged-length e = rw e

  -- the code is the same on both sides, so that the CRCs decide
  crc-decides : eq_list o (with_crc (code_in o)) ≡ eq_list (drop (length o - 2) o) (spelled 2 (crc (take (length o - 2) o)))
  unfolding with_crc code_in
  crc-decides =
      let n = length o - 2 in
      let t = take n o in
      ap (λ (x : List ℕ). eq_list x (t ++ spelled 2 (crc t))) (sym (take-append-drop n o)) ∙ same-behind t (drop n o) (spelled 2 (crc t))

  module _ (e : code_length (length o - 2) ≡ true) where
    pub judged-crc : eq_list (drop (length o - 2) o) (spelled 2 (crc (take (length o - 2) o))) ≡ false → judged o ≡ no_code 16
    unfolding judged
    judged-crc f = rw (e, crc-decides ∙ f)

    pub judged-good : (c k : List ℕ) → eq_list (drop (length o - 2) o) (spelled 2 (crc (take (length o - 2) o))) ≡ true
        → c ≡ take (length o - 2) o ++ drop (length o - 2) (replicate 16 0) → k ≡ hash_of o
        → reading (coded (length o - 2)) c (the_key k) ≡ judged o
    unfolding judged link_key code_in
    judged-good c k f p q =
        let most = code-most (length o - 2) e in
        let n : length (take (length o - 2) o) ≡ length o - 2 = length-take-le (length o - 2) o (omega arith) in
        let code =
        p ∙ ap (λ (m : ℕ). take (length o - 2) o ++ drop m (replicate 16 0)) (sym n) ∙ onto-zeros 16 (take (length o - 2) o) (omega arith) in
        let whole = same-equal o (with_crc (code_in o)) (crc-decides ∙ f) in
        rw (e, crc-decides ∙ f) (ap₂ (λ x y. reading (coded (length o - 2)) x (the_key y)) code (q ∙ ap hash_of whole))

-- ---- the octets of a text

-- a text that spells more than 36 digits spells more than 18 octets
pub judged-over : (s : List ℕ) → spells s ≡ true → 36 < length (digits_in s) → judged (octets_in s) ≡ no_code 15
unfolding octets_in
judged-over s e h =
    let w = spelt-digits s e in
    let n = length-octets (digits_in s) in
    judged-length (octets_of (digits_in s)) (code-over (length (octets_of (digits_in s)) - 2) (omega (arith, n, w.pairs)))

-- its digits, laid onto zeros, spell its octets, which are laid onto zeros in turn
pub octets-read : (s d o : List ℕ) (r : Option ℕ) (n : ℕ) → spells s ≡ true → n ≡ length (digits_in s) → n ≤ 36
    → d ≡ onto (digits_in s) (replicate 36 0) → read_into r o ≡ unhexed (take n d) (replicate 18 0)
    → (r ≡ Some (length (octets_in s))) × (length (octets_in s) ≤ 18) × (o ≡ onto (octets_in s) (replicate 18 0))
unfolding octets_in unhexed is_hex
octets-read s d o r n e c h p u =
    let g = digits_in s in
    let w = spelt-digits s e in
    let long = length-octets g in
    let few : length g / 2 ≤ 18 = omega (arith, h, c) in
    let text : take n d ≡ g = ap (take n) p ∙ take_at g (drop (length g) (replicate 36 0)) n (sym c) in
    let hex : is_hex g 18 ≡ true = rw (eq-eqb (length g % 2) 0 w.pairs, le-leb (length g / 2) 18 few, w.plain) in
    let whole : unhexed g (replicate 18 0) ≡ read_into (Some (length g / 2)) (onto (octets_of g) (replicate 18 0)) = rw hex in
    let is = u ∙ ap (λ x. unhexed x (replicate 18 0)) text ∙ whole in
    (ap (λ (x : Unhexed). x.answer) is ∙ ap Some (sym long), omega (arith, long), ap (λ (x : Unhexed). x.out) is)
