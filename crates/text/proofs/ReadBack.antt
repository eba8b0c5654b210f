-- What is written is read back: octets in hex, addresses and decimals.
-- Assumes nothing.
use mathlib.Core.Path.{◌≡◌, refl, sym, ap₂, ◌∙◌}
use mathlib.Core.Bool.{Bool, true, false, cond}
use mathlib.Core.List.{List, [], ◌∷◌, ◌++◌}
use Prim.Native.Nat.{ℕ, zero, suc, ◌+◌, ◌*◌, ◌/◌, ◌%◌, ◌^◌, ◌≤◌, ◌<◌}
use native.Mathlib.Omega.{arith}
use lib.Dec.{ltb, lit<}
use lib.ListN.{length, length-append, get_or-append}
use borrow.Author.Tests.{lt-ltb, le-ltb, le-leb, eq-eqb, ne_eqb, ltb-true, ltb-false}
use Rattle.io.specs.Digits.{hex_digit_ascii, last_digits}
use Rattle.octets.proofs.AllOctets.{tail-octets}
use Rattle.octets.proofs.Choices.{choose}
use Rattle.octets.specs.Choice.{both}
use Rattle.octets.specs.Lists.{at, onto, Octets}
use Rattle.text.specs.Digits.{digit_of, all_digits, spelt}
use Rattle.text.specs.Hex.{hex_of, octets_of, is_hex, unhexed, read_into, address, address_of}
use Rattle.text.specs.Decimal.{decimal, decimal_in, zero_led, is_decimal, number_of}
use Rattle.std.proofs.Common.{Some}
use Rattle.text.proofs.Hexed.{length-hex}
use Rattle.text.proofs.Decimals.{at-most}

digit_glyph : (d : ℕ) → d < 16 → digit_of (hex_digit_ascii d) ≡ d
unfolding digit_of
digit_glyph d h = go (ltb d 10) refl
  where
    go : (t : Bool) → ltb d 10 ≡ t → digit_of (cond t (48 + d) (87 + d)) ≡ d
    go true e =
        let k : d < 10 = ltb-true d 10 e in
        simp (le-ltb (48 + d) 48 (omega arith), lt-ltb (48 + d) 58 (omega arith)) (omega arith)
    go false e =
        let k : 10 ≤ d = ltb-false d 10 e in
        simp (
          le-ltb (87 + d) 48 (omega arith),
          le-ltb (87 + d) 58 (omega arith),
          le-ltb (87 + d) 65 (omega arith),
          le-ltb (87 + d) 71 (omega arith),
          le-ltb (87 + d) 97 (omega arith),
          lt-ltb (87 + d) 103 (omega arith),
        ) (omega arith)

octets-back : (l : List ℕ) → Octets l → octets_of (hex_of l) ≡ l
unfolding hex_of octets_of
octets-back [] h = refl
octets-back (x ∷ l) h =
    let b : x < 256 = h.octet 0 in
    let e : x / 16 * 16 + x % 16 ≡ x = omega arith in
    ap₂ (λ (y : ℕ) (m : List ℕ). y ∷ m)
    (ap₂ (λ (u v : ℕ). u * 16 + v) (digit_glyph (x / 16) (omega arith)) (digit_glyph (x % 16) (omega arith)) ∙ e)
    (octets-back l (tail-octets h))

hex-digits : (l : List ℕ) → Octets l → all_digits 16 (hex_of l) ≡ true
unfolding hex_of all_digits
hex-digits [] h = refl
hex-digits (x ∷ l) h =
    let b : x < 256 = h.octet 0 in
    let u : x / 16 < 16 = omega arith in
    let v : x % 16 < 16 = omega arith in
    rw (digit_glyph (x / 16) u, digit_glyph (x % 16) v, lt-ltb (x / 16) 16 u, lt-ltb (x % 16) 16 v) (hex-digits l (tail-octets h))

pub hex-back : (l o : List ℕ) → Octets l → length l ≤ length o → unhexed (hex_of l) o ≡ read_into (Some (length l)) (onto l o)
unfolding unhexed is_hex
hex-back l o h r =
    let e : length (hex_of l) / 2 ≡ length l = omega (arith, length-hex l) in
    let f : length (hex_of l) % 2 ≡ 0 = omega (arith, length-hex l) in
    rw (eq-eqb (length (hex_of l) % 2) 0 f, e, le-leb (length l) (length o) r, hex-digits l h, octets-back l h)

-- one more digit behind others
spelt-last : (b n : ℕ) (l : List ℕ) (c : ℕ) → spelt b n (l ++ (c ∷ [])) ≡ spelt b n l * b + digit_of c
unfolding spelt
spelt-last b n [] c = refl
spelt-last b n (d ∷ l) c = spelt-last b (n * b + digit_of d) l c

digits_last : (b : ℕ) (l : List ℕ) (c : ℕ) → all_digits b l ≡ true → digit_of c < b → all_digits b (l ++ (c ∷ [])) ≡ true
unfolding all_digits
digits_last b [] c e h = rw (lt-ltb (digit_of c) b h)
digits_last b (d ∷ l) c e h = go (digits_last b l c) (ltb (digit_of d) b) e
  where
    go : (all_digits b l ≡ true → digit_of c < b → all_digits b (l ++ (c ∷ [])) ≡ true) → (t : Bool) → both t (all_digits b l) ≡ true
        → both t (all_digits b (l ++ (c ∷ []))) ≡ true
    go ih true q = ih q h
    go ih false q = q

-- what the last k digits in base 16 have
record Spelt (k a : ℕ) (l : List ℕ) : Type 0 where
  long : length l ≡ k
  plain : all_digits 16 l ≡ true
  value : spelt 16 0 l ≡ a

digits-spelt : (k a : ℕ) → a < 16 ^ k → Spelt k a (last_digits 16 k a)
unfolding spelt all_digits
digits-spelt zero a h = record { long = refl; plain = refl; value = omega arith }
digits-spelt (suc k) a h =
    let w = digits-spelt k (a / 16) (omega arith) in
    let g = digit_glyph (a % 16) (omega arith) in
    let l = last_digits 16 k (a / 16) in
    record {
      long = simp length-append (omega (arith, w.long));
      plain = digits_last 16 l (hex_digit_ascii (a % 16)) w.plain (omega (arith, g));
      value = spelt-last 16 0 l (hex_digit_ascii (a % 16)) ∙ omega (arith, w.value, g);
    }

address-spelt : (a : ℕ) → a < 2 ^ 64 → Spelt 16 a (address a)
unfolding address
address-spelt a h = digits-spelt 16 a h

pub address-back : (a : ℕ) → a < 2 ^ 64 → address_of (address a) ≡ Some a
unfolding address_of
address-back a h =
    let w = address-spelt a h in
    rw (eq-eqb (length (address a)) 16 w.long, w.plain, w.value)

-- what a decimal has
record Decimal (n : ℕ) (l : List ℕ) : Type 0 where
  some : 0 < length l
  alone : n ≡ 0 → length l ≡ 1
  leads : 0 < n → at l 0 ≡ 48 → ⊥
  plain : all_digits 10 l ≡ true
  value : spelt 10 0 l ≡ n

digit-spelt : (n : ℕ) → n < 10 → Decimal n (hex_digit_ascii n ∷ [])
unfolding all_digits spelt
digit-spelt n h =
    let g = digit_glyph n (omega arith) in
    record {
      some = omega arith;
      alone = λ _. refl;
      leads = λ p e. omega (arith, rw (lt-ltb n 10 h) at e);
      plain = rw (g, lt-ltb n 10 h);
      value = omega (arith, g);
    }

more-spelt : (n : ℕ) (l : List ℕ) → 10 ≤ n → Decimal (n / 10) l → Decimal n (l ++ (hex_digit_ascii (n % 10) ∷ []))
more-spelt n l h w =
    let g = digit_glyph (n % 10) (omega arith) in
    record {
      some = simp length-append (omega arith);
      alone = λ e. absurd (omega arith);
      leads = λ p e. w.leads (omega arith) (sym (get_or-append l (hex_digit_ascii (n % 10) ∷ []) 0 0 w.some) ∙ e);
      plain = digits_last 10 l (hex_digit_ascii (n % 10)) w.plain (omega (arith, g));
      value = spelt-last 10 0 l (hex_digit_ascii (n % 10)) ∙ omega (arith, w.value, g);
    }

decimal-spelt : (k n : ℕ) → n < 10 ^ k → 0 < k → Decimal n (decimal_in k n)
unfolding decimal_in
decimal-spelt zero n h p = absurd (omega arith)
decimal-spelt (suc k) n h p =
    choose (Decimal n) (ltb n 10) (hex_digit_ascii n ∷ []) (decimal_in k (n / 10) ++ (hex_digit_ascii (n % 10) ∷ []))
    (λ e. digit-spelt n (ltb-true n 10 e))
    (λ e. let m : 10 ≤ n = ltb-false n 10 e in more-spelt n (decimal_in k (n / 10)) m (decimal-spelt k (n / 10) (omega arith) (some k h m)))
  where
    some : (k : ℕ) → n < 10 ^ suc k → 10 ≤ n → 0 < k
    some zero h m = absurd (omega arith)
    some (suc k) h m = omega arith

both_false : (t : Bool) → both t false ≡ false
both_false true = refl
both_false false = refl

not-led : (n : ℕ) (l : List ℕ) → Decimal n l → zero_led l ≡ false
unfolding zero_led
not-led zero l w = rw (le-ltb 1 (length l) (omega (arith, w.alone refl)))
not-led (suc n) l w = rw (ne_eqb (at l 0) 48 (w.leads (omega arith))) (both_false (ltb 1 (length l)))

whole-spelt : (n : ℕ) → n < 10 ^ 20 → Decimal n (decimal n)
unfolding decimal
whole-spelt n h = decimal-spelt 20 n h (lit< tt)

pub number-back : (n most : ℕ) → n ≤ most → n < 10 ^ 20 → number_of (decimal n) most ≡ Some n
unfolding number_of is_decimal
number-back n most h k =
    let w = whole-spelt n k in
    rw (lt-ltb 0 (length (decimal n)) w.some, not-led n (decimal n) w, w.plain, w.value) (at-most most n h)
