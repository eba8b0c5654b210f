-- What a label reads as does not depend on case and separators: octets in print, in whatever style, are judged as those octets; and a
-- text that spells octets is these octets in print, in some style.
-- Assumes nothing.
use mathlib.Core.Path.{◌≡◌, refl, sym, ap, ap₂, ◌∙◌}
use mathlib.Core.Bool.{Bool, true, false}
use mathlib.Core.List.{List, [], ◌∷◌, ◌++◌}
use Prim.Native.Nat.{ℕ, zero, suc, ◌+◌, ◌-◌, ◌*◌, ◌/◌, ◌%◌, ◌≤◌, ◌<◌}
use native.Mathlib.Omega.{arith}
use lib.Dec.{eqb, ltb}
use borrow.Author.Tests.{eqb-true, lt-ltb, le-ltb, ltb-true, ltb-false}
use Rattle.std.specs.Prelude.{if◌then◌else◌}
use Rattle.octets.specs.Choice.{both}
use Rattle.octets.specs.Lists.{Octets}
use Rattle.octets.proofs.AllOctets.{tail-octets}
use Rattle.octets.proofs.Choices.{choose, both-parts}
use Rattle.text.specs.Digits.{digit_of}
use Rattle.text.specs.Hex.{octets_of}
use Rattle.labels.specs.declared.spelling.Next.TheVariants.{Octet, Digit, Behind}
use Rattle.labels.specs.Codes.{code_length}
use Rattle.labels.specs.Spelling.{Gap, nothing, space, hyphen, gap_text, Case, small, capital, digit_in, Style, later, behind, in_print}
use Rattle.labels.specs.Reading.{separator, hex_digit, spells, digits_in, octets_in, judged, read_label}
use Rattle.labels.specs.Code.{spells_on}
use Rattle.labels.proofs.Texts.{never, digit-separator, spells-on}

-- ---- a digit

decimal-back : (d : ℕ) → d < 10 → digit_of (0x30 + d) ≡ d
unfolding digit_of
decimal-back d l = simp (le-ltb (0x30 + d) 48 (omega arith), lt-ltb (0x30 + d) 58 (omega arith)) (omega arith)

small-back : (d : ℕ) → 10 ≤ d → d < 16 → digit_of (0x61 + (d - 10)) ≡ d
unfolding digit_of
small-back d l h =
    let n = 0x61 + (d - 10) in
    simp (
      le-ltb n 48 (omega arith),
      le-ltb n 58 (omega arith),
      le-ltb n 65 (omega arith),
      le-ltb n 71 (omega arith),
      le-ltb n 97 (omega arith),
      lt-ltb n 103 (omega arith),
    ) (omega arith)

capital-back : (d : ℕ) → 10 ≤ d → d < 16 → digit_of (0x41 + (d - 10)) ≡ d
unfolding digit_of
capital-back d l h =
    let n = 0x41 + (d - 10) in
    simp (le-ltb n 48 (omega arith), le-ltb n 58 (omega arith), le-ltb n 65 (omega arith), lt-ltb n 71 (omega arith)) (omega arith)

-- a digit is worth what it was printed for
digit-back : (k : Case) (d : ℕ) → d < 16 → digit_of (digit_in k d) ≡ d
unfolding digit_in
digit-back small d h =
    choose (λ x. digit_of x ≡ d) (ltb d 10) (0x30 + d) (0x61 + (d - 10)) (λ e. decimal-back d (ltb-true d 10 e))
    (λ e. small-back d (ltb-false d 10 e) h)
digit-back capital d h =
    choose (λ x. digit_of x ≡ d) (ltb d 10) (0x30 + d) (0x41 + (d - 10)) (λ e. decimal-back d (ltb-true d 10 e))
    (λ e. capital-back d (ltb-false d 10 e) h)

digit-in : (k : Case) (d : ℕ) → d < 16 → hex_digit (digit_in k d) ≡ true
unfolding hex_digit
digit-in k d h = lt-ltb (digit_of (digit_in k d)) 16 (omega (arith, digit-back k d h))

-- ---- a text in print

-- the text r spells the octets s
record Spelt (r s : List ℕ) : Type 0 where
  whole : spells_on r Octet ≡ true
  octets : octets_of (digits_in r) ≡ s

-- the text r goes on behind an octet, and spells the octets s
record Goes (r s : List ℕ) : Type 0 where
  on : spells_on r Behind ≡ true
  octets : octets_of (digits_in r) ≡ s

-- an octet before it
led : (k j : Case) (x : ℕ) (r s : List ℕ) → x < 256 → Goes r s → Spelt (digit_in k (x / 16) ∷ digit_in j (x % 16) ∷ r) (x ∷ s)
unfolding spells_on digits_in octets_of
led k j x r s h w =
    let u : x / 16 < 16 = omega arith in
    let v : x % 16 < 16 = omega arith in
    let e : x / 16 * 16 + x % 16 ≡ x = omega arith in
    let p = digit-in k (x / 16) u in
    let q = digit-in j (x % 16) v in
    record {
      whole = rw (p, q) w.on;
      octets =
          rw (digit-separator (digit_in k (x / 16)) p, digit-separator (digit_in j (x % 16)) q)
          (ap₂ (λ (y : ℕ) (m : List ℕ). y ∷ m)
          (ap₂ (λ (a b : ℕ). a * 16 + b) (digit-back k (x / 16) u) (digit-back j (x % 16) v) ∙ e) w.octets);
    }

-- a gap before that
parted : (g : Gap) (c : ℕ) (r s : List ℕ) → hex_digit c ≡ true → Spelt (c ∷ r) s → Goes (gap_text g ++ (c ∷ r)) s
unfolding spells_on digits_in separator
parted nothing c r s h w = record { on = rw (digit-separator c h) w.whole; octets = w.octets }
parted space c r s h w = record { on = w.whole; octets = w.octets }
parted hyphen c r s h w = record { on = w.whole; octets = w.octets }

behind-goes : (p : Style) (s : List ℕ) → Octets s → Goes (behind p s) s
unfolding behind spells_on digits_in octets_of
behind-goes p [] o = record { on = refl; octets = refl }
behind-goes p (x ∷ s) o =
    let b : x < 256 = o.octet 0 in
    parted (p.gap 0) (digit_in (p.high 0) (x / 16)) (digit_in (p.low 0) (x % 16) ∷ behind (later p) s) (x ∷ s)
    (digit-in (p.high 0) (x / 16) (omega arith))
    (led (p.high 0) (p.low 0) x (behind (later p) s) s b (behind-goes (later p) s (tail-octets o)))

-- octets in print, one at least, spell these octets
pub style-spells : (p : Style) (x : ℕ) (s : List ℕ) → Octets (x ∷ s)
    → (spells (in_print p (x ∷ s)) ≡ true) × (octets_in (in_print p (x ∷ s)) ≡ x ∷ s)
unfolding in_print octets_in
style-spells p x s o =
    let w = led (p.high 0) (p.low 0) x (behind (later p) s) s (o.octet 0) (behind-goes (later p) s (tail-octets o)) in
    (spells-on _ ∙ w.whole, w.octets)

-- octets in print are judged as these octets
pub any-style : (p : Style) (o : List ℕ) → Octets o → read_label (in_print p o) ≡ judged o
unfolding in_print read_label spells judged code_length
any-style p [] o = refl
any-style p (x ∷ s) o = let w = style-spells p x s o in rw (w.0, w.1)

-- ---- a text that spells octets, in its own style

-- a digit is printed in one of the cases
record Cased (c : ℕ) : Type 0 where
  case : Case
  so : digit_in case (digit_of c) ≡ c

cased : (c : ℕ) → hex_digit c ≡ true → Cased c
unfolding hex_digit digit_of digit_in
cased c e = go (ltb c 48) refl (ltb c 58) refl (ltb c 65) refl (ltb c 71) refl (ltb c 97) refl (ltb c 103) refl e
  where
    none : {A : Type 0} → digit_of c ≡ 16 → hex_digit c ≡ true → A
    none d e = absurd (omega (arith, ltb-true (digit_of c) 16 e))

    go : (a : Bool) → ltb c 48 ≡ a → (b : Bool) → ltb c 58 ≡ b → (k : Bool) → ltb c 65 ≡ k → (l : Bool) → ltb c 71 ≡ l → (m : Bool)
        → ltb c 97 ≡ m → (n : Bool) → ltb c 103 ≡ n → hex_digit c ≡ true → Cased c
    go true p b q k r l s m t n u e = none (rw p) e
    go false p true q k r l s m t n u e =
        let low = ltb-false c 48 p in
        let high = ltb-true c 58 q in
        record { case = small; so = rw (p, q) (rw (lt-ltb (c - 48) 10 (omega arith)) (omega arith)) }
    go false p false q true r l s m t n u e = none (rw (p, q, r)) e
    go false p false q false r true s m t n u e =
        let low = ltb-false c 65 r in
        let high = ltb-true c 71 s in
        record { case = capital; so = rw (p, q, r, s) (rw (le-ltb (c - 55) 10 (omega arith)) (omega arith)) }
    go false p false q false r false s true t n u e = none (rw (p, q, r, s, t)) e
    go false p false q false r false s false t true u e =
        let low = ltb-false c 97 t in
        let high = ltb-true c 103 u in
        record { case = small; so = rw (p, q, r, s, t, u) (rw (le-ltb (c - 87) 10 (omega arith)) (omega arith)) }
    go false p false q false r false s false t false u e = none (rw (p, q, r, s, t, u)) e

-- one choice, then those of f
abbrev first : {A : Type 0} → A → (ℕ → A) → ℕ → A
first a f zero = a
first a f (suc i) = f i

-- the text s is its octets in print, in that style
pub record InStyle (s : List ℕ) : Type 0 where
  pub style : Style
  pub so : in_print style (octets_in s) ≡ s

-- or stands so behind others
record BehindStyle (s : List ℕ) : Type 0 where
  style : Style
  so : behind style (octets_in s) ≡ s

-- two digits before the rest
octet-styled : (a b : ℕ) (s : List ℕ) → hex_digit a ≡ true → hex_digit b ≡ true → BehindStyle s → InStyle (a ∷ b ∷ s)
unfolding in_print octets_in digits_in octets_of hex_digit
octet-styled a b s p q w =
    let k = cased a p in
    let j = cased b q in
    let u = ltb-true (digit_of a) 16 p in
    let v = ltb-true (digit_of b) 16 q in
    let high : (digit_of a * 16 + digit_of b) / 16 ≡ digit_of a = omega arith in
    let low : (digit_of a * 16 + digit_of b) % 16 ≡ digit_of b = omega arith in
    record {
      style = record { gap = first nothing w.style.gap; high = first k.case w.style.high; low = first j.case w.style.low };
      so = rw (digit-separator a p, digit-separator b q, high, low, k.so, j.so, w.so);
    }

-- the style p with another first gap
abbrev after : Gap → Style → Style
after g p = record { gap = first g (later p).gap; high = p.high; low = p.low }

-- a gap before a text
gapped : (g : Gap) (p : Style) (o s : List ℕ) → spells_on s Octet ≡ true → in_print p o ≡ s → behind (after g p) o ≡ gap_text g ++ s
unfolding behind in_print spells_on
gapped g p [] s e q = never (ap (λ l. spells_on l Octet) q ∙ e)
gapped g p (x ∷ o) s e q = ap (λ r. gap_text g ++ r) q

gap-styled : (g : Gap) (s : List ℕ) → spells_on s Octet ≡ true → octets_in (gap_text g ++ s) ≡ octets_in s → InStyle s
    → BehindStyle (gap_text g ++ s)
gap-styled g s e d w =
    record { style = after g w.style; so = ap (behind (after g w.style)) d ∙ gapped g w.style (octets_in s) s e w.so }

-- what is to come next decides of what the text is to be in print
record Styled (s : List ℕ) : Type 0 where
  octet : spells_on s Octet ≡ true → InStyle s
  digit : (a : ℕ) → hex_digit a ≡ true → spells_on s Digit ≡ true → InStyle (a ∷ s)
  gap : spells_on s Behind ≡ true → BehindStyle s

-- behind an octet stands a separator and then an octet, or an octet
gap-next : (c : ℕ) (s : List ℕ) → Styled s → (t : Bool) → separator c ≡ t
    → (if t then spells_on s Octet else both (hex_digit c) (spells_on s Digit)) ≡ true → BehindStyle (c ∷ s)
unfolding separator octets_in digits_in spells_on
gap-next c s w true q e = go (eqb c 0x20) refl q
  where
    go : (t : Bool) → eqb c 0x20 ≡ t → (if t then true else eqb c 0x2d) ≡ true → BehindStyle (c ∷ s)
    go true p r = rw (eqb-true c 0x20 p) (gap-styled space s e refl (w.octet e))
    go false p r = rw (eqb-true c 0x2d r) (gap-styled hyphen s e refl (w.octet e))
gap-next c s w false q e =
    let p = both-parts (hex_digit c) (spells_on s Digit) e in
    gap-styled nothing (c ∷ s) e refl (w.digit c p.0 p.1)

styled : (s : List ℕ) → Styled s
unfolding spells_on octets_in digits_in octets_of behind
styled [] =
    record {
      octet = never;
      digit = λ a h e. never e;
      gap = λ e. record { style = record { gap = λ _. nothing; high = λ _. small; low = λ _. small }; so = refl };
    }
styled (c ∷ s) =
    let w = styled s in
    record {
      octet = λ e. let p = both-parts (hex_digit c) (spells_on s Digit) e in w.digit c p.0 p.1;
      digit = λ a h e. let p = both-parts (hex_digit c) (spells_on s Behind) e in octet-styled a c s h p.0 (w.gap p.1);
      gap = gap-next c s w (separator c) refl;
    }

-- a text that spells octets is these octets in print
pub some-style : (s : List ℕ) → spells s ≡ true → InStyle s
some-style s e = (styled s).octet (sym (spells-on s) ∙ e)
