-- The security bit set in a plain frame's header: it changes neither the form nor the header's length, and clearing it
-- gives the plain header back.
-- Assumes nothing.
use mathlib.Core.Path.{◌≡◌, refl, sym, ap, ap₂, ◌∙◌}
use mathlib.Core.Bool.{Bool, true, false}
use mathlib.Core.List.{List, ◌++◌}
use Prim.Native.Nat.{ℕ, ◌+◌, ◌*◌, ◌/◌, ◌%◌, ◌≤◌, ◌<◌}
use native.Mathlib.Nat.{add-div_right, add-mul-div_left, add-mul-mod_self_left, div-div-eq-div-mul}
use native.Mathlib.Omega.{arith}
use lib.Dec.{eqb, ltb}
use lib.ListN.{length, take, set, length-append, length-set, get_or-append}
use lib.Seq.{length-take-le, get_or-set_same, get_or-set_other, get_or-take, set-set, set-get_or, take_at}
use borrow.Author.Tests.{eq-eqb, eqb-false, lt-ltb, le-ltb, ltb-true}
use Rattle.settings.specs.Settings.{Settings}
use Rattle.octets.proofs.Numbers.{number-two}
use Rattle.std.specs.Prelude.{if◌then◌else◌}
use Rattle.octets.specs.Least.{number_at}
use Rattle.octets.specs.Lists.{at, Octets}
use Rattle.frames.specs.declared.Layer.{Layer}
use Rattle.frames.specs.declared.Layer.TheVariants.{Network, Aps}
use Rattle.frames.specs.Network.{network_control, network_form, network_secured, network_base, network_header}
use Rattle.frames.specs.Aps.{aps_type, delivery, ack_format, aps_form, aps_secured, aps_header}
use Rattle.frames.specs.Making.{bit_place, bit_value, cleared, marked, plain_header, secured_header}
use Rattle.frames.specs.Layers.{control_octets, control_of, form_of, secured_bit, header_of, given_to}
use Rattle.frames.specs.Reading.{read_secured, reading}
use Rattle.frames.proofs.Layers.{least_header, header_in, opening, reading-is}
use Rattle.frames.proofs.Found.{PlainFrame}

-- the bit's value in the control field
abbrev mark : Layer → ℕ
mark Network = 512
mark Aps = 32

ltb-same : (a m b n : ℕ) → (a < m → b < n) → (b < n → a < m) → ltb a m ≡ ltb b n
ltb-same a m b n p q = go (ltb a m) (ltb b n) refl refl
  where
    go : (u v : Bool) → ltb a m ≡ u → ltb b n ≡ v → u ≡ v
    go true true x y = refl
    go true false x y = sym (lt-ltb b n (p (ltb-true a m x))) ∙ y
    go false true x y = sym x ∙ lt-ltb a m (q (ltb-true b n y))
    go false false x y = refl

-- a digit below the bit that is added, and a number above it
below : (c d n k : ℕ) → 0 < d → (c + d * (n * k)) / d % n ≡ c / d % n
below c d n k h = ap (λ (x : ℕ). x % n) (add-mul-div_left c (n * k) h) ∙ add-mul-mod_self_left (c / d) n k

pub above : (c v t : ℕ) → 0 < v → c / v % 2 ≡ 0 → (c + v) / (v * (2 * t)) ≡ c / (v * (2 * t))
above c v t h e =
    sym (parts (c + v)) ∙ ap (λ (x : ℕ). x / t) (ap (λ (x : ℕ). x / 2) (add-div_right c h) ∙ omega arith) ∙ parts c
  where
    parts : (x : ℕ) → x / v / 2 / t ≡ x / (v * (2 * t))
    parts x = div-div-eq-div-mul (x / v) 2 t ∙ div-div-eq-div-mul x v (2 * t)

-- ---- the control field

pub bit-clear : (l : Layer) (c : ℕ) → secured_bit l c ≡ false → c / mark l % 2 ≡ 0
unfolding network_secured aps_secured
bit-clear Network c e = omega (arith, eqb-false (c / 512 % 2) 1 e)
bit-clear Aps c e = omega (arith, eqb-false (c / 32 % 2) 1 e)

pub marked-bit : (l : Layer) (c : ℕ) → secured_bit l c ≡ false → secured_bit l (c + mark l) ≡ true
unfolding network_secured aps_secured
marked-bit Network c e = let z = bit-clear Network c e in eq-eqb ((c + 512) / 512 % 2) 1 (omega arith)
marked-bit Aps c e = let z = bit-clear Aps c e in eq-eqb ((c + 32) / 32 % 2) 1 (omega arith)

pub marked-form : (l : Layer) (c : ℕ) → secured_bit l c ≡ false → form_of l (c + mark l) ≡ form_of l c
unfolding network_form aps_form aps_type delivery ack_format
marked-form Network c e =
    let z = bit-clear Network c e in
    simp (
      add-mul-mod_self_left c 4 128,
      below c 4 16 8 (omega arith),
      below c 64 4 2 (omega arith),
      below c 256 2 1 (omega arith),
      ltb-same (c + 512) 16384 c 16384 (λ h. omega arith) (λ h. omega arith),
    )
marked-form Aps c e =
    let z = bit-clear Aps c e in
    simp (
      add-mul-mod_self_left c 4 8,
      below c 4 4 2 (omega arith),
      below c 16 2 1 (omega arith),
      ltb-same (c + 32) 128 c 128 (λ h. omega arith) (λ h. omega arith),
    )

-- the header's length, of a list that has the same octets in the header behind the control field
marked-header : (l : Layer) (f g : List ℕ) (c : ℕ) → secured_bit l c ≡ false
    → ((j : ℕ) → 2 ≤ j → j < header_of l f c → at g j ≡ at f j) → header_of l g (c + mark l) ≡ header_of l f c
unfolding network_header network_base aps_header aps_type delivery ack_format
marked-header Network f g c e same =
    let z = bit-clear Network c e in
    let k : 0 < 512 = omega arith in
    simp (above c 512 1 k z, above c 512 2 k z, above c 512 4 k z) (go (eqb (c / 1024 % 2) 1) same)
  where
    b : ℕ
    b = 8 + 8 * (c / 2048 % 2) + 8 * (c / 4096 % 2)

    go : (t : Bool) → ((j : ℕ) → 2 ≤ j → j < (if t then b + 2 + 2 * at f b else b) → at g j ≡ at f j)
        → (if t then b + 2 + 2 * at g b else b) ≡ (if t then b + 2 + 2 * at f b else b)
    go true same = ap (λ (x : ℕ). b + 2 + 2 * x) (same b (omega arith) (omega arith))
    go false same = refl
marked-header Aps f g c e same = simp (add-mul-mod_self_left c 4 8, below c 4 4 2 (omega arith), below c 16 2 1 (omega arith))

-- ---- the header with the bit set

module _ (l : Layer) (f : List ℕ) (h : ℕ) (p : PlainFrame l f h) where
  place-below : bit_place l < h
  place-below = go l p.least
    where
      go : (l : Layer) → least_header l ≤ h → bit_place l < h
      go Network k = omega arith
      go Aps k = omega arith

  front : length (take h f) ≡ h
  front = length-take-le h f p.within

  pub secured-length : length (secured_header l f h) ≡ h
  unfolding secured_header
  secured-length = length-set (take h f) (bit_place l) _ ∙ front

  module _ (r : List ℕ) where
    at-bit : at (secured_header l f h ++ r) (bit_place l) ≡ marked (bit_value l) (at f (bit_place l))
    unfolding secured_header
    at-bit =
        get_or-append (secured_header l f h) r 0 (bit_place l) (rw secured-length place-below)
        ∙ get_or-set_same (take h f) (bit_place l) _ 0 (rw front place-below)

    at_other : (j : ℕ) → j < h → (j ≡ bit_place l → ⊥) → at (secured_header l f h ++ r) j ≡ at f j
    unfolding secured_header
    at_other j k n =
        get_or-append (secured_header l f h) r 0 j (rw secured-length k)
        ∙ get_or-set_other (take h f) (bit_place l) j _ 0 n
        ∙ get_or-take h f j 0 k

-- ---- the bit in its octet

marked-clear : (v x : ℕ) → x / v % 2 ≡ 0 → marked v x ≡ x + v
unfolding marked cleared
marked-clear v x e = rw e (omega arith)

cleared-back : (l : Layer) (x : ℕ) → x / bit_value l % 2 ≡ 0 → cleared (bit_value l) (x + bit_value l) ≡ x
unfolding cleared
cleared-back Network x e = omega arith
cleared-back Aps x e = omega arith

octet-clear : (l : Layer) (f : List ℕ) → Octets f → secured_bit l (control_of l f) ≡ false → at f (bit_place l) / bit_value l % 2 ≡ 0
unfolding network_control
octet-clear Network f o e = omega (arith, bit-clear Network (number_at 2 f 0) e, number-two f 0, o.octet 0)
octet-clear Aps f o e = bit-clear Aps (at f 0) e

module _ (l : Layer) (f : List ℕ) (h : ℕ) (p : PlainFrame l f h) (o : Octets f) (r : List ℕ) where
  octet-marked : at (secured_header l f h ++ r) (bit_place l) ≡ at f (bit_place l) + bit_value l
  octet-marked = at-bit l f h p r ∙ marked-clear (bit_value l) (at f (bit_place l)) (octet-clear l f o p.unmarked)

  -- the plain header again
  pub plain-again : plain_header l (secured_header l f h ++ r) h ≡ take h f
  unfolding plain_header secured_header
  plain-again =
      ap₂ (λ (x : List ℕ) (v : ℕ). set x (bit_place l) v) (take_at (secured_header l f h) r h (secured-length l f h p))
      (ap (cleared (bit_value l)) octet-marked
      ∙ cleared-back l (at f (bit_place l)) (octet-clear l f o p.unmarked)
      ∙ sym (get_or-take h f (bit_place l) 0 (place-below l f h p)))
      ∙ set-set (take h f) (bit_place l) _ _
      ∙ set-get_or (take h f) (bit_place l) 0

pub control-marked : (l : Layer) (f : List ℕ) (h : ℕ) (p : PlainFrame l f h) → Octets f → (r : List ℕ)
    → control_of l (secured_header l f h ++ r) ≡ control_of l f + mark l
unfolding network_control
control-marked Network f h p o r =
    let n : (◌≡◌ {A = ℕ} 0 1 → ⊥) = λ e. omega arith in
    omega (
      arith,
      number-two (secured_header Network f h ++ r) 0,
      number-two f 0,
      octet-marked Network f h p o r,
      at_other Network f h p r 0 (omega (arith, p.least)) n,
    )
control-marked Aps f h p o r = octet-marked Aps f h p o r

-- ---- the frame with the bit set is read as secured, behind the same header

opening-secured : {s q u : Bool} (z : Settings) (l : Layer) (f : List ℕ) (h a : ℕ) → s ≡ false → q ≡ true → u ≡ true
    → opening z s q u l f h a ≡ read_secured z l f h a
opening-secured z l f h a x y w = simp (x, y, w)

control-within : (l : Layer) → control_octets l ≤ least_header l
control-within Network = omega arith
control-within Aps = omega arith

bit-early : (l : Layer) (j : ℕ) → 2 ≤ j → j ≡ bit_place l → ⊥
bit-early Network j k e = omega arith
bit-early Aps j k e = omega arith

module _ (l : Layer) (f : List ℕ) (h : ℕ) (p : PlainFrame l f h) (o : Octets f) (r : List ℕ) where
  head-kept : header_in l (secured_header l f h ++ r) ≡ h
  head-kept =
      ap (header_of l (secured_header l f h ++ r)) (control-marked l f h p o r)
      ∙ marked-header l f (secured_header l f h ++ r) (control_of l f) p.unmarked
      (λ j a b. at_other l f h p r j (rw p.head b) (bit-early l j a))
      ∙ sym p.head

  pub read-marked : (z : Settings) (a : ℕ)
      → reading z l (secured_header l f h ++ r) a ≡ read_secured z l (secured_header l f h ++ r) h (given_to l a)
  read-marked z a =
      reading-is z l (secured_header l f h ++ r) a
      ∙ opening-secured z l (secured_header l f h ++ r) _ (given_to l a) (le-ltb _ _ long)
      (ap (form_of l) (control-marked l f h p o r) ∙ marked-form l (control_of l f) p.unmarked ∙ p.formed)
      (ap (secured_bit l) (control-marked l f h p o r) ∙ marked-bit l (control_of l f) p.unmarked)
      ∙ ap (λ (n : ℕ). read_secured z l (secured_header l f h ++ r) n (given_to l a)) head-kept
    where
      long : control_octets l ≤ length (secured_header l f h ++ r)
      long = simp length-append (omega (arith, control-within l, p.least, secured-length l f h p))
