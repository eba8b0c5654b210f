-- What reading a frame found, where it refused nothing: of a secured frame, and of an unsecured one.
-- Assumes nothing.
use mathlib.Core.Path.{◌≡◌, refl, sym, subst, ◌∙◌}
use mathlib.Core.Logic.{◌⊎◌, inl, inr}
use mathlib.Core.Bool.{Bool, true, false, not}
use mathlib.Core.List.{List}
use Prim.Native.Nat.{ℕ, ◌+◌, ◌/◌, ◌%◌, ◌≤◌}
use native.Mathlib.Omega.{arith}
use lib.Dec.{eqb, leb, ltb}
use lib.ListN.{length}
use borrow.Author.Tests.{ltb-false, eqb-true, eqb-false, not-true, not-false}
use Rattle.settings.specs.Settings.{Settings}
use Rattle.octets.proofs.Choices.{choose, both-parts}
use Rattle.std.specs.Prelude.{if◌then◌else◌}
use Rattle.octets.specs.Lists.{at}
use Rattle.frames.specs.declared.Secured.{Secured}
use Rattle.frames.specs.declared.Layer.{Layer}
use Rattle.frames.specs.declared.Layer.TheVariants.{Network, Aps}
use Rattle.frames.specs.Security.{identifier_of, extended_of, aux_length, sender_of}
use Rattle.frames.specs.Network.{network_base, network_header, network_keyed}
use Rattle.frames.specs.Aps.{aps_type, delivery, ack_format, aps_header, aps_keyed}
use Rattle.frames.specs.Layers.{control_of, header_of, suits, given_to}
use Rattle.frames.specs.Reading.{Reading, refused, plain, secured, announced, read_secured, read_plain, reading, unread, headed, reading_plain}
use Rattle.frames.proofs.Controls.{extended-most, aux-numbered, aux-unnumbered}
use Rattle.frames.proofs.Layers.{least_header, opening, sealing, short_in, form_in, bit_in, header_in, reading-is, reading_plain-is}
use Rattle.octets.specs.Addresses.{no_address}

refused-secured : {A : Type 0} (n : ℕ) (s : Secured) → refused n ≡ secured s → A
refused-secured n s e = let z : ◌≡◌ {A = ℕ} 0 1 = cc in absurd (omega arith)

refused-plain : {A : Type 0} (n h : ℕ) → refused n ≡ plain h → A
refused-plain n h e = let z : ◌≡◌ {A = ℕ} 0 1 = cc in absurd (omega arith)

unread-headed : {A : Type 0} (n h : ℕ) → unread n ≡ headed h → A
unread-headed n h e = let z : ◌≡◌ {A = ℕ} 0 1 = cc in absurd (omega arith)

plain-secured : {A : Type 0} (h : ℕ) (s : Secured) → plain h ≡ secured s → A
plain-secured h s e = let z : ◌≡◌ {A = ℕ} 0 1 = cc in absurd (omega arith)

-- ---- what a control tells

-- the auxiliary header's length: a network frame's has sender and key sequence number, an APS frame's may have the sender
abbrev pub Auxed : Layer → ℕ → Type 0
Auxed Network n = n ≡ 14
Auxed Aps n = (n ≡ 5) ⊎ (n ≡ 13)

aux-suited : (l : Layer) (x : ℕ) → suits l x ≡ true → Auxed l (aux_length x)
unfolding network_keyed aps_keyed
aux-suited Network x e =
    let b = both-parts (eqb (identifier_of x) 1) (eqb (extended_of x) 1) e in
    let n = aux-numbered x (eqb-true (identifier_of x) 1 b.0) in
    omega (arith, eqb-true (extended_of x) 1 b.1)
aux-suited Aps x e =
    let u = aux-unnumbered x (eqb-false (identifier_of x) 1 (not-true _ e)) in
    choose (λ _. (aux_length x ≡ 5) ⊎ (aux_length x ≡ 13)) (eqb (extended_of x) 1) true false
    (λ q. inr (omega (arith, eqb-true (extended_of x) 1 q)))
    (λ q. inl (omega (arith, eqb-false (extended_of x) 1 q, extended-most x)))

header-least : (l : Layer) (f : List ℕ) (c : ℕ) → least_header l ≤ header_of l f c
unfolding network_header network_base aps_header
header-least Network f c = choose (λ n. 8 ≤ n) (eqb (c / 1024 % 2) 1) _ _ (λ _. omega arith) (λ _. omega arith)
header-least Aps f c =
    choose (λ n. 2 ≤ n) (eqb (aps_type c) 0) _ _
    (λ _. choose (λ n. 2 ≤ n) (eqb (delivery c) 3) _ _ (λ _. omega arith) (λ _. omega arith))
    (λ _. choose (λ n. 2 ≤ n) (eqb (aps_type c) 1) _ _ (λ _. omega arith)
    (λ _. choose (λ n. 2 ≤ n) (eqb (ack_format c) 1) _ _ (λ _. omega arith) (λ _. omega arith)))

-- ---- behind a header of h octets

module _ (z : Settings) (l : Layer) (f : List ℕ) (h a : ℕ) where
  record Behind (s : Secured) : Type 0 where
    pub suited : suits l (at f h) ≡ true
    pub whole : h + aux_length (at f h) + z.tag ≤ length f
    pub someone : no_address (sender_of f h a) ≡ false
    pub fields : s ≡ announced f h a

  -- what holds of each way out holds of reading
  ways : (P : Reading → Type 0) → P (refused 3) → P (refused 5)
      → (suits l (at f h) ≡ true → h + aux_length (at f h) + z.tag ≤ length f → no_address (sender_of f h a) ≡ false
      → P (secured (announced f h a)))
      → P (read_secured z l f h a)
  unfolding read_secured
  ways P p q r =
      choose P (leb (length f) h) _ _ (λ _. p)
      λ _. choose P (not (suits l (at f h))) _ _ (λ _. q)
      λ x. choose P (ltb (length f) (h + aux_length (at f h) + z.tag)) _ _ (λ _. p)
      λ y. choose P (no_address (sender_of f h a)) _ _ (λ _. q)
      λ w. r (not-false _ x) (ltb-false _ _ y) w

  behind : (s : Secured) → read_secured z l f h a ≡ secured s → Behind s
  behind s =
      ways (λ r. r ≡ secured s → Behind s) (refused-secured 3 s) (refused-secured 5 s)
      (λ x y w e. record { suited = x; whole = y; someone = w; fields = cc })

  secured-not : (n : ℕ) → read_secured z l f h a ≡ plain n → ⊥
  secured-not n =
      ways (λ r. r ≡ plain n → ⊥) (refused-plain 3 n) (refused-plain 5 n)
      (λ _ _ _ e. plain-secured n (announced f h a) (sym e))

module _ (f : List ℕ) (h : ℕ) where
  plain-not : (s : Secured) → read_plain f h ≡ secured s → ⊥
  unfolding read_plain
  plain-not s = choose (λ r. r ≡ secured s → ⊥) (ltb (length f) h) _ _ (λ _ e. refused-secured 3 s e) (λ _ e. plain-secured h s e)

  plain-behind : (n : ℕ) → read_plain f h ≡ plain n → (n ≡ h) × (h ≤ length f)
  unfolding read_plain
  plain-behind n =
      choose (λ r. r ≡ plain n → (n ≡ h) × (h ≤ length f)) (ltb (length f) h) _ _ (λ _ e. refused-plain 3 n e)
      (λ t e. (cc, ltb-false _ _ t))

  headed-behind : (n : ℕ) → (if ltb (length f) h then unread 3 else headed h) ≡ headed n → (n ≡ h) × (h ≤ length f)
  headed-behind n =
      choose (λ r. r ≡ headed n → (n ≡ h) × (h ≤ length f)) (ltb (length f) h) _ _ (λ _ e. unread-headed 3 n e)
      (λ t e. (cc, ltb-false _ _ t))

-- ---- the whole frame

-- a frame of layer l that was read as secured and announces s; a is the caller's sender address
pub record SecuredFrame (z : Settings) (l : Layer) (f : List ℕ) (a : ℕ) (s : Secured) : Type 0 where
  pub formed : form_in l f ≡ true
  pub marked : bit_in l f ≡ true
  pub suited : suits l s.control ≡ true
  pub head : s.header ≡ header_in l f
  pub least : least_header l ≤ s.header
  pub auxed : Auxed l s.aux
  pub whole : s.header + s.aux + z.tag ≤ length f
  pub someone : no_address s.sender ≡ false
  pub fields : s ≡ announced f s.header (given_to l a)

-- a frame of layer l that was read as unsecured, with h octets of header
pub record PlainFrame (l : Layer) (f : List ℕ) (h : ℕ) : Type 0 where
  pub formed : form_in l f ≡ true
  pub unmarked : bit_in l f ≡ false
  pub head : h ≡ header_in l f
  pub least : least_header l ≤ h
  pub within : h ≤ length f

pub secured-frame : (z : Settings) (l : Layer) (f : List ℕ) (a : ℕ) (s : Secured) → reading z l f a ≡ secured s
    → SecuredFrame z l f a s
unfolding announced
secured-frame z l f a s e = go (short_in l f) (form_in l f) (bit_in l f) refl refl (sym (reading-is z l f a) ∙ e)
  where
    made : form_in l f ≡ true → bit_in l f ≡ true → Behind z l f (header_in l f) (given_to l a) s
        → SecuredFrame z l f a (announced f (header_in l f) (given_to l a))
    made x y b =
        record {
          formed = x;
          marked = y;
          suited = b.suited;
          head = refl;
          least = header-least l f (control_of l f);
          auxed = aux-suited l (at f (header_in l f)) b.suited;
          whole = b.whole;
          someone = b.someone;
          fields = refl;
        }

    go : (p q u : Bool) → form_in l f ≡ q → bit_in l f ≡ u → opening z p q u l f (header_in l f) (given_to l a) ≡ secured s
        → SecuredFrame z l f a s
    go true q u x y e = refused-secured 3 s e
    go false false u x y e = refused-secured 4 s e
    go false true true x y e =
        let b = behind z l f (header_in l f) (given_to l a) s e in
        subst (SecuredFrame z l f a) (sym b.fields) (made x y b)
    go false true false x y e = absurd (plain-not f (header_in l f) s e)

module _ (l : Layer) (f : List ℕ) (h : ℕ) where
  unsecured : form_in l f ≡ true → bit_in l f ≡ false → (h ≡ header_in l f) × (header_in l f ≤ length f) → PlainFrame l f h
  unsecured x y b =
      record {
        formed = x;
        unmarked = y;
        head = b.0;
        least = omega (arith, header-least l f (control_of l f), b.0);
        within = omega (arith, b.0, b.1);
      }

  pub plain-frame : (z : Settings) (a : ℕ) → reading z l f a ≡ plain h → PlainFrame l f h
  plain-frame z a e = go (short_in l f) (form_in l f) (bit_in l f) refl refl (sym (reading-is z l f a) ∙ e)
    where
      go : (p q u : Bool) → form_in l f ≡ q → bit_in l f ≡ u → opening z p q u l f (header_in l f) (given_to l a) ≡ plain h
          → PlainFrame l f h
      go true q u x y e = refused-plain 3 h e
      go false false u x y e = refused-plain 4 h e
      go false true true x y e = absurd (secured-not z l f (header_in l f) (given_to l a) h e)
      go false true false x y e = unsecured x y (plain-behind f (header_in l f) h e)

  -- as sealing reads it
  pub plain-to-seal : reading_plain l f ≡ headed h → PlainFrame l f h
  plain-to-seal e = go (short_in l f) (form_in l f) (bit_in l f) refl refl (sym (reading_plain-is l f) ∙ e)
    where
      go : (p q u : Bool) → form_in l f ≡ q → bit_in l f ≡ u → sealing p q u f (header_in l f) ≡ headed h → PlainFrame l f h
      go true q u x y e = unread-headed 3 h e
      go false false u x y e = unread-headed 4 h e
      go false true true x y e = unread-headed 4 h e
      go false true false x y e = unsecured x y (headed-behind f (header_in l f) h e)
