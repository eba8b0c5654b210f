-- The portions of an inner frame: each lies inside it, the four joined are the inner frame, and all are empty where the router
-- refuses.
-- Assumes nothing.
use Rattle.std.specs.Borrow.{Bor}
use Rattle.std.proofs.Common.{◌≡◌, ℕ, ◌+◌, ◌-◌, ◌≤◌, Bool, true, false, eqb, ◌⊎◌, inl, inr, List, [], ◌++◌, length, take, drop, refl, sym, ap, ap₂, subst, ◌∙◌, arith, length-drop, length-take-le, take-add, drop-drop, eq-eqb, ne_eqb, eqb-true}
use Rattle.octets.proofs.Parts.{same-part}
use Rattle.settings.specs.Settings.{Settings, aps_aux}
use Rattle.octets.specs.Parts.{Part, seen}
use Rattle.answers.specs.Numbers.{ProtectionTold}
use Rattle.commands.specs.declared.Span.{Span}
use Rattle.commands.specs.Table.{least_inner}
use Rattle.commands.specs.Numbers.{CommandTold, untyped, typed}
use Rattle.commands.specs.Reading.{ReadTold, judge}
use Rattle.commands.specs.Parts.{octets_at, cut_at, span, nowhere, inner_span}
use Rattle.commands.proofs.Bounds.{part-within, same_span}
use Rattle.commands.proofs.Inner.{id_of, inner-ways, inner-least, inner-within}
use Rattle.router.specs.declared.Portion.{Portion}
use Rattle.router.specs.declared.Portion.TheVariants.{Whole, Header, Auxiliary, Payload, Tag}
use Rattle.router.specs.Routing.{RouteTold, onward, halted, tunnel_to, route_of, route, size_of, start_of, portion_in, portion_span, handed_on, joined}

-- ---- what the router tells and what it hands on go together

-- a refusal hands nothing on, a destination an inner frame
abbrev Agree : Settings → RouteTold → Span → Type 0
Agree z (halted n) q = q ≡ nowhere
Agree z (onward d) q = least_inner z ≤ q.count

other-stops : (c : CommandTold) → eqb (id_of c) 0x0e ≡ false → tunnel_to c ≡ halted 11
unfolding tunnel_to
other-stops (untyped i xs) e = simp e
other-stops (typed i t xs) e = refl

route-inner : (z : Settings) (f : List ℕ) (p : ProtectionTold) → Agree z (route z f p) (inner_span (length f) (judge z f p))
unfolding route route_of tunnel_to
route-inner z f p =
    inner-ways z f p (λ (r : ReadTold) (q : Span). Agree z (route_of r) q) (λ n. refl)
    (λ c e. subst (λ (t : RouteTold). Agree z t nowhere) (sym (other-stops c e)) refl) (λ l. l)

-- ---- where a portion stands

-- two parts, the second of which starts where the first one ends
meet : (l : List ℕ) (a m n : ℕ) → take m (drop a l) ++ take n (drop (a + m) l) ≡ take (m + n) (drop a l)
meet l a m n = ap (λ (s : List ℕ). take m (drop a l) ++ take n s) (sym (drop-drop m a l)) ∙ sym (take-add m n (drop a l))

module _ (z : Settings) (n : ℕ) (h : least_inner z ≤ n) where
  pub within : (w : Portion) → start_of z w n + size_of z w n ≤ n
  within Whole = omega arith
  within Header = omega arith
  within Auxiliary = omega arith
  within Payload = omega arith
  within Tag = omega arith

  -- header, auxiliary header, payload and tag of the n octets from place a on
  four : (l : List ℕ) (a : ℕ)
      → take 2 (drop (a + 0) l) ++ take aps_aux (drop (a + 2) l) ++ take (size_of z Payload n) (drop (a + (2 + aps_aux)) l)
      ++ take z.tag (drop (a + (2 + aps_aux + size_of z Payload n)) l)
      ≡ take n (drop a l)
  four l a =
      let b = size_of z Payload n in
      let first : a + 0 ≡ a = omega arith in
      let whole : 2 + aps_aux + b + z.tag ≡ n = omega arith in
      ap (λ (i : ℕ). take 2 (drop i l) ++ take aps_aux (drop (a + 2) l) ++ take b (drop (a + (2 + aps_aux)) l)
      ++ take z.tag (drop (a + (2 + aps_aux + b)) l)) first
      ∙ ap (λ (s : List ℕ). s ++ take b (drop (a + (2 + aps_aux)) l) ++ take z.tag (drop (a + (2 + aps_aux + b)) l)) (meet l a 2 aps_aux)
      ∙ ap (λ (s : List ℕ). s ++ take z.tag (drop (a + (2 + aps_aux + b)) l)) (meet l a (2 + aps_aux) b)
      ∙ meet l a (2 + aps_aux + b) z.tag
      ∙ ap (λ (m : ℕ). take m (drop a l)) whole

-- ---- the inner frame of a frame f that came under p

module _ (z : Settings) (f : List ℕ) (p : ProtectionTold) where
  abbrev q : Span
  q = inner_span (length f) (judge z f p)

  pub inner-count : length (octets_at f q) ≡ q.count
  inner-count = length-take-le q.count (drop q.from f) (omega (arith, length-drop q.from f, inner-within z f p))

  -- none is handed on: nowhere
  pub none-on : (w : Portion) → q.count ≡ 0 → portion_span z w f p ≡ q
  unfolding portion_span portion_in
  none-on w e = go (inner-least z f p)
    where
      go : (q ≡ nowhere) ⊎ (least_inner z ≤ q.count) → portion_in z w q ≡ q
      go (inl d) = simp (eq-eqb q.count 0 e) (sym d)
      go (inr l) = absurd (omega arith)

  -- one is
  module _ (some : q.count ≡ 0 → ⊥) where
    pub some-least : least_inner z ≤ q.count
    some-least = go (inner-least z f p)
      where
        go : (q ≡ nowhere) ⊎ (least_inner z ≤ q.count) → least_inner z ≤ q.count
        go (inl d) = absurd (some (ap (λ (x : Span). x.count) d))
        go (inr l) = l

    pub some-on : (w : Portion)
        → portion_span z w f p ≡ span (q.from + start_of z w q.count) (size_of z w q.count)
    unfolding portion_span portion_in
    some-on w = simp (ne_eqb q.count 0 some)

  -- ---- the four joined

  -- the inner frame whole is the reader's own part
  pub whole-span : portion_span z Whole f p ≡ q
  whole-span = go (inner-least z f p)
    where
      go : (q ≡ nowhere) ⊎ (least_inner z ≤ q.count) → portion_span z Whole f p ≡ q
      go (inl d) = none-on Whole (ap (λ (x : Span). x.count) d)
      go (inr l) = some-on (λ e. omega arith) Whole ∙ same_span (omega arith) refl

  pub whole-on : handed_on z Whole f p ≡ octets_at f q
  whole-on = ap (octets_at f) whole-span

  -- "empty if refused"
  pub halted-empty : (n : ℕ) → route z f p ≡ halted n → (w : Portion) → handed_on z w f p ≡ []
  halted-empty n e w =
      let d = subst (λ (t : RouteTold). Agree z t q) e (route-inner z f p) in
      ap (octets_at f) (none-on w (ap (λ (x : Span). x.count) d) ∙ d)

  pub onward-least : (d : ℕ) → route z f p ≡ onward d → least_inner z ≤ length (handed_on z Whole f p)
  onward-least d e =
      let l = subst (λ (t : RouteTold). Agree z t q) e (route-inner z f p) in
      omega (arith, ap length whole-on, inner-count)

  pub four-joined : joined z f p ≡ handed_on z Whole f p
  four-joined = go (inner-least z f p) ∙ sym whole-on
    where
      go : (q ≡ nowhere) ⊎ (least_inner z ≤ q.count) → joined z f p ≡ octets_at f q
      go (inl d) =
          let e = ap (λ (x : Span). x.count) d in
          let empty : octets_at f q ≡ [] = ap (octets_at f) d in
          simp (none-on Header e, none-on Auxiliary e, none-on Payload e, none-on Tag e, empty)
      go (inr l) =
          let some : (q.count ≡ 0 → ⊥) = λ e. omega arith in
          simp (some-on some Header, some-on some Auxiliary, some-on some Payload, some-on some Tag)
          (four z q.count l f q.from)

-- ---- what the contract of `portion_of` promises of its five calls on a frame s: joined, the four are the inner frame

module _ (z : Settings) (s : Bor (List ℕ)) (p : ProtectionTold) (part : Portion → Part)
    (promised : (w : Portion) → part w ≡ cut_at s (portion_span z w s.now p)) where
  octets-promised : (w : Portion) → (part w).octets ≡ handed_on z w s.now p
  octets-promised w = ap (λ (x : Part). x.octets) (promised w)

  pub calls-joined : (part Header).octets ++ (part Auxiliary).octets ++ (part Payload).octets ++ (part Tag).octets ≡ (part Whole).octets
  calls-joined =
      simp (octets-promised Header, octets-promised Auxiliary, octets-promised Payload, octets-promised Tag, octets-promised Whole)
      (four-joined z s.now p)

-- ---- the inner frame m that the reader handed out of s, and a portion cut out of it

module _ (z : Settings) (s : Bor (List ℕ)) (p : ProtectionTold) (m : Bor (List ℕ)) (e : seen m ≡ cut_at s (q z s.now p))
    (empty : Bool) (test : empty ≡ eqb (length m.now) 0) where
  same_count : length m.now ≡ (q z s.now p).count
  same_count = ap (λ (x : Part). length x.octets) e ∙ inner-count z s.now p

  pub none-left : empty ≡ true → (w : Portion) → seen m ≡ cut_at s (portion_span z w s.now p)
  none-left h w =
      let n : length m.now ≡ 0 = eqb-true (length m.now) 0 (sym test ∙ h) in
      e ∙ ap (cut_at s) (sym (none-on z s.now p w (sym same_count ∙ n)))

  module _ (h : empty ≡ false) where
    some : length m.now ≡ 0 → ⊥
    some n = absurd (let t : true ≡ false = sym (eq-eqb (length m.now) 0 n) ∙ sym test ∙ h in cc)

    pub long-enough : least_inner z ≤ length m.now
    long-enough = omega (arith, same_count, some-least z s.now p (λ d. some (same_count ∙ d)))

    its-span : (w : Portion)
        → portion_span z w s.now p ≡ span ((q z s.now p).from + start_of z w (length m.now)) (size_of z w (length m.now))
    its-span w =
        some-on z s.now p (λ d. some (same_count ∙ d)) w
        ∙ ap (λ (n : ℕ). span ((q z s.now p).from + start_of z w n) (size_of z w n)) (sym same_count)

    -- the octets of m from place i up to place j
    pub its-part : (w : Portion) (r : Bor (List ℕ)) (i j : ℕ) → i ≡ start_of z w (length m.now)
        → j ≡ start_of z w (length m.now) + size_of z w (length m.now)
        → r.ref_ptr.0 ≡ m.ref_ptr.0 → r.ref_ptr.1 ≡ i + m.ref_ptr.1 → r.now ≡ take (j - i) (drop i m.now)
        → seen r ≡ cut_at s (portion_span z w s.now p)
    its-part w r i j a b block offset octets =
        let f = s.now in
        let k : span ((q z f p).from + start_of z w (length m.now)) (size_of z w (length m.now)) ≡ portion_span z w f p = sym (its-span w) in
        let l : length m.now ≡ (q z f p).count = same_count in
        let n : j - i ≡ size_of z w (length m.now) = omega (arith, a, b) in
        let bound = within z (length m.now) long-enough w in
        same-part (block ∙ ap (λ (x : Part). x.block) e)
        (omega (arith, offset, a, ap (λ (x : Part). x.offset) e, ap (λ (x : Span). x.from) k))
        (octets
        ∙ ap (λ (l : List ℕ). take (j - i) (drop i l)) (ap (λ (x : Part). x.octets) e)
        ∙ part-within f (q z f p).from (q z f p).count i (j - i) (omega (arith, l, a, n, bound))
        ∙ ap₂ (λ (x y : ℕ). take x (drop ((q z f p).from + y) f)) n a
        ∙ ap (octets_at f) k)
