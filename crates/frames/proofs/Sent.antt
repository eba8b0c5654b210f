-- The auxiliary header as it is sent, read again: behind h octets of header stand the security control, the counter, the
-- sender and, where the identifier is 1, the key sequence number.
-- Assumes nothing.
use mathlib.Core.Path.{◌≡◌, refl, sym, ap, ap₂, ◌∙◌}
use mathlib.Core.Bool.{Bool, true, false}
use mathlib.Core.List.{List, [], ◌∷◌, ◌++◌}
use Prim.Native.Nat.{ℕ, ◌+◌, ◌*◌, ◌^◌, ◌≤◌, ◌<◌}
use native.Mathlib.Omega.{arith}
use lib.Dec.{eqb}
use lib.ListN.{length, take, length-append}
use lib.Seq.{get_or_at, get_or-append-add}
use borrow.Author.Tests.{eq-eqb, ne_eqb, le-ltb, lt-leb}
use Rattle.settings.specs.Settings.{Settings}
use Rattle.octets.proofs.Numbers.{number_behind, least-spelled}
use Rattle.std.specs.Prelude.{if◌then◌else◌}
use Rattle.octets.specs.Least.{number_at, spelled}
use Rattle.octets.specs.Lists.{at}
use Rattle.frames.specs.declared.Layer.{Layer}
use Rattle.frames.specs.declared.Secured.{Secured}
use Rattle.frames.specs.Security.{extended_of, wire_control, numbered, aux_length, counter_of, sender_of, sequence_of, auxiliary}
use Rattle.frames.specs.Reading.{secured, announced, read_secured}
use Rattle.frames.specs.Layers.{suits}
use Rattle.frames.proofs.Controls.{wire-identifier, wire-extended}
use Rattle.octets.specs.Addresses.{no_address}

-- up to the sender, with what stands behind it
abbrev sent : ℕ → ℕ → ℕ → List ℕ → List ℕ
sent k n s t = wire_control k ∷ (spelled 4 n ++ (spelled 8 s ++ t))

-- the key sequence number, where it is sent
abbrev number_sent : ℕ → List ℕ → ℕ
number_sent k t = if eqb k 1 then at t 0 else 0

abbrev pub fields_of : ℕ → ℕ → ℕ → ℕ → ℕ → ℕ → Secured
fields_of h m x n s q = record { header = h; aux = m; control = x; counter = n; sender = s; sequence = q }

module _ (p t : List ℕ) (h k n s : ℕ) (e : length p ≡ h) where
  control-there : at (p ++ sent k n s t) h ≡ wire_control k
  control-there = get_or_at p (wire_control k) (spelled 4 n ++ (spelled 8 s ++ t)) 0 h e

  number-there : (m i : ℕ) → number_at m (p ++ sent k n s t) (h + i) ≡ number_at m (sent k n s t) i
  number-there m i = rw (← e) (number_behind m p (sent k n s t) i)

  counter-there : n < 2 ^ 32 → counter_of (p ++ sent k n s t) h ≡ n
  unfolding counter_of number_at
  counter-there b = number-there 4 1 ∙ least-spelled 4 n b

  module _ (k< : k < 4) where
    sender-there : (a : ℕ) → s < 2 ^ 64 → sender_of (p ++ sent k n s t) h a ≡ s
    unfolding sender_of number_at
    sender-there a b =
        simp (control-there, eq-eqb (extended_of (wire_control k)) 1 (wire-extended k k<)) (number-there 8 5 ∙ least-spelled 8 s b)

    sequence-there : sequence_of (p ++ sent k n s t) h ≡ number_sent k t
    unfolding sequence_of
    sequence-there =
        let m : h + 5 + 8 * 1 ≡ length p + 13 = omega arith in
        simp (control-there, wire-identifier k k<, wire-extended k k<)
        (ap (λ (x : ℕ). if eqb k 1 then x else 0) (ap (at (p ++ sent k n s t)) m ∙ get_or-append-add p (sent k n s t) 13 0))

    announced-there : (a : ℕ) → n < 2 ^ 32 → s < 2 ^ 64
        → announced (p ++ sent k n s t) h a ≡ fields_of h (aux_length (wire_control k)) (wire_control k) n s (number_sent k t)
    unfolding announced
    announced-there a b d = simp (control-there, counter-there b, sender-there a d, sequence-there)

    read-sent : (z : Settings) (l : Layer) (a : ℕ) → suits l (wire_control k) ≡ true → n < 2 ^ 32 → s < 2 ^ 64
        → no_address s ≡ false → aux_length (wire_control k) + z.tag ≤ 13 + length t
        → read_secured z l (p ++ sent k n s t) h a
        ≡ secured (fields_of h (aux_length (wire_control k)) (wire_control k) n s (number_sent k t))
    unfolding read_secured
    read-sent z l a v b d u w =
        let e₁ : length (p ++ sent k n s t) ≡ h + (13 + length t) = simp length-append (omega arith) in
        simp (
          lt-leb (length (p ++ sent k n s t)) h (omega arith),
          control-there,
          v,
          le-ltb (length (p ++ sent k n s t)) (h + aux_length (wire_control k) + z.tag) (omega arith),
          sender-there a d,
          u,
        )
        (ap secured (announced-there a b d))

-- ---- the whole of it

module _ (k n s q : ℕ) where
  pub aux-octets : length (auxiliary k n s q) ≡ (if eqb k 1 then 14 else 13)
  unfolding auxiliary
  aux-octets = go (eqb k 1)
    where
      go : (t : Bool) → length (wire_control k ∷ (spelled 4 n ++ (spelled 8 s ++ (if t then q ∷ [] else [])))) ≡ (if t then 14 else 13)
      go true = refl
      go false = refl

  -- all of its fields, where the identifier is 1, and all but the last where it is not
  module _ {w : ℕ} {x : List ℕ} (ew : w ≡ wire_control k) (ex : x ≡ w ∷ (spelled 4 n ++ (spelled 8 s ++ (q ∷ [])))) where
    pub fields-numbered : k ≡ 1 → x ≡ auxiliary k n s q
    unfolding auxiliary
    fields-numbered e = simp (ex, ew, eq-eqb k 1 e)

    pub fields-unnumbered : (k ≡ 1 → ⊥) → take 13 x ≡ auxiliary k n s q
    unfolding auxiliary
    fields-unnumbered e = simp (ex, ew, ne_eqb k 1 e)

  aux-wire : k < 4 → aux_length (wire_control k) ≡ length (auxiliary k n s q)
  unfolding aux_length numbered
  aux-wire b = simp (wire-identifier k b, wire-extended k b, aux-octets) (go (eqb k 1))
    where
      go : (t : Bool) → 5 + 8 * 1 + (if t then 1 else 0) ≡ (if t then 14 else 13)
      go true = refl
      go false = refl

  -- what stands behind the sender, where c follows
  abbrev behind_sender : List ℕ → List ℕ
  behind_sender c = if eqb k 1 then q ∷ c else c

  aux-sent : (c : List ℕ) → auxiliary k n s q ++ c ≡ sent k n s (behind_sender c)
  unfolding auxiliary
  aux-sent c = go (eqb k 1)
    where
      go : (t : Bool) → (wire_control k ∷ (spelled 4 n ++ (spelled 8 s ++ (if t then q ∷ [] else [])))) ++ c
          ≡ sent k n s (if t then q ∷ c else c)
      go true = refl
      go false = refl

  number-sent : (c : List ℕ) → number_sent k (behind_sender c) ≡ (if eqb k 1 then q else 0)
  number-sent c = go (eqb k 1)
    where
      go : (t : Bool) → (if t then at (if t then q ∷ c else c) 0 else 0) ≡ (if t then q else 0)
      go true = refl
      go false = refl

  module _ (p c : List ℕ) (h : ℕ) (e : length p ≡ h) where
    pub read-aux : (z : Settings) (l : Layer) (a : ℕ) → k < 4 → suits l (wire_control k) ≡ true → n < 2 ^ 32 → s < 2 ^ 64
        → no_address s ≡ false → z.tag ≤ length c
        → read_secured z l (p ++ (auxiliary k n s q ++ c)) h a
        ≡ secured (fields_of h (length (auxiliary k n s q)) (wire_control k) n s (if eqb k 1 then q else 0))
    read-aux z l a k< v b d u w =
        let m : length (auxiliary k n s q) + length c ≡ 13 + length (behind_sender c) =
        sym (length-append (auxiliary k n s q) c) ∙ ap length (aux-sent c) ∙ omega arith in
        ap (λ (t : List ℕ). read_secured z l (p ++ t) h a) (aux-sent c)
        ∙ read-sent p (behind_sender c) h k n s e k< z l a v b d u (omega (arith, aux-wire k<))
        ∙ ap₂ (λ (x y : ℕ). secured (fields_of h x (wire_control k) n s y)) (aux-wire k<) (number-sent c)
