-- What the list and the judgement tell of sizes: the parts of a frame that is sound lie inside it.
-- Assumes nothing.
use Rattle.std.proofs.Common.{Result, Ok, Err, ◌≡◌, ℕ, zero, suc, ◌+◌, ◌-◌, ◌≤◌, not, ltb, List, [], ◌∷◌, length, take, drop, sym, refl, ap, ◌∙◌, subst, le_refl, arith, length-drop, length-take, take_all, take-take, drop-drop, ltb-false, Option, Some, None}
use Rattle.octets.proofs.Choices.{choose}
use Rattle.octets.specs.Lists.{at}
use Rattle.answers.specs.Numbers.{ProtectionTold}
use Rattle.settings.specs.Settings.{Settings, longest_aps}
use Rattle.frames.specs.Reading.{PlainReading, unread, headed, reading_command}
use Rattle.tlvs.proofs.Walks.{Inside, walked-inside}
use Rattle.tlvs.specs.declared.Value.{Value}
use Rattle.tlvs.specs.declared.Ill.{Ill}
use Rattle.tlvs.specs.declared.Wanted.TheVariants.{Tag}
use Rattle.tlvs.specs.Looking.{walked}
use Rattle.commands.specs.declared.Kind.{Kind}
use Rattle.commands.specs.declared.Kind.TheVariants.{Transport1, Transport4, Transport2, Transport3, Update, Remove, Request2, Request4, Switch, Tunnel, Verify, Confirm, Down, Up}
use Rattle.commands.specs.declared.Secret.{Secret}
use Rattle.commands.specs.declared.Secret.TheVariants.{NoSecret, Key, Hash}
use Rattle.commands.specs.declared.Rest.{Rest}
use Rattle.commands.specs.declared.Rest.TheVariants.{End, Tlvs, Relay, Inner}
use Rattle.commands.specs.declared.Span.{Span}
use Rattle.commands.specs.Kinds.{listed}
use Rattle.commands.specs.Table.{rule_of, fits, known, allows}
use Rattle.commands.specs.Reading.{Judgement, refused, sound, judge_kind, judge_listed, judge_header, judge}
use Rattle.commands.specs.Parts.{nowhere, octets_at, cut_at, key_in, hash_in, key_span, hash_span, rest_span, tlvs_in, inner_in, tlvs_span, inner_span, within, value_span}
use Rattle.commands.specs.Code.{part_span}
use Rattle.commands.specs.declared.Asked.{Asked}
use Rattle.octets.specs.Parts.{Part, seen}
use Rattle.std.specs.Borrow.{Bor}
use Rattle.commands.specs.declared.Asked.TheVariants as asks

pub size-most : (k : Kind) → (rule_of k).size ≤ 35
unfolding rule_of
size-most Transport1 = omega arith
size-most Transport4 = omega arith
size-most Transport2 = omega arith
size-most Transport3 = omega arith
size-most Update = omega arith
size-most Remove = omega arith
size-most Request2 = omega arith
size-most Request4 = omega arith
size-most Switch = omega arith
size-most Tunnel = omega arith
size-most Verify = omega arith
size-most Confirm = omega arith
size-most Down = omega arith
size-most Up = omega arith

-- the sixteen octets of a command end where its size does, or before
abbrev pub SecretIn : Secret → ℕ → Type 0
SecretIn NoSecret n = 0 ≤ n
SecretIn Key n = 20 ≤ 2 + n
SecretIn Hash n = 28 ≤ 2 + n

pub secret-in : (k : Kind) → SecretIn (rule_of k).secret (rule_of k).size
unfolding rule_of
secret-in Transport1 = omega arith
secret-in Transport4 = omega arith
secret-in Transport2 = omega arith
secret-in Transport3 = omega arith
secret-in Update = omega arith
secret-in Remove = omega arith
secret-in Request2 = omega arith
secret-in Request4 = omega arith
secret-in Switch = omega arith
secret-in Tunnel = omega arith
secret-in Verify = omega arith
secret-in Confirm = omega arith
secret-in Down = omega arith
secret-in Up = omega arith

-- all of a list from place i on, as a part
pub part-rest : (i : ℕ) (l : List ℕ) → take (length l - i) (drop i l) ≡ drop i l
part-rest i l = take_all (length l - i) (drop i l) (rw (length-drop i l) (le_refl (length l - i)))

-- ---- a frame that is sound has room for its command

abbrev pub Sized : List ℕ → Judgement → Type 0
Sized f (refused n) = 0 ≤ length f
Sized f (sound k) = 2 + (rule_of k).size ≤ length f

module _ (z : Settings) (f : List ℕ) (p : ProtectionTold) where
  kind-sized : (k : Kind) → Sized f (judge_kind z f p k)
  unfolding judge_kind
  kind-sized k =
      choose (Sized f) (ltb (length f) (2 + (rule_of k).size)) _ _ (λ _. omega arith)
      λ e. choose (Sized f) (not (fits z (rule_of k).rest (drop (2 + (rule_of k).size) f))) _ _ (λ _. omega arith)
      λ _. choose (Sized f) (not (allows (rule_of k).under p)) (refused 12) (sound k) (λ _. omega arith)
      (λ _. ltb-false (length f) (2 + (rule_of k).size) e)

  listed-sized : (l : Option Kind) → Sized f (judge_listed z f p l)
  unfolding judge_listed
  listed-sized None = omega arith
  listed-sized (Some k) = kind-sized k

  header-sized : (r : PlainReading) → Sized f (judge_header z f p r)
  unfolding judge_header
  header-sized (unread n) = omega arith
  header-sized (headed h) = listed-sized (listed (at f 2) (at f 3))

  pub judge-sized : Sized f (judge z f p)
  unfolding judge
  judge-sized =
      choose (Sized f) (not (known p)) _ _ (λ _. omega arith)
      λ _. choose (Sized f) (ltb longest_aps (length f)) (refused 2) (judge_header z f p (reading_command f)) (λ _. omega arith)
      (λ _. header-sized (reading_command f))

-- ---- the spans

abbrev pub Holds : List ℕ → Span → Type 0
Holds f q = q.from + q.count ≤ length f

module _ (f : List ℕ) where
  key_in-holds : (s : Secret) (n : ℕ) → SecretIn s n → 2 + n ≤ length f → Holds f (key_in s)
  unfolding key_in
  key_in-holds NoSecret n e h = omega arith
  key_in-holds Key n e h = omega arith
  key_in-holds Hash n e h = omega arith

  hash-in : (s : Secret) (n : ℕ) → SecretIn s n → 2 + n ≤ length f → Holds f (hash_in s)
  unfolding hash_in
  hash-in NoSecret n e h = omega arith
  hash-in Key n e h = omega arith
  hash-in Hash n e h = omega arith

  tlvs-in : (r : Rest) (q : Span) → Holds f q → Holds f (tlvs_in r q)
  unfolding tlvs_in
  tlvs-in End q h = omega arith
  tlvs-in Tlvs q h = h
  tlvs-in Relay q h = h
  tlvs-in Inner q h = omega arith

  inner-in : (r : Rest) (q : Span) → Holds f q → Holds f (inner_in r q)
  unfolding inner_in
  inner-in End q h = omega arith
  inner-in Tlvs q h = omega arith
  inner-in Relay q h = omega arith
  inner-in Inner q h = h

  rest_in : (i : ℕ) → i ≤ length f → Holds f (rest_span (length f) i)
  unfolding rest_span
  rest_in i h = omega arith

  key-at : (v : Judgement) → Sized f v → Holds f (key_span v)
  unfolding key_span
  key-at (refused n) h = omega arith
  key-at (sound k) h = key_in-holds (rule_of k).secret (rule_of k).size (secret-in k) h

  hash_at : (v : Judgement) → Sized f v → Holds f (hash_span v)
  unfolding hash_span
  hash_at (refused n) h = omega arith
  hash_at (sound k) h = hash-in (rule_of k).secret (rule_of k).size (secret-in k) h

  tlvs-at : (v : Judgement) → Sized f v → Holds f (tlvs_span (length f) v)
  unfolding tlvs_span
  tlvs-at (refused n) h = omega arith
  tlvs-at (sound k) h = tlvs-in (rule_of k).rest (rest_span (length f) (2 + (rule_of k).size)) (rest_in (2 + (rule_of k).size) h)

  inner-at : (v : Judgement) → Sized f v → Holds f (inner_span (length f) v)
  unfolding inner_span
  inner-at (refused n) h = omega arith
  inner-at (sound k) h = inner-in (rule_of k).rest (rest_span (length f) (2 + (rule_of k).size)) (rest_in (2 + (rule_of k).size) h)

  -- a value found in the TLVs lies inside them
  pub value-holds : (tag : ℕ) (q : Span) → Holds f q → Holds f (value_span f tag q)
  unfolding value_span
  value-holds tag q h = go (walked (Tag tag) (octets_at f q)) (walked-inside (Tag tag) (octets_at f q))
    where
      most : length (octets_at f q) ≤ q.count
      most = rw (length-take q.count (drop q.from f)) (omega arith)

      go : (x : Result (Option Value) Ill) → Inside (length (octets_at f q)) x → Holds f (within q.from x)
      go (Err e) i = omega arith
      go (Ok None) i = omega arith
      go (Ok (Some v)) i = omega (arith, most, i.0)

  -- ---- of the part asked for, by the frame's judgement

  asked-at : (a : Asked) (v : Judgement) → Sized f v → Holds f (part_span a (length f) v)
  asked-at asks.Key v h = key-at v h
  asked-at asks.Hash v h = hash_at v h
  asked-at asks.Tlvs v h = tlvs-at v h
  asked-at asks.Inner v h = inner-at v h

  pub asked-holds : (z : Settings) (p : ProtectionTold) (a : Asked) (v : Judgement) (q : Span) → v ≡ judge z f p
      → q ≡ part_span a (length f) v → Holds f q
  asked-holds z p a v q e g = subst (Holds f) (sym g) (asked-at a v (subst (Sized f) (sym e) (judge-sized z f p)))

-- a refusal has no part
pub asked-nowhere : (a : Asked) (n m : ℕ) → part_span a n (refused m) ≡ nowhere
unfolding key_span hash_span tlvs_span inner_span
asked-nowhere asks.Key n m = refl
asked-nowhere asks.Hash n m = refl
asked-nowhere asks.Tlvs n m = refl
asked-nowhere asks.Inner n m = refl

-- ---- parts

-- a part of a part
take_within : (m i n : ℕ) (l : List ℕ) → i + m ≤ n → take m (drop i (take n l)) ≡ take m (drop i l)
take_within m zero n l h = take-take m n l (omega arith)
take_within m (suc i) zero l h = absurd (omega arith)
take_within m (suc i) (suc n) [] h = refl
take_within m (suc i) (suc n) (x ∷ l) h = take_within m i n l (omega arith)

pub part-within : (l : List ℕ) (a n i m : ℕ) → i + m ≤ n → take m (drop i (take n (drop a l))) ≡ take m (drop (a + i) l)
part-within l a n i m h = take_within m i n (drop a l) h ∙ ap (take m) (drop-drop i a l)

pub same_span : {p q : Span} → p.from ≡ q.from → p.count ≡ q.count → p ≡ q
same_span {p} {q} a b = λ i. record { from = a i; count = b i }

-- what was found in the TLVs r, which stand in f at span q
module _ (f r : Bor (List ℕ)) (tag : ℕ) (q : Span) (lent : seen r ≡ cut_at f q) (x : Result (Option Value) Ill) (e : x ≡ walked (Tag tag) r.now) where
  pub value-at : (y : Result (Option Value) Ill) → x ≡ y → within q.from y ≡ value_span f.now tag q
  unfolding value_span
  value-at y g = ap (within q.from) (sym g ∙ e ∙ ap (λ (p : Part). walked (Tag tag) p.octets) lent)

  pub found-holds : Holds f.now q → (v : Value) → x ≡ Ok (Some v) → q.from + v.start + v.size ≤ length f.now
  found-holds h v g = subst (Holds f.now) (sym (value-at (Ok (Some v)) g)) (value-holds f.now tag q h)
