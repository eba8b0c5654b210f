-- What a judgement that finds a command rests on, in both directions; and the list of identifiers read backwards.
-- Assumes nothing.
use Rattle.std.proofs.Common.{◌≡◌, ℕ, ◌+◌, ◌≤◌, true, not, ltb, List, length, drop, sym, refl, ap, subst, arith, ltb-false, le-ltb, Option, Some, None}
use borrow.Author.Tests.{not-false}
use Rattle.octets.proofs.Choices.{choose}
use Rattle.octets.specs.Lists.{at}
use Rattle.answers.specs.Numbers.{ProtectionTold}
use Rattle.settings.specs.Settings.{Settings, longest_aps}
use Rattle.frames.specs.Reading.{PlainReading, headed, reading_command}
use Rattle.commands.specs.declared.Kind.{Kind}
use Rattle.commands.specs.Kinds.{listed}
use Rattle.commands.specs.Table.{rule_of, fits, known, allows}
use Rattle.commands.specs.Numbers.{CommandTold}
use Rattle.commands.specs.Reading.{Judgement, refused, sound, judge_kind, judge_listed, judge_header, judge, command_in, ReadTold, read, unread, answered, read_command}
use Rattle.frames.specs.Reading as frames

-- ---- a frame that is sound

-- what is asked of the frame f under p once it is known to be of kind k
pub record Meets (z : Settings) (f : List ℕ) (p : ProtectionTold) (k : Kind) : Type 0 where
  pub sized : 2 + (rule_of k).size ≤ length f
  pub fitting : fits z (rule_of k).rest (drop (2 + (rule_of k).size) f) ≡ true
  pub allowed : allows (rule_of k).under p ≡ true

pub record Sound (z : Settings) (f : List ℕ) (p : ProtectionTold) (k : Kind) : Type 0 where
  pub protected : known p ≡ true
  pub short : length f ≤ longest_aps
  pub listing : listed (at f 2) (at f 3) ≡ Some k
  pub meets : Meets z f p k

refused-sound : {A : Type 0} (n : ℕ) (k : Kind) → refused n ≡ sound k → A
refused-sound n k e = let z : ◌≡◌ {A = ℕ} 0 1 = cc in absurd (omega arith)

kind_in : Judgement → Kind → Kind
kind_in (refused n) d = d
kind_in (sound k) d = k

sound-one : (j k : Kind) → sound j ≡ sound k → j ≡ k
unfolding kind_in
sound-one j k e = ap (λ (v : Judgement). kind_in v j) e

module _ (z : Settings) (f : List ℕ) (p : ProtectionTold) where
  kind-told : (j k : Kind) → judge_kind z f p j ≡ sound k → (j ≡ k) × Meets z f p j
  unfolding judge_kind
  kind-told j k =
      choose (λ (v : Judgement). v ≡ sound k → (j ≡ k) × Meets z f p j) (ltb (length f) (2 + (rule_of j).size)) _ _
      (λ _ g. refused-sound 11 k g)
      λ a. choose (λ (v : Judgement). v ≡ sound k → (j ≡ k) × Meets z f p j) (not (fits z (rule_of j).rest (drop (2 + (rule_of j).size) f)))
      _ _ (λ _ g. refused-sound 11 k g)
      λ b. choose (λ (v : Judgement). v ≡ sound k → (j ≡ k) × Meets z f p j) (not (allows (rule_of j).under p)) (refused 12) (sound j)
      (λ _ g. refused-sound 12 k g)
      (λ d g. let s = ltb-false (length f) (2 + (rule_of j).size) a in
      (sound-one j k g, record { sized = s; fitting = not-false _ b; allowed = not-false _ d }))

  kind-judged : (k : Kind) → Meets z f p k → judge_kind z f p k ≡ sound k
  unfolding judge_kind
  kind-judged k m = simp (le-ltb (length f) (2 + (rule_of k).size) m.sized, m.fitting, m.allowed)

  listed-told : (l : Option Kind) (k : Kind) → judge_listed z f p l ≡ sound k → (l ≡ Some k) × Meets z f p k
  unfolding judge_listed
  listed-told None k e = refused-sound 11 k e
  listed-told (Some j) k e =
      let t = kind-told j k e in
      (ap Some t.0, subst (Meets z f p) t.0 t.1)

  header-told : (r : PlainReading) (k : Kind) → judge_header z f p r ≡ sound k → (listed (at f 2) (at f 3) ≡ Some k) × Meets z f p k
  unfolding judge_header
  header-told (frames.unread n) k e = refused-sound n k e
  header-told (headed h) k e = listed-told (listed (at f 2) (at f 3)) k e

  pub judge-told : (k : Kind) → judge z f p ≡ sound k → Sound z f p k
  unfolding judge
  judge-told k =
      choose (λ (v : Judgement). v ≡ sound k → Sound z f p k) (not (known p)) _ _ (λ _ g. refused-sound 14 k g)
      λ a. choose (λ (v : Judgement). v ≡ sound k → Sound z f p k) (ltb longest_aps (length f)) _ _ (λ _ g. refused-sound 2 k g)
      λ b g. let t = header-told (reading_command f) k g in
      record { protected = not-false _ a; short = ltb-false longest_aps (length f) b; listing = t.0; meets = t.1 }

  pub judge-sound : (h : ℕ) (k : Kind) → reading_command f ≡ headed h → Sound z f p k → judge z f p ≡ sound k
  unfolding judge judge_header judge_listed
  judge-sound h k e s = simp (s.protected, le-ltb longest_aps (length f) s.short, e, s.listing) (kind-judged k s.meets)

  -- what was read, was judged sound
  pub read_told : (c : CommandTold) → read_command z f p ≡ read c → (k : Kind) × (judge z f p ≡ sound k) × (c ≡ command_in f k)
  unfolding read_command
  read_told c = go (judge z f p)
    where
      command_of : ReadTold → CommandTold
      command_of (read d) = d
      command_of (unread n) = c

      go : (v : Judgement) → answered f v ≡ read c → (k : Kind) × (v ≡ sound k) × (c ≡ command_in f k)
      go (refused n) e = let z : ◌≡◌ {A = ℕ} 0 1 = cc in absurd (omega arith)
      go (sound k) e = (k, refl, sym (ap command_of e))
