-- Reading what was written gives the command and its parts back, under a protection that the list allows.
-- Assumes nothing.
use Rattle.std.proofs.Common.{Option, None, Result, Ok, Err, ◌≡◌, ℕ, ◌+◌, ◌^◌, ◌≤◌, Bool, true, false, not, eqb, ltb, List, [], ◌∷◌, ◌++◌, length, take, drop, sym, refl, ap, ◌∙◌, subst, ap₂, zero-add, arith, length-append, length-take, drop-drop, take_at, drop_at, ltb-false, ltb-true, le-ltb, eqb-true, Some}
use borrow.Author.Tests.{not-false}
use Rattle.octets.proofs.Choices.{both-parts, choose}
use Rattle.octets.proofs.Numbers.{least-spelled}
use Rattle.octets.proofs.Tabs.{tab-at}
use Rattle.octets.specs.Least.{least_first, number_at, spelled}
use Rattle.octets.specs.Lists.{at, tab}
use Rattle.answers.specs.Numbers.{ProtectionTold, clear, under, FrameTold, opened, sealed, written, turned_down}
use Rattle.frames.specs.Aps.{aps_type, delivery, ack_format, aps_form, aps_secured, aps_header}
use Rattle.settings.specs.Settings.{Settings, longest_aps}
use Rattle.frames.specs.Reading.{headed, read_header, reading_command}
use Rattle.board.specs.declared.Board.{Board}
use Rattle.board.specs.Sending.{Framed, framed}
use Rattle.tlvs.proofs.Walks.{Inside, walked-inside}
use Rattle.tlvs.specs.declared.Value.{Value}
use Rattle.tlvs.specs.declared.Ill.{Ill}
use Rattle.tlvs.specs.declared.Wanted.TheVariants.{Tag}
use Rattle.tlvs.specs.Looking.{walked}
use Rattle.commands.specs.declared.Allowed.{Allowed}
use Rattle.commands.specs.declared.Allowed.TheVariants.{Clear, Only, ClearOr}
use Rattle.commands.specs.declared.Command.{Command}
use Rattle.commands.specs.declared.Command.TheVariants.{TransportKey, UpdateDevice, RemoveDevice, RequestKey, SwitchKey, Tunnel, VerifyKey, ConfirmKey, RelayDownstream, RelayUpstream}
use Rattle.commands.specs.declared.Kind.{Kind}
use Rattle.commands.specs.declared.Span.{Span}
use Rattle.commands.specs.declared.Secret.{Secret}
use Rattle.commands.specs.declared.Secret.TheVariants.{NoSecret, Key, Hash}
use Rattle.commands.specs.declared.Rest.{Rest}
use Rattle.commands.specs.declared.Rest.TheVariants.{End, Tlvs, Relay, Inner}
use Rattle.commands.specs.Kinds.{transport_of, request_of, listed, kind_of}
use Rattle.commands.specs.Table.{rule_of, secret_size, fits, known, allows}
use Rattle.commands.specs.Numbers.{untyped, typed, told_command}
use Rattle.commands.specs.Reading.{Judgement, sound, judge, command_in, read, answered, read_command}
use Rattle.commands.specs.Parts.{octets_at, key_in, hash_in, key_span, hash_span, rest_span, tlvs_in, inner_in, tlvs_span, inner_span, within, value_span}
use Rattle.commands.specs.Writing.{command_control, own_octets, frame_of, whole, aps_raised, write_command}
use Rattle.commands.specs.Reverse.{ranged, as_key, as_hash, as_tlvs, as_inner, value_in, GivesBack}
use Rattle.commands.proofs.Bounds.{part-rest, part-within}
use Rattle.commands.proofs.Judging.{judge-sound}
use Rattle.commands.proofs.Laid.{own-length, whole-secret, whole-rest}
use Rattle.commands.specs.declared.Kind.TheVariants as kinds
use Rattle.commands.specs.declared.Transported.TheVariants as transports
use Rattle.commands.specs.declared.Requested.TheVariants as requests

-- ---- a protection that the list allows is one that the reader knows

abbrev Knows : Allowed → Type 0
Knows Clear = 0 ≤ 0
Knows (Only n) = known (under n) ≡ true
Knows (ClearOr n) = known (under n) ≡ true

rule-knows : (k : Kind) → Knows (rule_of k).under
unfolding rule_of known
rule-knows kinds.Transport1 = refl
rule-knows kinds.Transport4 = refl
rule-knows kinds.Transport2 = refl
rule-knows kinds.Transport3 = refl
rule-knows kinds.Update = refl
rule-knows kinds.Remove = refl
rule-knows kinds.Request2 = refl
rule-knows kinds.Request4 = refl
rule-knows kinds.Switch = refl
rule-knows kinds.Tunnel = omega arith
rule-knows kinds.Verify = omega arith
rule-knows kinds.Confirm = refl
rule-knows kinds.Down = refl
rule-knows kinds.Up = refl

same_known : (n m : ℕ) → known (under n) ≡ true → eqb m n ≡ true → known (under m) ≡ true
same_known n m k e = rw (eqb-true m n e) k

allowed-known : (u : Allowed) (p : ProtectionTold) → Knows u → allows u p ≡ true → known p ≡ true
unfolding allows known
allowed-known Clear clear k e = refl
allowed-known Clear (under m) k e = let z : ◌≡◌ {A = ℕ} 0 1 = cc in absurd (omega arith)
allowed-known (Only n) clear k e = let z : ◌≡◌ {A = ℕ} 0 1 = cc in absurd (omega arith)
allowed-known (Only n) (under m) k e = same_known n m k e
allowed-known (ClearOr n) clear k e = refl
allowed-known (ClearOr n) (under m) k e = same_known n m k e

-- ---- the header

pub command-header : (f : List ℕ) (ack : Bool) → at f 0 ≡ command_control ack → 2 ≤ length f → reading_command f ≡ headed 2
unfolding reading_command read_header aps_form aps_type aps_header aps_secured delivery ack_format
command-header f true e h = simp (le-ltb (length f) 1 (omega arith), e, le-ltb (length f) 2 h)
command-header f false e h = simp (le-ltb (length f) 1 (omega arith), e, le-ltb (length f) 2 h)

-- ---- identifier and type

listed-own : (c : Command) (k r : List ℕ) → listed (at (own_octets c k ++ r) 0) (at (own_octets c k ++ r) 1) ≡ Some (kind_of c)
unfolding own_octets listed transport_of request_of
listed-own (TransportKey (transports.Network q d s)) k r = refl
listed-own (TransportKey (transports.TrustCentre d s)) k r = refl
listed-own (TransportKey (transports.ApplicationMaster a i)) k r = refl
listed-own (TransportKey (transports.ApplicationLink a i)) k r = refl
listed-own (UpdateDevice a s t) k r = refl
listed-own (RemoveDevice a) k r = refl
listed-own (RequestKey (requests.Application a)) k r = refl
listed-own (RequestKey requests.TrustCentre) k r = refl
listed-own (SwitchKey q) k r = refl
listed-own (Tunnel a) k r = refl
listed-own (VerifyKey t a) k r = refl
listed-own (ConfirmKey s t a) k r = refl
listed-own RelayDownstream k r = refl
listed-own RelayUpstream k r = refl

-- ---- the fields

address-back : (a : ℕ) → ltb a (2 ^ 64) ≡ true → least_first (spelled 8 a) ≡ a
address-back a e = least-spelled 8 a (omega (arith, ltb-true a (2 ^ 64) e))

-- sixteen octets, one by one
as-tab : (k : List ℕ) → length k ≡ 16 → tab 16 (at k) ≡ k
as-tab k h = ap (λ (n : ℕ). tab n (at k)) (sym h) ∙ tab-at k

-- sixteen octets that stand where a command has them
abbrev SecretIs : Secret → List ℕ → List ℕ → Type 0
SecretIs NoSecret f k = 0 ≤ length f
SecretIs Key f k = take 16 (drop 4 f) ≡ k
SecretIs Hash f k = take 16 (drop 12 f) ≡ k

module _ (x n : ℕ) (r : List ℕ) where
  keyed-own : (c : Command) (z : ℕ → ℕ) → ranged c ≡ true → command_in (x ∷ n ∷ (own_octets c (tab 16 z) ++ r)) (kind_of c) ≡ told_command c
  unfolding own_octets command_in number_at
  keyed-own (TransportKey (transports.Network q d s)) z e =
      let b = both-parts (ltb d (2 ^ 64)) (ltb s (2 ^ 64)) e in
      ap₂ (λ (y w : ℕ). typed 0x05 1 (q ∷ y ∷ w ∷ [])) (address-back d b.0) (address-back s b.1)
  keyed-own (TransportKey (transports.TrustCentre d s)) z e =
      let b = both-parts (ltb d (2 ^ 64)) (ltb s (2 ^ 64)) e in
      ap₂ (λ (y w : ℕ). typed 0x05 4 (y ∷ w ∷ [])) (address-back d b.0) (address-back s b.1)
  keyed-own (TransportKey (transports.ApplicationMaster a i)) z e = ap (λ (y : ℕ). typed 0x05 2 (y ∷ i ∷ [])) (address-back a e)
  keyed-own (TransportKey (transports.ApplicationLink a i)) z e = ap (λ (y : ℕ). typed 0x05 3 (y ∷ i ∷ [])) (address-back a e)
  keyed-own (UpdateDevice a s t) z e =
      let b = both-parts (ltb a (2 ^ 64)) (ltb s (2 ^ 16)) e in
      ap₂ (λ (y w : ℕ). untyped 0x06 (y ∷ w ∷ t ∷ [])) (address-back a b.0)
      (least-spelled 2 s (omega (arith, ltb-true s (2 ^ 16) b.1)))
  keyed-own (RemoveDevice a) z e = ap (λ (y : ℕ). untyped 0x07 (y ∷ [])) (address-back a e)
  keyed-own (RequestKey (requests.Application a)) z e = ap (λ (y : ℕ). typed 0x08 2 (y ∷ [])) (address-back a e)
  keyed-own (RequestKey requests.TrustCentre) z e = refl
  keyed-own (SwitchKey q) z e = refl
  keyed-own (Tunnel a) z e = ap (λ (y : ℕ). untyped 0x0e (y ∷ [])) (address-back a e)
  keyed-own (VerifyKey t a) z e = ap (λ (y : ℕ). untyped 0x0f (t ∷ y ∷ [])) (address-back a e)
  keyed-own (ConfirmKey s t a) z e = ap (λ (y : ℕ). untyped 0x10 (s ∷ t ∷ y ∷ [])) (address-back a e)
  keyed-own RelayDownstream z e = refl
  keyed-own RelayUpstream z e = refl

  -- a fact of sixteen octets and the command that has them, from that fact with the sixteen written out
  with-tab : (c : Command) (k : List ℕ) (P : List ℕ → List ℕ → Type 0) → length k ≡ 16
      → ((z : ℕ → ℕ) → P (tab 16 z) (own_octets c (tab 16 z)))
      → P k (own_octets c k)
  with-tab c k P h g = subst (λ (y : List ℕ). P y (own_octets c y)) (as-tab k h) (g (at k))

  sixteen-at : (c : Command) (k : List ℕ) (i : ℕ) → length k ≡ 16
      → ((z : ℕ → ℕ) → take 16 (drop i (x ∷ n ∷ (own_octets c (tab 16 z) ++ r))) ≡ tab 16 z)
      → take 16 (drop i (x ∷ n ∷ (own_octets c k ++ r))) ≡ k
  sixteen-at c k i h g = with-tab c k (λ (y s : List ℕ). take 16 (drop i (x ∷ n ∷ (s ++ r))) ≡ y) h g

  -- a fact of a command's own octets follows from that fact with sixteen octets written out; a command without them has
  -- the same own octets whatever is lent
  by-tab : (c : Command) (k : List ℕ) (P : List ℕ → Type 0) → length k ≡ secret_size (rule_of (kind_of c)).secret
      → ((z : ℕ → ℕ) → P (own_octets c (tab 16 z))) → P (own_octets c k)
  unfolding own_octets rule_of
  by-tab (TransportKey (transports.Network q d s)) k P h g =
      with-tab (TransportKey (transports.Network q d s)) k (λ (_ s : List ℕ). P s) h g
  by-tab (TransportKey (transports.TrustCentre d s)) k P h g =
      with-tab (TransportKey (transports.TrustCentre d s)) k (λ (_ s : List ℕ). P s) h g
  by-tab (TransportKey (transports.ApplicationMaster a i)) k P h g =
      with-tab (TransportKey (transports.ApplicationMaster a i)) k (λ (_ s : List ℕ). P s) h g
  by-tab (TransportKey (transports.ApplicationLink a i)) k P h g =
      with-tab (TransportKey (transports.ApplicationLink a i)) k (λ (_ s : List ℕ). P s) h g
  by-tab (UpdateDevice a s t) k P h g = g (λ _. 0)
  by-tab (RemoveDevice a) k P h g = g (λ _. 0)
  by-tab (RequestKey (requests.Application a)) k P h g = g (λ _. 0)
  by-tab (RequestKey requests.TrustCentre) k P h g = g (λ _. 0)
  by-tab (SwitchKey q) k P h g = g (λ _. 0)
  by-tab (Tunnel a) k P h g = g (λ _. 0)
  by-tab (VerifyKey t a) k P h g = with-tab (VerifyKey t a) k (λ (_ s : List ℕ). P s) h g
  by-tab (ConfirmKey s t a) k P h g = g (λ _. 0)
  by-tab RelayDownstream k P h g = g (λ _. 0)
  by-tab RelayUpstream k P h g = g (λ _. 0)

  fields-own : (c : Command) (k : List ℕ) → length k ≡ secret_size (rule_of (kind_of c)).secret → ranged c ≡ true
      → command_in (x ∷ n ∷ (own_octets c k ++ r)) (kind_of c) ≡ told_command c
  fields-own c k h e = by-tab c k (λ (s : List ℕ). command_in (x ∷ n ∷ (s ++ r)) (kind_of c) ≡ told_command c) h (λ z. keyed-own c z e)

  -- ---- key and hash

  secret-own : (c : Command) (k : List ℕ) → length k ≡ secret_size (rule_of (kind_of c)).secret
      → SecretIs (rule_of (kind_of c)).secret (x ∷ n ∷ (own_octets c k ++ r)) k
  unfolding own_octets rule_of
  secret-own (TransportKey (transports.Network q d s)) k h = sixteen-at (TransportKey (transports.Network q d s)) k 4 h (λ _. refl)
  secret-own (TransportKey (transports.TrustCentre d s)) k h = sixteen-at (TransportKey (transports.TrustCentre d s)) k 4 h (λ _. refl)
  secret-own (TransportKey (transports.ApplicationMaster a i)) k h =
      sixteen-at (TransportKey (transports.ApplicationMaster a i)) k 4 h (λ _. refl)
  secret-own (TransportKey (transports.ApplicationLink a i)) k h =
      sixteen-at (TransportKey (transports.ApplicationLink a i)) k 4 h (λ _. refl)
  secret-own (UpdateDevice a s t) k h = omega arith
  secret-own (RemoveDevice a) k h = omega arith
  secret-own (RequestKey (requests.Application a)) k h = omega arith
  secret-own (RequestKey requests.TrustCentre) k h = omega arith
  secret-own (SwitchKey q) k h = omega arith
  secret-own (Tunnel a) k h = omega arith
  secret-own (VerifyKey t a) k h = sixteen-at (VerifyKey t a) k 12 h (λ _. refl)
  secret-own (ConfirmKey s t a) k h = omega arith
  secret-own RelayDownstream k h = omega arith
  secret-own RelayUpstream k h = omega arith

module _ (f k : List ℕ) where
  key-cut : (s : Secret) → SecretIs s f k → octets_at f (key_in s) ≡ as_key s k
  unfolding key_in
  key-cut NoSecret e = refl
  key-cut Key e = e
  key-cut Hash e = refl

  hash-cut : (s : Secret) → SecretIs s f k → octets_at f (hash_in s) ≡ as_hash s k
  unfolding hash_in
  hash-cut NoSecret e = refl
  hash-cut Key e = refl
  hash-cut Hash e = e

-- ---- what follows

-- a part of a part
value-cut : (f : List ℕ) (q : Span) (x : Result (Option Value) Ill) → Inside (length (octets_at f q)) x
    → octets_at f (within q.from x) ≡ octets_at (octets_at f q) (within 0 x)
value-cut f q (Err e) h = refl
value-cut f q (Ok None) h = refl
value-cut f q (Ok (Some v)) h =
    sym (part-within f q.from q.count v.start v.size (omega (arith, h.0, length-take q.count (drop q.from f))))
    ∙ ap (λ (j : ℕ). take v.size (drop j (octets_at f q))) (sym (zero-add v.start))

module _ (f : List ℕ) (i : ℕ) (r : List ℕ) (e : drop i f ≡ r) where
  rest-cut : octets_at f (rest_span (length f) i) ≡ r
  unfolding rest_span
  rest-cut = part-rest i f ∙ e

  pub tlvs-cut : (u : Rest) → octets_at f (tlvs_in u (rest_span (length f) i)) ≡ as_tlvs u r
  unfolding tlvs_in
  tlvs-cut End = refl
  tlvs-cut Tlvs = rest-cut
  tlvs-cut Relay = rest-cut
  tlvs-cut Inner = refl

  inner_cut : (u : Rest) → octets_at f (inner_in u (rest_span (length f) i)) ≡ as_inner u r
  unfolding inner_in
  inner_cut End = refl
  inner_cut Tlvs = refl
  inner_cut Relay = refl
  inner_cut Inner = rest-cut

value-back : (f : List ℕ) (q : Span) (s : List ℕ) (tag : ℕ) → octets_at f q ≡ s → octets_at f (value_span f tag q) ≡ value_in s tag
unfolding value_span
value-back f q s tag e =
    value-cut f q (walked (Tag tag) (octets_at f q)) (walked-inside (Tag tag) (octets_at f q))
    ∙ ap (λ (y : List ℕ). value_in y tag) e

-- ---- all together

module _ (z : Settings) (b : Board) (ack : Bool) (c : Command) (k r : List ℕ) (p : ProtectionTold) where
  -- a frame of those parts, no longer than the writer allows
  pub frame_back : ranged c ≡ true → whole z (rule_of (kind_of c)) k r ≡ true → length (frame_of b ack c k r) ≤ longest_aps
      → allows (rule_of (kind_of c)).under p ≡ true → GivesBack z (frame_of b ack c k r) p c k r
  unfolding frame_of read_command key_span hash_span tlvs_span inner_span
  frame_back e w l a =
      record {
        command = ap (answered f) judged ∙ ap read (fields-own x n r c k secret e);
        key = ap (λ (v : Judgement). octets_at f (key_span v)) judged ∙ key-cut f k (rule_of (kind_of c)).secret (secret-own x n r c k secret);
        hash = ap (λ (v : Judgement). octets_at f (hash_span v)) judged
            ∙ hash-cut f k (rule_of (kind_of c)).secret (secret-own x n r c k secret);
        tlvs = tlvs-are;
        inner = ap (λ (v : Judgement). octets_at f (inner_span (length f) v)) judged ∙ inner_cut f i r behind (rule_of (kind_of c)).rest;
        value = λ tag. value-back f (tlvs_span (length f) (judge z f p)) (as_tlvs (rule_of (kind_of c)).rest r) tag tlvs-are;
      }
    where
      x : ℕ
      x = command_control ack

      n : ℕ
      n = b.aps

      f : List ℕ
      f = command_control ack ∷ b.aps ∷ (own_octets c k ++ r)

      i : ℕ
      i = 2 + (rule_of (kind_of c)).size

      secret : length k ≡ secret_size (rule_of (kind_of c)).secret
      secret = whole-secret z (rule_of (kind_of c)) k r w

      own : length (own_octets c k) ≡ (rule_of (kind_of c)).size
      own = own-length c k secret

      behind : drop (2 + (rule_of (kind_of c)).size) f ≡ r
      behind = sym (drop-drop (rule_of (kind_of c)).size 2 f) ∙ drop_at (own_octets c k) r (rule_of (kind_of c)).size own

      long : 2 + (rule_of (kind_of c)).size ≤ length f
      long = omega (arith, own, length-append (own_octets c k) r)

      fitting : fits z (rule_of (kind_of c)).rest (drop (2 + (rule_of (kind_of c)).size) f) ≡ true
      fitting = ap (fits z (rule_of (kind_of c)).rest) behind ∙ whole-rest z (rule_of (kind_of c)) k r w

      judged : judge z f p ≡ sound (kind_of c)
      judged =
          judge-sound z f p 2 (kind_of c) (command-header f ack refl (omega (arith, long)))
          (record {
            protected = allowed-known (rule_of (kind_of c)).under p (rule-knows (kind_of c)) a;
            short = l;
            listing = listed-own c k r;
            meets = record { sized = long; fitting = fitting; allowed = a };
          })

      tlvs-are : octets_at f (tlvs_span (length f) (judge z f p)) ≡ as_tlvs (rule_of (kind_of c)).rest r
      tlvs-are = ap (λ (v : Judgement). octets_at f (tlvs_span (length f) v)) judged ∙ tlvs-cut f i r behind (rule_of (kind_of c)).rest

-- ---- what the writer answered

refused-written : {A : Type 0} (i n : ℕ) (b d : Board) (o m : List ℕ) → framed (turned_down i) b o ≡ framed (written n) d m → A
refused-written i n b d o m e =
    let g : turned_down i ≡ written n = ap (λ (x : Framed). x.answer) e in
    let z : ◌≡◌ {A = ℕ} 0 1 = cc in absurd (omega arith)

length_in : Framed → ℕ
length_in x = go x.answer
  where
    go : FrameTold → ℕ
    go (sealed n) = n
    go (written n) = n
    go (turned_down n) = n
    go (opened n a g) = n

module _ (z : Settings) (b : Board) (ack : Bool) (c : Command) (k r o : List ℕ) (n : ℕ) (d : Board) (m : List ℕ) where
  -- what an answer with a length tells
  pub record Success : Type 0 where
    pub parts : whole z (rule_of (kind_of c)) k r ≡ true
    pub short : length (frame_of b ack c k r) ≤ longest_aps
    pub counter : d ≡ aps_raised b
    pub frame : take n m ≡ frame_of b ack c k r

  pub write-told : write_command z b ack c k r o ≡ framed (written n) d m → Success
  unfolding write_command length_in
  write-told =
      choose (λ (x : Framed). x ≡ framed (written n) d m → Success) (ltb (length o) longest_aps) _ _ (λ _ e. refused-written 1 n b d o m e)
      λ _. choose (λ (x : Framed). x ≡ framed (written n) d m → Success) (not (whole z (rule_of (kind_of c)) k r)) _ _
      (λ _ e. refused-written 11 n b d o m e)
      λ w. choose (λ (x : Framed). x ≡ framed (written n) d m → Success) (ltb longest_aps (length (frame_of b ack c k r))) _ _
      (λ _ e. refused-written 2 n b d o m e)
      λ l e. let f = frame_of b ack c k r in
      record {
        parts = not-false _ w;
        short = ltb-false longest_aps (length f) l;
        counter = sym (ap (λ (x : Framed). x.board) e);
        frame = ap₂ (λ (i : ℕ) (s : List ℕ). take i s) (sym (ap length_in e)) (sym (ap (λ (x : Framed). x.out) e))
            ∙ take_at f (drop (length f) o) (length f) refl;
      }

  -- where the writer answers the length n, the first n octets of the output, read under a protection that the list allows,
  -- give the command and its parts back
  pub read_back : write_command z b ack c k r o ≡ framed (written n) d m → ranged c ≡ true
      → (p : ProtectionTold) → allows (rule_of (kind_of c)).under p ≡ true → GivesBack z (take n m) p c k r
  read_back e g p a =
      let w = write-told e in
      subst (λ (f : List ℕ). GivesBack z f p c k r) (sym w.frame) (frame_back z b ack c k r p g w.parts w.short a)
