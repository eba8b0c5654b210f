-- Writing what was read gives the same frame, where its control octet is one that the writer uses and its counter is the
-- board's.
-- Assumes nothing.
use Rattle.std.proofs.Common.{◌≡◌, ℕ, ◌+◌, ◌-◌, ◌*◌, ◌/◌, ◌%◌, ◌≤◌, Bool, true, eqb, List, [], ◌∷◌, ◌++◌, length, take, drop, sym, refl, ap, ◌∙◌, subst, ap₂, arith, length-drop, take-append-drop, drop_of_length-le, length-take-le, get_or-drop, get_or-take, le-ltb, eq-eqb, eqb-true, Option, Some, None}
use Rattle.octets.proofs.AllOctets.{tail-octets, tab-octets}
use Rattle.octets.proofs.Choices.{choose}
use Rattle.octets.proofs.Tabs.{length-tab, tab-ext, tab-add, tab-at}
use Rattle.octets.specs.Choice.{both}
use Rattle.octets.specs.Least.{least_first, number_at, spelled}
use Rattle.octets.specs.Lists.{at, tab, onto, Octets}
use Rattle.settings.specs.Settings.{Settings, longest_aps}
use Rattle.answers.specs.Numbers.{ProtectionTold, written}
use Rattle.board.specs.declared.Board.{Board}
use Rattle.board.specs.Sending.{framed}
use Rattle.commands.specs.declared.Command.{Command}
use Rattle.commands.specs.declared.Kind.{Kind}
use Rattle.commands.specs.declared.Kind.TheVariants.{Transport1, Transport4, Transport2, Transport3, Update, Remove, Request2, Request4, Switch, Tunnel, Verify, Confirm, Down, Up}
use Rattle.commands.specs.declared.Secret.{Secret}
use Rattle.commands.specs.declared.Secret.TheVariants.{NoSecret, Key, Hash}
use Rattle.commands.specs.declared.Rest.{Rest}
use Rattle.commands.specs.declared.Rest.TheVariants.{End, Tlvs, Relay, Inner}
use Rattle.commands.specs.Kinds.{transport_of, request_of, listed, kind_of}
use Rattle.commands.specs.Table.{rule_of, secret_size, fits}
use Rattle.commands.specs.Numbers.{CommandTold, told_command}
use Rattle.commands.specs.Reading.{Judgement, sound, command_in, read, read_command}
use Rattle.commands.specs.Parts.{octets_at, key_in, hash_in, key_span, hash_span, rest_span, tlvs_in, inner_in, tlvs_span, inner_span}
use Rattle.commands.specs.Writing.{command_control, layout_of, laid_out, own_octets, frame_of, whole, aps_raised, write_command}
use Rattle.commands.specs.Reverse.{secret_read, rest_read}
use Rattle.commands.proofs.One.{transport_back, request_back, command_back, command-back}
use Rattle.commands.proofs.Bounds.{SecretIn, secret-in, part-rest}
use Rattle.commands.proofs.Judging.{Sound, judge-told, read_told}

-- ---- numbers

spelled-least : (s : List ℕ) → Octets s → spelled (length s) (least_first s) ≡ s
spelled-least [] o = refl
spelled-least (x ∷ s) o =
    let h = o.octet 0 in
    let m : (x + 256 * least_first s) % 256 ≡ x = omega (arith, h) in
    let d : (x + 256 * least_first s) / 256 ≡ least_first s = omega (arith, h) in
    ap₂ (λ (y : ℕ) (l : List ℕ). y ∷ l) m (ap (spelled (length s)) d ∙ spelled-least s (tail-octets o))

-- ---- the list read backwards

-- the identifier, and the type where there is one, by which a kind is named
abbrev Named : Kind → ℕ → ℕ → Type 0
Named Transport1 i t = (i ≡ 0x05) × (t ≡ 1)
Named Transport4 i t = (i ≡ 0x05) × (t ≡ 4)
Named Transport2 i t = (i ≡ 0x05) × (t ≡ 2)
Named Transport3 i t = (i ≡ 0x05) × (t ≡ 3)
Named Update i t = i ≡ 0x06
Named Remove i t = i ≡ 0x07
Named Request2 i t = (i ≡ 0x08) × (t ≡ 2)
Named Request4 i t = (i ≡ 0x08) × (t ≡ 4)
Named Switch i t = i ≡ 0x09
Named Tunnel i t = i ≡ 0x0e
Named Verify i t = i ≡ 0x0f
Named Confirm i t = i ≡ 0x10
Named Down i t = i ≡ 0x11
Named Up i t = i ≡ 0x12

kind_in : Option Kind → Kind
kind_in None = Up
kind_in (Some k) = k

module _ (i t : ℕ) (k : Kind) where
  -- a row of the list
  is : (j : Kind) → Named j i t → Some j ≡ Some k → Named k i t
  unfolding kind_in
  is j n e = subst (λ (x : Kind). Named x i t) (ap kind_in e) n

  none : None ≡ Some k → Named k i t
  none e = let z : ◌≡◌ {A = ℕ} 0 1 = cc in absurd (omega arith)

  abbrev Names : Option Kind → Type 0
  Names l = l ≡ Some k → Named k i t

  transport-named : i ≡ 0x05 → Names (transport_of t)
  unfolding transport_of
  transport-named a =
      choose Names (eqb t 1) _ _ (λ e. is Transport1 (a, eqb-true t 1 e))
      λ _. choose Names (eqb t 2) _ _ (λ e. is Transport2 (a, eqb-true t 2 e))
      λ _. choose Names (eqb t 3) _ _ (λ e. is Transport3 (a, eqb-true t 3 e))
      λ _. choose Names (eqb t 4) _ _ (λ e. is Transport4 (a, eqb-true t 4 e)) (λ _. none)

  request-named : i ≡ 0x08 → Names (request_of t)
  unfolding request_of
  request-named a =
      choose Names (eqb t 2) _ _ (λ e. is Request2 (a, eqb-true t 2 e))
      λ _. choose Names (eqb t 4) _ _ (λ e. is Request4 (a, eqb-true t 4 e)) (λ _. none)

  listed-named : Names (listed i t)
  unfolding listed
  listed-named =
      choose Names (eqb i 0x05) _ _ (λ e. transport-named (eqb-true i 0x05 e))
      λ _. choose Names (eqb i 0x06) _ _ (λ e. is Update (eqb-true i 0x06 e))
      λ _. choose Names (eqb i 0x07) _ _ (λ e. is Remove (eqb-true i 0x07 e))
      λ _. choose Names (eqb i 0x08) _ _ (λ e. request-named (eqb-true i 0x08 e))
      λ _. choose Names (eqb i 0x09) _ _ (λ e. is Switch (eqb-true i 0x09 e))
      λ _. choose Names (eqb i 0x0e) _ _ (λ e. is Tunnel (eqb-true i 0x0e e))
      λ _. choose Names (eqb i 0x0f) _ _ (λ e. is Verify (eqb-true i 0x0f e))
      λ _. choose Names (eqb i 0x10) _ _ (λ e. is Confirm (eqb-true i 0x10 e))
      λ _. choose Names (eqb i 0x11) _ _ (λ e. is Down (eqb-true i 0x11 e))
      λ _. choose Names (eqb i 0x12) _ _ (λ e. is Up (eqb-true i 0x12 e)) (λ _. none)

-- the command that tells what a frame of kind k tells is of kind k
kind-read : (f : List ℕ) (k : Kind) → kind_of (command_back (command_in f k)) ≡ k
unfolding command_in command_back transport_back request_back
kind-read f Transport1 = refl
kind-read f Transport4 = refl
kind-read f Transport2 = refl
kind-read f Transport3 = refl
kind-read f Update = refl
kind-read f Remove = refl
kind-read f Request2 = refl
kind-read f Request4 = refl
kind-read f Switch = refl
kind-read f Tunnel = refl
kind-read f Verify = refl
kind-read f Confirm = refl
kind-read f Down = refl
kind-read f Up = refl

same_kind : (c : Command) (f : List ℕ) (k : Kind) → told_command c ≡ command_in f k → kind_of c ≡ k
same_kind c f k e = ap kind_of (sym (command-back c) ∙ ap command_back e) ∙ kind-read f k

nil-right : (l : List ℕ) → l ++ [] ≡ l
nil-right [] = refl
nil-right (x ∷ l) = ap (λ (s : List ℕ). x ∷ s) (nil-right l)

-- ---- a frame's octets one by one

module _ (f : List ℕ) where
  part-tab : (i n : ℕ) → i + n ≤ length f → take n (drop i f) ≡ tab n (λ j. at f (i + j))
  part-tab i n h =
      sym (tab-at (take n (drop i f)))
      ∙ ap (λ (m : ℕ). tab m (at (take n (drop i f)))) (length-take-le n (drop i f) (rw (length-drop i f) (omega arith)))
      ∙ tab-ext n (at (take n (drop i f))) (λ j. at f (i + j)) (λ j l. get_or-take n (drop i f) j 0 l ∙ get_or-drop i f j 0)

  front-tab : (n : ℕ) → n ≤ length f → take n f ≡ tab n (at f)
  front-tab n h =
      sym (tab-at (take n f))
      ∙ ap (λ (m : ℕ). tab m (at (take n f))) (length-take-le n f h)
      ∙ tab-ext n (at (take n f)) (at f) (λ j l. get_or-take n f j 0 l)

  -- behind an identifier, and behind identifier and type
  identified : (m i : ℕ) → at f 2 ≡ i → 3 + m ≤ length f → at f 0 ∷ at f 1 ∷ i ∷ tab m (λ j. at f (3 + j)) ≡ take (3 + m) f
  identified m i e h =
      ap (λ (y : ℕ). at f 0 ∷ at f 1 ∷ y ∷ tab m (λ j. at f (3 + j))) (sym e)
      ∙ sym (front-tab (3 + m) h ∙ tab-add 3 m (at f))

  typed : (m i t : ℕ) → at f 2 ≡ i → at f 3 ≡ t → 4 + m ≤ length f → at f 0 ∷ at f 1 ∷ i ∷ t ∷ tab m (λ j. at f (4 + j)) ≡ take (4 + m) f
  typed m i t e g h =
      ap₂ (λ (y z : ℕ). at f 0 ∷ at f 1 ∷ y ∷ z ∷ tab m (λ j. at f (4 + j))) (sym e) (sym g)
      ∙ sym (front-tab (4 + m) h ∙ tab-add 4 m (at f))

  -- ---- a command's own octets, read and written again

  module _ (o : Octets f) where
    number-tab : (n i : ℕ) → spelled n (number_at n f i) ≡ tab n (λ j. at f (i + j))
    unfolding number_at
    number-tab n i =
        let s = tab n (λ j. at f (i + j)) in
        ap (λ (m : ℕ). spelled m (least_first s)) (sym (length-tab n (λ j. at f (i + j))))
        ∙ spelled-least s (tab-octets n (λ j. at f (i + j)) (λ j _. o.octet (i + j)))

    -- the octets of key or hash, of which a command has one at most
    abbrev secret_at : Kind → List ℕ
    secret_at k = octets_at f (key_in (rule_of k).secret) ++ octets_at f (hash_in (rule_of k).secret)

    -- an identifier and an address; an application link key
    addressed : (i : ℕ) → 11 ≤ length f → at f 2 ≡ i → (at f 0 ∷ at f 1 ∷ i ∷ []) ++ spelled 8 (number_at 8 f 3) ≡ take 11 f
    addressed i h n = ap (λ (u : List ℕ). (at f 0 ∷ at f 1 ∷ i ∷ []) ++ u) (number-tab 8 3) ∙ identified 8 i n h

    application : (t : ℕ) → 29 ≤ length f → at f 2 ≡ 5 → at f 3 ≡ t
        → (at f 0 ∷ at f 1 ∷ 5 ∷ t ∷ []) ++ (take 16 (drop 4 f) ++ []) ++ spelled 8 (number_at 8 f 20) ++ (at f 28 ∷ []) ≡ take 29 f
    application t h m n =
        ap₂ (λ (k u : List ℕ). (at f 0 ∷ at f 1 ∷ 5 ∷ t ∷ []) ++ (k ++ []) ++ u ++ (at f 28 ∷ [])) (part-tab 4 16 (omega arith))
        (number-tab 8 20)
        ∙ typed 25 5 t m n h

    own_read : (k : Kind) → 2 + (rule_of k).size ≤ length f → Named k (at f 2) (at f 3)
        → at f 0 ∷ at f 1 ∷ laid_out (secret_at k) (layout_of k) (command_in f k) ≡ take (2 + (rule_of k).size) f
    unfolding command_in rule_of key_in hash_in
    own_read Transport1 h n =
        ap₂ (λ (u v : List ℕ). (at f 0 ∷ at f 1 ∷ 5 ∷ 1 ∷ []) ++ (take 16 (drop 4 f) ++ []) ++ (at f 20 ∷ []) ++ u ++ v) (number-tab 8 21)
        (number-tab 8 29)
        ∙ ap (λ (k : List ℕ). (at f 0 ∷ at f 1 ∷ 5 ∷ 1 ∷ []) ++ (k ++ []) ++ (at f 20 ∷ []) ++ tab 8 (λ j. at f (21 + j)) ++ tab 8
        (λ j. at f (29 + j))) (part-tab 4 16 (omega arith))
        ∙ typed 33 5 1 n.0 n.1 h
    own_read Transport4 h n =
        ap₂ (λ (u v : List ℕ). (at f 0 ∷ at f 1 ∷ 5 ∷ 4 ∷ []) ++ (take 16 (drop 4 f) ++ []) ++ u ++ v) (number-tab 8 20) (number-tab 8 28)
        ∙ ap (λ (k : List ℕ). (at f 0 ∷ at f 1 ∷ 5 ∷ 4 ∷ []) ++ (k ++ []) ++ tab 8 (λ j. at f (20 + j)) ++ tab 8 (λ j. at f (28 + j)))
        (part-tab 4 16 (omega arith))
        ∙ typed 32 5 4 n.0 n.1 h
    own_read Transport2 h n = application 2 h n.0 n.1
    own_read Transport3 h n = application 3 h n.0 n.1
    own_read Update h n =
        ap₂ (λ (u v : List ℕ). (at f 0 ∷ at f 1 ∷ 6 ∷ []) ++ u ++ v ++ (at f 13 ∷ [])) (number-tab 8 3) (number-tab 2 11)
        ∙ identified 11 6 n h
    own_read Remove h n = addressed 7 h n
    own_read Request2 h n =
        ap (λ (u : List ℕ). (at f 0 ∷ at f 1 ∷ 8 ∷ 2 ∷ []) ++ u) (number-tab 8 4)
        ∙ typed 8 8 2 n.0 n.1 h
    own_read Request4 h n = typed 0 8 4 n.0 n.1 h
    own_read Switch h n = identified 1 9 n h
    own_read Tunnel h n = addressed 14 h n
    own_read Verify h n =
        ap₂ (λ (u k : List ℕ). (at f 0 ∷ at f 1 ∷ 15 ∷ at f 3 ∷ []) ++ u ++ ([] ++ k)) (number-tab 8 4) (part-tab 12 16 (omega arith))
        ∙ identified 25 15 n h
    own_read Confirm h n =
        ap (λ (u : List ℕ). (at f 0 ∷ at f 1 ∷ 16 ∷ at f 3 ∷ at f 4 ∷ []) ++ u) (number-tab 8 5)
        ∙ identified 10 16 n h
    own_read Down h n = identified 0 17 n h
    own_read Up h n = identified 0 18 n h

    -- ---- the parts that are lent

    keyed : 20 ≤ length f → length (take 16 (drop 4 f) ++ []) ≡ 16
    keyed h = ap length (nil-right (take 16 (drop 4 f))) ∙ length-take-le 16 (drop 4 f) (rw (length-drop 4 f) (omega arith))

    secret-whole : (s : Secret) (n : ℕ) → SecretIn s n → 2 + n ≤ length f
        → length (octets_at f (key_in s) ++ octets_at f (hash_in s)) ≡ secret_size s
    unfolding key_in hash_in
    secret-whole NoSecret n e h = refl
    secret-whole Key n e h = keyed (omega arith)
    secret-whole Hash n e h = length-take-le 16 (drop 12 f) (rw (length-drop 12 f) (omega arith))

    rest-whole : (z : Settings) (u : Rest) (i : ℕ) → fits z u (drop i f) ≡ true
        → octets_at f (tlvs_in u (rest_span (length f) i)) ++ octets_at f (inner_in u (rest_span (length f) i)) ≡ drop i f
    unfolding tlvs_in inner_in rest_span fits
    rest-whole z End i e =
        let none_left : length f - i ≡ 0 = sym (length-drop i f) ∙ eqb-true (length (drop i f)) 0 e in
        sym (drop_of_length-le f {i = i} (omega arith))
    rest-whole z Tlvs i e = nil-right (take (length f - i) (drop i f)) ∙ part-rest i f
    rest-whole z Relay i e = nil-right (take (length f - i) (drop i f)) ∙ part-rest i f
    rest-whole z Inner i e = part-rest i f

-- ---- all together

module _ (z : Settings) (b : Board) (ack : Bool) (c : Command) (k r o : List ℕ) (f : List ℕ) where
  pub writes-frame : whole z (rule_of (kind_of c)) k r ≡ true → frame_of b ack c k r ≡ f → length f ≤ longest_aps → longest_aps ≤ length o
      → write_command z b ack c k r o ≡ framed (written (length f)) (aps_raised b) (onto f o)
  unfolding write_command
  writes-frame w e l h = simp (le-ltb (length o) longest_aps h, w, e, le-ltb longest_aps (length f) l)

module _ (z : Settings) (f : List ℕ) (p : ProtectionTold) (b : Board) (ack : Bool) (o : List ℕ) where
  again : (c : Command) (k : Kind) → told_command c ≡ command_in f k → Octets f → Sound z f p k → at f 0 ≡ command_control ack
      → at f 1 ≡ b.aps → longest_aps ≤ length o
      → write_command z b ack c (octets_at f (key_span (sound k)) ++ octets_at f (hash_span (sound k)))
      (octets_at f (tlvs_span (length f) (sound k)) ++ octets_at f (inner_span (length f) (sound k))) o
      ≡ framed (written (length f)) (aps_raised b) (onto f o)
  unfolding key_span hash_span tlvs_span inner_span frame_of own_octets whole
  again c k e s m x n h =
      writes-frame z b ack c (secret_at f s k) rest o f parts frame m.short h
    where
      i : ℕ
      i = 2 + (rule_of k).size

      rest : List ℕ
      rest = octets_at f (tlvs_in (rule_of k).rest (rest_span (length f) (2 + (rule_of k).size))) ++ octets_at f
          (inner_in (rule_of k).rest (rest_span (length f) (2 + (rule_of k).size)))

      rest-is : rest ≡ drop (2 + (rule_of k).size) f
      rest-is = rest-whole f s z (rule_of k).rest (2 + (rule_of k).size) m.meets.fitting

      kind-is : kind_of c ≡ k
      kind-is = same_kind c f k e

      parts : whole z (rule_of (kind_of c)) (secret_at f s k) rest ≡ true
      parts =
          ap (λ (j : Kind). whole z (rule_of j) (secret_at f s k) rest) kind-is
          ∙ ap₂ both (eq-eqb (length (secret_at f s k)) (secret_size (rule_of k).secret)
          (secret-whole f s (rule_of k).secret (rule_of k).size (secret-in k) m.meets.sized))
          (ap (fits z (rule_of k).rest) rest-is ∙ m.meets.fitting)

      frame : command_control ack ∷ b.aps ∷ (own_octets c (secret_at f s k) ++ rest) ≡ f
      frame =
          ap₂ (λ (j : Kind) (d : CommandTold). command_control ack ∷ b.aps ∷ (laid_out (secret_at f s k) (layout_of j) d ++ rest)) kind-is e
          ∙ ap₂ (λ (y z : ℕ). y ∷ z ∷ (laid_out (secret_at f s k) (layout_of k) (command_in f k) ++ rest)) (sym x) (sym n)
          ∙ ap₂ (λ (y z : List ℕ). y ++ z) (own_read f s k m.meets.sized (listed-named (at f 2) (at f 3) k m.listing)) rest-is
          ∙ take-append-drop (2 + (rule_of k).size) f

  -- a frame f of octets that was read as the command c, written again with the parts that it gave
  pub write-back : (c : Command) → Octets f → read_command z f p ≡ read (told_command c) → at f 0 ≡ command_control ack → at f 1 ≡ b.aps
      → longest_aps ≤ length o
      → write_command z b ack c (secret_read z f p) (rest_read z f p) o ≡ framed (written (length f)) (aps_raised b) (onto f o)
  write-back c s e x n h =
      let t = read_told z f p (told_command c) e in
      let w = again c t.0 t.2 s (judge-told z f p t.0 t.1) x n h in
      ap (λ (v : Judgement). write_command z b ack c (octets_at f (key_span v) ++ octets_at f (hash_span v))
      (octets_at f (tlvs_span (length f) v) ++ octets_at f (inner_span (length f) v)) o) t.1
      ∙ w
