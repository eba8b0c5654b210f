-- Laws of laying octets one behind another, and of the frame that the writer lays.
-- Assumes nothing.
use Rattle.std.proofs.Common.{◌≡◌, ℕ, ◌+◌, ◌-◌, ◌<◌, ◌≤◌, Bool, true, false, eqb, List, [], ◌∷◌, ◌++◌, length, drop, sym, refl, ap, ◌∙◌, ap₂, arith, length-append, length-drop, drop-drop, take_at, le-ltb, lt-ltb, eqb-true}
use lib.Seq.{take-length, drop-append-add}
use Rattle.octets.proofs.Choices.{both-parts}
use Rattle.octets.proofs.Pasted.{pasted-fits, pasted-onto}
use Rattle.octets.specs.Lists.{onto, pasted}
use Rattle.settings.specs.Settings.{Settings, longest_aps}
use Rattle.answers.specs.Numbers.{written, turned_down}
use Rattle.board.specs.declared.Board.{Board}
use Rattle.board.specs.Sending.{framed}
use Rattle.commands.specs.declared.Command.{Command}
use Rattle.commands.specs.declared.Command.TheVariants.{TransportKey, UpdateDevice, RemoveDevice, RequestKey, SwitchKey, Tunnel, VerifyKey, ConfirmKey, RelayDownstream, RelayUpstream}
use Rattle.commands.specs.declared.Rule.{Rule}
use Rattle.commands.specs.Kinds.{kind_of}
use Rattle.commands.specs.Table.{rule_of, fits, secret_size}
use Rattle.commands.specs.Writing.{command_control, own_octets, frame_of, whole, aps_raised, write_command}
use Rattle.commands.proofs.Bounds.{size-most}
use Rattle.commands.specs.declared.Transported.TheVariants as transports
use Rattle.commands.specs.declared.Requested.TheVariants as requests

-- t laid behind s, which stands at the start of o
laid_more : (o m l s t : List ℕ) (n : ℕ) → length s ≡ n → m ≡ onto s o → l ≡ pasted m n t → n + length t ≤ length o → l ≡ onto (s ++ t) o
laid_more o m l s t n c e g h =
    g ∙ ap (λ (x : List ℕ). pasted x n t) e
    ∙ pasted-fits (onto s o) n t (rw long h)
    ∙ ap₂ (λ (x y : List ℕ). x ++ y ++ drop (n + length t) (onto s o)) (take_at s (drop (length s) o) n c) (take-length t)
    ∙ ap (λ (x : List ℕ). s ++ t ++ x) behind
  where
    long : length (onto s o) ≡ length o
    long = simp (length-append, length-drop) (omega arith)

    behind : drop (n + length t) (onto s o) ≡ drop (length (s ++ t)) o
    behind =
        let q : length s + length t ≡ n + length t = omega arith in
        ap (λ (i : ℕ). drop i (onto s o)) (sym q)
        ∙ drop-append-add s (drop (length s) o) (length t)
        ∙ drop-drop (length t) (length s) o
        ∙ ap (λ (i : ℕ). drop i o) (sym (length-append s t))

-- a header of two octets, s behind it and t behind both
pub laid-all : (o l m z : List ℕ) (x y : ℕ) (s t : List ℕ) (n : ℕ) → length s ≡ n → l ≡ pasted o 0 (x ∷ y ∷ []) → m ≡ pasted l 2 s
    → z ≡ pasted m (2 + n) t → 2 + n + length t ≤ length o → z ≡ onto (x ∷ y ∷ (s ++ t)) o
laid-all o l m z x y s t n c e g j h =
    laid_more o m z (x ∷ y ∷ s) t (2 + n) (omega (arith, c))
    (laid_more o l m (x ∷ y ∷ []) s 2 refl (pasted-onto l o (x ∷ y ∷ []) e (omega arith)) g (omega (arith, c))) j h

-- ---- a command's own octets

pub own-length : (c : Command) (k : List ℕ) → length k ≡ secret_size (rule_of (kind_of c)).secret
    → length (own_octets c k) ≡ (rule_of (kind_of c)).size
unfolding own_octets rule_of
own-length (TransportKey (transports.Network q d s)) k h = simp length-append (omega (arith, h))
own-length (TransportKey (transports.TrustCentre d s)) k h = simp length-append (omega (arith, h))
own-length (TransportKey (transports.ApplicationMaster a i)) k h = simp length-append (omega (arith, h))
own-length (TransportKey (transports.ApplicationLink a i)) k h = simp length-append (omega (arith, h))
own-length (UpdateDevice a s t) k h = refl
own-length (RemoveDevice a) k h = refl
own-length (RequestKey (requests.Application a)) k h = refl
own-length (RequestKey requests.TrustCentre) k h = refl
own-length (SwitchKey q) k h = refl
own-length (Tunnel a) k h = refl
own-length (VerifyKey t a) k h = simp length-append (omega (arith, h))
own-length (ConfirmKey s t a) k h = refl
own-length RelayDownstream k h = refl
own-length RelayUpstream k h = refl

-- ---- the parts lent

pub whole-secret : (z : Settings) (u : Rule) (k r : List ℕ) → whole z u k r ≡ true → length k ≡ secret_size u.secret
unfolding whole
whole-secret z u k r e = eqb-true (length k) (secret_size u.secret)
    (both-parts (eqb (length k) (secret_size u.secret)) (fits z u.rest r) e).0

pub whole-rest : (z : Settings) (u : Rule) (k r : List ℕ) → whole z u k r ≡ true → fits z u.rest r ≡ true
unfolding whole
whole-rest z u k r e = (both-parts (eqb (length k) (secret_size u.secret)) (fits z u.rest r) e).1

-- ---- what the writer answers

module _ (z : Settings) (b : Board) (ack : Bool) (c : Command) (k r o : List ℕ) where
  pub frame-length : whole z (rule_of (kind_of c)) k r ≡ true → length (frame_of b ack c k r) ≡ 2 + (rule_of (kind_of c)).size + length r
  unfolding frame_of
  frame-length w =
      let e : length (own_octets c k ++ r) ≡ length (own_octets c k) + length r = length-append (own_octets c k) r in
      omega (arith, e, own-length c k (whole-secret z (rule_of (kind_of c)) k r w))

  -- by the rule u that was looked up
  module _ (u : Rule) (e : u ≡ rule_of (kind_of c)) where
    ruled : (t : Bool) → t ≡ whole z u k r → whole z (rule_of (kind_of c)) k r ≡ t
    ruled t g = ap (λ (x : Rule). whole z x k r) (sym e) ∙ sym g

    pub lent-secret : whole z u k r ≡ true → length k ≡ secret_size (rule_of (kind_of c)).secret
    lent-secret w = whole-secret z (rule_of (kind_of c)) k r (ruled true (sym w))

    module _ (h : longest_aps ≤ length o) where
      pub refuses-parts : whole z u k r ≡ false → framed (turned_down 11) b o ≡ write_command z b ack c k r o
      unfolding write_command
      refuses-parts w = simp (le-ltb _ _ h, ruled false (sym w))

      pub refuses-long : whole z u k r ≡ true → longest_aps - 2 - u.size < length r
          → framed (turned_down 2) b o ≡ write_command z b ack c k r o
      unfolding write_command
      refuses-long w g =
          let v = ruled true (sym w) in
          let s : u.size ≡ (rule_of (kind_of c)).size = ap (λ (x : Rule). x.size) e in
          simp (le-ltb _ _ h, v, lt-ltb longest_aps (length (frame_of b ack c k r)) (omega (arith, frame-length v, size-most (kind_of c), s)))

      pub writes : whole z u k r ≡ true → length r ≤ longest_aps - 2 - u.size → (x : ℕ) (l : List ℕ) (n : ℕ) (d : Board) (m : List ℕ)
          → x ≡ command_control ack → l ≡ own_octets c k
          → n ≡ 2 + length l + length r → d ≡ aps_raised b → m ≡ onto (x ∷ b.aps ∷ (l ++ r)) o
          → framed (written n) d m ≡ write_command z b ack c k r o
      unfolding write_command frame_of
      writes w g x l n d m i j p q y =
          let v = ruled true (sym w) in
          let s : u.size ≡ (rule_of (kind_of c)).size = ap (λ (x : Rule). x.size) e in
          let f = frame_of b ack c k r in
          let out : m ≡ onto f o = y ∙ ap₂ (λ (c : ℕ) (s : List ℕ). onto (c ∷ b.aps ∷ (s ++ r)) o) i j in
          let len : n ≡ length f = omega (arith, p, ap length j, own-length c k (lent-secret w), frame-length v) in
          ap₂ (λ (i : ℕ) (s : List ℕ). framed (written i) d s) len out
          ∙ ap (λ (e : Board). framed (written (length f)) e (onto f o)) q
          ∙ sym (simp (le-ltb _ _ h, v, le-ltb longest_aps (length f) (omega (arith, frame-length v, size-most (kind_of c), s))))
