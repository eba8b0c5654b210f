-- The calls of `unseal_sound` do what `unsealing` says: the cipher is asked what it asks, and the header goes before the message.
-- Assumes nothing.
use Rattle.std.proofs.Common.{Result, Ok, Err}
use mathlib.Core.Path.{◌≡◌, refl, sym, ap, ap₂, ◌∙◌}
use mathlib.Core.Bool.{true}
use mathlib.Core.List.{List, ◌++◌}
use Prim.Native.Nat.{ℕ, ◌+◌, ◌-◌, ◌≤◌}
use native.Mathlib.Omega.{arith}
use lib.Dec.{leb}
use lib.ListN.{length, take, drop, length-append, length-drop, length-set, take-append-drop}
use lib.Seq.{length-take-le}
use borrow.Author.Tests.{leb-true, le-leb}
use Rattle.octets.proofs.Choices.{both-parts}
use Rattle.settings.specs.Settings.{Settings, longest}
use Rattle.octets.specs.Keys.{Key}
use Rattle.octets.specs.Lists.{onto}
use Rattle.seals.specs.Sealing.{Fair, authenticated_of, body_of, nonce_for, message_of, plain_frame, sound, unsealed_onto, unsealing}
use Rattle.cipher.specs.Aes.{aes128}
use Rattle.cipher.specs.Ccm.{Verdict, valid, invalid}
use Rattle.cipher.specs.declared.Fault.{Fault}
use Rattle.cipher.specs.Answers.{opening, opened_onto, made, refused, counted, number, Product, product}
use Rattle.cipher.proofs.Lengths.{opening-judged, valid-length}
use Rattle.frames.specs.declared.Layer.{Layer}
use Rattle.frames.specs.declared.Secured.{Secured}
use Rattle.frames.specs.Making.{laid, plain_header}
use Rattle.frames.proofs.Layings.{laid-onto}
use Rattle.seals.proofs.Parts.{onto-more}
use Rattle.seals.proofs.Authentic.{authenticated-length, scratch-front}

pub record Sound (z : Settings) (f : List ℕ) (s : Secured) : Type 0 where
  pub headed : 2 ≤ s.header
  pub whole : s.header + s.aux + z.tag ≤ length f
  pub short : length f ≤ longest

pub sound-tells : (z : Settings) (f : List ℕ) (s : Secured) → sound z f s ≡ true → Sound z f s
unfolding sound
sound-tells z f s e =
    let p = both-parts (leb 2 s.header) _ e in
    let q = both-parts (leb (s.header + s.aux + z.tag) (length f)) (leb (length f) longest) p.1 in
    record { headed = leb-true _ _ p.0; whole = leb-true _ _ q.0; short = leb-true _ _ q.1 }

pub tells-sound : (z : Settings) (f : List ℕ) (s : Secured) → Sound z f s → sound z f s ≡ true
unfolding sound
tells-sound z f s t = simp (le-leb _ _ t.headed, le-leb _ _ t.whole, le-leb _ _ t.short)

module _ (z : Settings) (fair : Fair z) (k : Key) (l : Layer) (f : List ℕ) (s : Secured) (o : List ℕ) (t : Sound z f s)
    (room : longest ≤ length o) where
  abbrev both-headers : ℕ
  both-headers = s.header + s.aux

  auth-length : length (authenticated_of z f s) ≡ both-headers
  auth-length = authenticated-length z f s.header both-headers (let h = t.whole in omega arith)

  -- what the cipher was asked is what the definition asks
  pub asked : (w a n : List ℕ) → length w ≡ longest → a ≡ laid w f both-headers (authenticated_of z f s) → n ≡ nonce_for z s
      → opening z.tag k.octets n (take both-headers a) (drop both-headers f) (drop s.header o)
      ≡ opened_onto (message_of z k f s) (drop s.header o)
  unfolding message_of
  asked w a n e q en =
      let h = t.whole in
      let j = t.short in
      ap₂ (λ (u v : List ℕ). opening z.tag k.octets u v (drop both-headers f) (drop s.header o)) en
      (scratch-front z w a f s.header both-headers (omega arith) (omega arith) q)
      ∙ opening-judged z.tag k.octets (nonce_for z s) (authenticated_of z f s) fair.tag (omega (arith, auth-length))
      (drop both-headers f) (drop s.header o)
      (omega (arith, length-drop both-headers f)) (omega (arith, length-drop both-headers f))
      (omega (arith, length-drop both-headers f, length-drop s.header o))

  pub unsealing-is : unsealing z k l f s o ≡ unsealed_onto l f s o (message_of z k f s)
  unfolding unsealing
  unsealing-is = simp (tells-sound z f s t, le-leb _ _ room)

  header-length : length (plain_header l f s.header) ≡ s.header
  unfolding plain_header
  header-length = length-set (take s.header f) _ _ ∙ length-take-le s.header f (let h = t.whole in omega arith)

  pub plain-length : (m : List ℕ) → length (plain_frame l f s m) ≡ s.header + length m
  unfolding plain_frame
  plain-length m = length-append (plain_header l f s.header) m ∙ ap (λ (n : ℕ). n + length m) header-length

  -- the output once message and header are laid
  both-laid : (m p q : List ℕ) → drop s.header p ≡ onto m (drop s.header o) → length p ≡ length o
      → q ≡ laid p f s.header (plain_header l f s.header) → q ≡ onto (plain_frame l f s m) o
  unfolding plain_frame
  both-laid m p q ep lp eq =
      let h = t.whole in
      let j = t.short in
      eq ∙ laid-onto p f s.header (plain_header l f s.header) (omega arith) (omega arith)
      ∙ ap (λ (x : List ℕ). plain_header l f s.header ++ x)
      (ap (λ (n : ℕ). drop n p) header-length ∙ ep ∙ ap (λ (n : ℕ). onto m (drop n o)) (sym header-length))
      ∙ onto-more (plain_header l f s.header) m o

  -- a message has what is left of the frame without headers and tag
  pub message-length : (m : List ℕ) → message_of z k f s ≡ valid m → length m ≡ length f - both-headers - z.tag
  unfolding message_of
  message-length m e =
      let h = t.whole in
      valid-length (aes128 k.octets) z.tag (nonce_for z s) (authenticated_of z f s) (body_of f s) m
      (omega (arith, length-drop both-headers f)) e
      ∙ ap (λ (n : ℕ). n - z.tag) (length-drop both-headers f)

  pub made-length : (n : ℕ) (y w : List ℕ) → product (made n) y ≡ opened_onto (message_of z k f s) w → n ≡ length f - both-headers - z.tag
  made-length n y w e = go (message_of z k f s) refl e
    where
      go : (r : Verdict) → message_of z k f s ≡ r → product (made n) y ≡ opened_onto r w → n ≡ length f - both-headers - z.tag
      go (valid m) q g =
          let a : made n ≡ made (length m) = ap (λ (x : Product). x.answer) g in
          let u : n ≡ length m = cc in
          u ∙ message-length m q
      go invalid q g =
          let a : made n ≡ refused 9 = ap (λ (x : Product). x.answer) g in
          let never : ◌≡◌ {A = ℕ} 0 1 = cc in
          absurd (omega arith)

  -- the cipher made n octets
  pub unsealed-made : (n : ℕ) (p q : List ℕ)
      → product (made n) (drop s.header p) ≡ opened_onto (message_of z k f s) (drop s.header o) → length p ≡ length o
      → q ≡ laid p f s.header (plain_header l f s.header) → product (made (s.header + n)) q ≡ unsealing z k l f s o
  unsealed-made n p q e lp eq = go (message_of z k f s) e ∙ sym unsealing-is
    where
      go : (r : Verdict) → product (made n) (drop s.header p) ≡ opened_onto r (drop s.header o)
          → product (made (s.header + n)) q ≡ unsealed_onto l f s o r
      go (valid m) g =
          let a : made n ≡ made (length m) = ap (λ (x : Product). x.answer) g in
          let u : n ≡ length m = cc in
          let b : drop s.header p ≡ onto m (drop s.header o) = ap (λ (x : Product). x.octets) g in
          ap₂ (λ (y : ℕ) (v : List ℕ). product (made y) v) (ap (λ (y : ℕ). s.header + y) u ∙ sym (plain-length m))
          (both-laid m p q b lp eq)
      go invalid g =
          let a : made n ≡ refused 9 = ap (λ (x : Product). x.answer) g in
          let never : ◌≡◌ {A = ℕ} 0 1 = cc in
          absurd (omega arith)

  -- the cipher refused
  pub unsealed-not : (n : ℕ) (p : List ℕ)
      → product (refused n) (drop s.header p) ≡ opened_onto (message_of z k f s) (drop s.header o)
      → take s.header p ≡ take s.header o → product (refused 9) p ≡ unsealing z k l f s o
  unsealed-not n p e et = go (message_of z k f s) e ∙ sym unsealing-is
    where
      go : (r : Verdict) → product (refused n) (drop s.header p) ≡ opened_onto r (drop s.header o)
          → product (refused 9) p ≡ unsealed_onto l f s o r
      go (valid m) g =
          let a : refused n ≡ made (length m) = ap (λ (x : Product). x.answer) g in
          let never : ◌≡◌ {A = ℕ} 0 1 = cc in
          absurd (omega arith)
      go invalid g =
          let b : drop s.header p ≡ drop s.header o = ap (λ (x : Product). x.octets) g in
          ap (product (refused 9))
          (sym (take-append-drop s.header p) ∙ ap₂ (λ (u v : List ℕ). u ++ v) et b ∙ take-append-drop s.header o)

-- what the cipher answered, r, and what it left in the output, p, are what the definition asks of it
pub record Unseals (z : Settings) (k : Key) (f : List ℕ) (s : Secured) (o : List ℕ) (r : Result ℕ Fault) (p : List ℕ) : Type 0 where
  pub fits : Sound z f s
  pub room : longest ≤ length o
  pub outcome : product (counted r) (drop s.header p) ≡ opened_onto (message_of z k f s) (drop s.header o)

-- what opening then answers
module _ {z : Settings} {k : Key} {f : List ℕ} {s : Secured} {o : List ℕ} {r : Result ℕ Fault} {p : List ℕ} (fair : Fair z)
    (u : Unseals z k f s o r p) (l : Layer) where
  by_answer : (a : Result ℕ Fault) → r ≡ a → product (counted a) (drop s.header p) ≡ opened_onto (message_of z k f s) (drop s.header o)
  by_answer a e = ap (λ (x : Result ℕ Fault). product (counted x) (drop s.header p)) (sym e) ∙ u.outcome

  pub after-length : (n : ℕ) → r ≡ Ok n → n ≡ length f - (s.header + s.aux) - z.tag
  after-length n e = made-length z fair k l f s o u.fits u.room n _ _ (by_answer (Ok n) e)

  pub after-made : (n : ℕ) (q : List ℕ) → r ≡ Ok n → length p ≡ length o → q ≡ laid p f s.header (plain_header l f s.header)
      → product (made (s.header + n)) q ≡ unsealing z k l f s o
  after-made n q e lp eq = unsealed-made z fair k l f s o u.fits u.room n p q (by_answer (Ok n) e) lp eq

  pub after-not : (v : Fault) → r ≡ Err v → take s.header p ≡ take s.header o
      → product (refused 9) p ≡ unsealing z k l f s o
  after-not v e et = unsealed-not z fair k l f s o u.fits u.room (number v) p (by_answer (Err v) e) et
