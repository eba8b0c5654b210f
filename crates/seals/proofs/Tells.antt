-- Unsealing a sound frame tells whether its tag fits and what was laid; sealing a sealable one always makes the secured frame.
-- Assumes nothing.
use Rattle.std.proofs.Common.{Option, Some, None}
use mathlib.Core.Path.{◌≡◌, refl, sym, ap, ◌∙◌}
use mathlib.Core.Bool.{true}
use mathlib.Core.List.{List}
use Prim.Native.Nat.{ℕ, ◌+◌, ◌≤◌}
use native.Mathlib.Omega.{arith}
use lib.ListN.{length}
use Rattle.settings.specs.Settings.{Settings, longest}
use Rattle.octets.specs.Keys.{Key}
use Rattle.octets.specs.Lists.{onto}
use Rattle.cipher.specs.Answers.{made, refused, Product, product}
use Rattle.cipher.specs.Ccm.{Verdict, valid, invalid}
use Rattle.frames.specs.declared.Layer.{Layer}
use Rattle.frames.specs.declared.Secured.{Secured}
use Rattle.seals.proofs.Securing.{Sealable, sealed-length, sealing-makes}
use Rattle.seals.specs.Sealing.{Fair, sent_octets, sealed_frame, sealing, told_enclosed, message_of, plain_frame, told_unsealed, sound, unsealed_onto, unsealing}
use Rattle.seals.proofs.Opened.{sound-tells, unsealing-is, plain-length}

module _ (z : Settings) (fair : Fair z) (k : Key) (l : Layer) (f : List ℕ) (s : Secured) (o : List ℕ) (t : sound z f s ≡ true)
    (room : longest ≤ length o) where
  -- a frame of n octets was made, and p is the output that it left
  pub record MadeOf (n : ℕ) (p : List ℕ) : Type 0 where
    pub message : List ℕ
    pub fits : message_of z k f s ≡ valid message
    pub count : n ≡ s.header + length message
    pub laid : p ≡ onto (plain_frame l f s message) o

  by-message : (w : Option ℕ) (p : List ℕ) → product (told_unsealed w) p ≡ unsealing z k l f s o
      → product (told_unsealed w) p ≡ unsealed_onto l f s o (message_of z k f s)
  by-message w p e = e ∙ unsealing-is z fair k l f s o (sound-tells z f s t) room

  pub plain-tells : (w : Option ℕ) (n : ℕ) (p : List ℕ) → w ≡ Some n → product (told_unsealed w) p ≡ unsealing z k l f s o → MadeOf n p
  plain-tells w n p ew e = go (message_of z k f s) refl (ap (λ (x : Option ℕ). product (told_unsealed x) p) (sym ew) ∙ by-message w p e)
    where
      go : (r : Verdict) → message_of z k f s ≡ r → product (made n) p ≡ unsealed_onto l f s o r → MadeOf n p
      go (valid m) q g =
          let a : made n ≡ made (length (plain_frame l f s m)) = ap (λ (x : Product). x.answer) g in
          let b : n ≡ length (plain_frame l f s m) = cc in
          record {
            message = m;
            fits = q;
            count = b ∙ plain-length z fair k l f s o (sound-tells z f s t) room m;
            laid = ap (λ (x : Product). x.octets) g;
          }
      go invalid q g =
          let a : made n ≡ refused 9 = ap (λ (x : Product). x.answer) g in
          let never : ◌≡◌ {A = ℕ} 0 1 = cc in
          absurd (omega arith)

  pub forged-tells : (w : Option ℕ) (p : List ℕ) → w ≡ None → product (told_unsealed w) p ≡ unsealing z k l f s o
      → (message_of z k f s ≡ invalid) × (p ≡ o)
  forged-tells w p ew e = go (message_of z k f s) refl (ap (λ (x : Option ℕ). product (told_unsealed x) p) (sym ew) ∙ by-message w p e)
    where
      go : (r : Verdict) → message_of z k f s ≡ r → product (refused 9) p ≡ unsealed_onto l f s o r → (message_of z k f s ≡ invalid) × (p ≡ o)
      go (valid m) q g =
          let a : refused 9 ≡ made (length (plain_frame l f s m)) = ap (λ (x : Product). x.answer) g in
          let never : ◌≡◌ {A = ℕ} 0 1 = cc in
          absurd (omega arith)
      go invalid q g = (q, ap (λ (x : Product). x.octets) g)

-- ---- sealing

module _ (z : Settings) (key : Key) (l : Layer) (k n a q : ℕ) (f : List ℕ) (h : ℕ) (o : List ℕ) (low : k ≤ 3) (t : Sealable z k f h)
    (room : longest ≤ length o) where
  -- of the answer that the call gave
  pub sealed-tells : (w : Option ℕ) (m : ℕ) (p : List ℕ) → w ≡ Some m → product (told_enclosed w) p ≡ sealing z key l k n a q f h o
      → (m ≡ length f + sent_octets k + z.tag) × (p ≡ onto (sealed_frame z key l k n a q f h) o)
  sealed-tells w m p ew e =
      let g = ap (λ (x : Option ℕ). product (told_enclosed x) p) (sym ew) ∙ e ∙ sealing-makes z key l k n a q f h o low t room in
      let u : made m ≡ made (length (sealed_frame z key l k n a q f h)) = ap (λ (x : Product). x.answer) g in
      let v : m ≡ length (sealed_frame z key l k n a q f h) = cc in
      (v ∙ sealed-length z key l k n a q f h t.within, ap (λ (x : Product). x.octets) g)

  pub never-nothing : {A : Type 0} (w : Option ℕ) (p : List ℕ) → w ≡ None
      → product (told_enclosed w) p ≡ sealing z key l k n a q f h o → A
  never-nothing w p ew e =
      let g = ap (λ (x : Option ℕ). product (told_enclosed x) p) (sym ew) ∙ e ∙ sealing-makes z key l k n a q f h o low t room in
      let u : refused 14 ≡ made (length (sealed_frame z key l k n a q f h)) = ap (λ (x : Product). x.answer) g in
      let never : ◌≡◌ {A = ℕ} 0 1 = cc in
      absurd (omega arith)
