-- The calls of `seal_sound` do what `sealing` says: both headers are laid, and the cipher is asked what it asks and does not refuse.
-- Assumes nothing.
use Rattle.std.proofs.Common.{Result, Ok, Err}
use mathlib.Core.Path.{◌≡◌, sym, ap, ap₂, ◌∙◌}
use mathlib.Core.Bool.{true}
use mathlib.Core.List.{List, ◌++◌}
use Prim.Native.Nat.{ℕ, ◌+◌, ◌-◌, ◌%◌, ◌≤◌}
use native.Mathlib.Omega.{arith}
use lib.Dec.{leb}
use lib.ListN.{length, take, drop, length-drop, length-set, length-append}
use lib.Seq.{take_all, length-take-le}
use borrow.Author.Tests.{leb-true, le-leb}
use Rattle.settings.specs.Settings.{Settings, longest}
use Rattle.octets.specs.Keys.{Key}
use Rattle.octets.proofs.Choices.{both-parts}
use Rattle.octets.proofs.Tabs.{length-onto}
use Rattle.octets.specs.Lists.{onto, pasted}
use Rattle.seals.specs.Sealing.{Fair, sent_octets, sealed_with, sealed_frame, wrote, sealable, sealing as seals_sealing}
use Rattle.cipher.specs.Aes.{aes128}
use Rattle.cipher.specs.Ccm.{ccm_seal}
use Rattle.cipher.specs.declared.Fault.{Fault}
use Rattle.cipher.specs.Answers.{sealing, made, counted, Product, product}
use Rattle.cipher.proofs.Lengths.{sealing-made}
use Rattle.cipher.proofs.RoundTrip.{seal-length}
use Rattle.frames.specs.declared.Layer.{Layer}
use Rattle.frames.specs.Security.{wire_control, nonce_of, authenticated, auxiliary}
use Rattle.frames.specs.Making.{laid, secured_header}
use Rattle.frames.proofs.Layings.{laid-onto}
use Rattle.frames.proofs.Sent.{aux-octets}
use Rattle.seals.proofs.Parts.{front, written_behind, pasted-behind}
use Rattle.seals.proofs.Authentic.{authenticated-length, authenticated-front, scratch-front}

-- ---- the parts of a secured frame: both headers, what is authenticated of them, and what stands behind

abbrev pub headers : Layer → List ℕ → List ℕ → ℕ → List ℕ
headers l x f h = secured_header l f h ++ x

abbrev pub authentic : Settings → Layer → List ℕ → List ℕ → ℕ → List ℕ
authentic z l x f h = authenticated z (headers l x f h) h (h + length x)

abbrev pub ciphered : Settings → Key → List ℕ → Layer → List ℕ → List ℕ → ℕ → List ℕ
ciphered z key nonce l x f h = ccm_seal (aes128 key.octets) z.tag nonce (authentic z l x f h) (drop h f)

module _ (z : Settings) (l : Layer) (x f : List ℕ) (h w : ℕ) (wide : length x ≡ w) (within : h ≤ length f) where
  header-length : length (secured_header l f h) ≡ h
  unfolding secured_header
  header-length = length-set (take h f) _ _ ∙ length-take-le h f within

  pub headers-length : length (headers l x f h) ≡ h + w
  headers-length = length-append (secured_header l f h) x ∙ ap₂ (λ (u v : ℕ). u + v) header-length wide

  authentic-length : length (authentic z l x f h) ≡ h + w
  authentic-length =
      authenticated-length z (headers l x f h) h (h + length x) (omega (arith, headers-length)) ∙ ap (λ (n : ℕ). h + n) wide

  -- of a list that starts with both headers
  pub authentic-in : (g : List ℕ) → take (h + w) g ≡ headers l x f h → authenticated z g h (h + w) ≡ authentic z l x f h
  authentic-in g e =
      authenticated-front z g (headers l x f h) h (h + w) (e ∙ sym (take_all (h + w) (headers l x f h) (omega (arith, headers-length))))
      ∙ ap (λ (n : ℕ). authenticated z (headers l x f h) h (h + n)) (sym wide)

-- ---- what the calls of sealing left

module _ (z : Settings) (fair : Fair z) (key : Key) (nonce : List ℕ) (l : Layer) (x f : List ℕ) (h w : ℕ) (wide : length x ≡ w)
    (within : h ≤ length f) (o : List ℕ) (short : length f + w + z.tag ≤ longest) (room : longest ≤ length o) where
  headers-laid : (p q : List ℕ) → p ≡ laid o f h (secured_header l f h) → q ≡ pasted p h x → q ≡ onto (headers l x f h) o
  headers-laid p q ep eq =
      let e : p ≡ onto (secured_header l f h) o = ep ∙ laid-onto o f h (secured_header l f h) within (omega arith) in
      let n = header-length z l x f h w wide within in
      let b : length p ≡ length o = ap length e ∙ length-onto (secured_header l f h) o (omega arith) in
      pasted-behind (secured_header l f h) o p h n e x q (omega arith) eq

  -- what the cipher was asked is what the definition asks
  asked : (q scratch a : List ℕ) → q ≡ onto (headers l x f h) o → length scratch ≡ longest
      → a ≡ laid scratch q (h + w) (authenticated z q h (h + w))
      → sealing z.tag key.octets nonce (take (h + w) a) (drop h f) (drop (h + w) q)
      ≡ product (made (length f - h + z.tag)) (onto (ciphered z key nonce l x f h) (drop (h + w) q))
  asked q scratch a eq ez ea =
      let n = headers-length z l x f h w wide within in
      let b : length q ≡ length o = ap length eq ∙ length-onto (headers l x f h) o (omega arith) in
      let d : length (drop h f) ≡ length f - h = length-drop h f in
      ap (λ (u : List ℕ). sealing z.tag key.octets nonce u (drop h f) (drop (h + w) q))
      (scratch-front z scratch a q h (h + w) (omega arith) (omega arith) ea
      ∙ authentic-in z l x f h w wide within q (front (headers l x f h) o q (h + w) n eq))
      ∙ sealing-made z.tag key.octets nonce (authentic z l x f h) fair.tag
      (omega (arith, authentic-length z l x f h w wide within))
      (drop h f) (drop (h + w) q) (omega arith) (omega (arith, length-drop (h + w) q))
      ∙ ap (λ (n : ℕ). product (made (n + z.tag)) (onto (ciphered z key nonce l x f h) (drop (h + w) q))) d

  -- of the outputs p, q and v, the scratch and a, and the answer r, as the calls gave them
  secured-by : (scratch : List ℕ) (r : Result ℕ Fault) {p q a v : List ℕ}
      → p ≡ laid o f h (secured_header l f h)
      → q ≡ pasted p h x
      → length scratch ≡ longest
      → a ≡ laid scratch q (h + w) (authenticated z q h (h + w))
      → product (counted r) (drop (h + w) v) ≡ sealing z.tag key.octets nonce (take (h + w) a) (drop h f) (drop (h + w) q)
      → take (h + w) v ≡ take (h + w) q
      → (counted r ≡ made (length f - h + z.tag)) × (v ≡ onto (sealed_with z key nonce l x f h) o)
  unfolding sealed_with
  secured-by scratch r {p} {q} {a} {v} ep eq ez ea er et =
      let e = headers-laid p q ep eq in
      let g = er ∙ asked q scratch a e ez ea in (
        ap (λ (u : Product). u.answer) g,
        written_behind (headers l x f h) o q (h + w) (headers-length z l x f h w wide within) e (ciphered z key nonce l x f h) v et
            (ap (λ (u : Product). u.octets) g),
      )

-- ---- a frame that can be sealed, and what sealing makes of it

pub record Sealable (z : Settings) (k : ℕ) (f : List ℕ) (h : ℕ) : Type 0 where
  pub headed : 2 ≤ h
  pub within : h ≤ length f
  pub short : length f + sent_octets k + z.tag ≤ longest

pub sealable-tells : (z : Settings) (k : ℕ) (f : List ℕ) (h : ℕ) → sealable z k f h ≡ true → Sealable z k f h
unfolding sealable
sealable-tells z k f h e =
    let p = both-parts (leb 2 h) _ e in
    let q = both-parts (leb h (length f)) (leb (length f + sent_octets k + z.tag) longest) p.1 in
    record { headed = leb-true _ _ p.0; within = leb-true _ _ q.0; short = leb-true _ _ q.1 }

pub sent-length : (k n a q : ℕ) → length (auxiliary k n a q) ≡ sent_octets k
unfolding sent_octets
sent-length k n a q = aux-octets k n a q

module _ (z : Settings) (key : Key) (l : Layer) (k n a q : ℕ) (f : List ℕ) (h : ℕ) where
  pub sealed-length : h ≤ length f → length (sealed_frame z key l k n a q f h) ≡ length f + sent_octets k + z.tag
  unfolding sealed_frame sealed_with
  sealed-length b =
      let x = auxiliary k n a q in
      let m = nonce_of z a n (wire_control k) in
      length-append (headers l x f h) (ciphered z key m l x f h)
      ∙ ap₂ (λ (u v : ℕ). u + v) (headers-length z l x f h (sent_octets k) (sent-length k n a q) b)
      (seal-length (aes128 key.octets) z.tag m (authentic z l x f h) (drop h f) ∙ ap (λ (u : ℕ). u + z.tag) (length-drop h f))
      ∙ omega arith

  -- a frame that may be sealed, w octets of auxiliary header, the length of ciphertext and tag as the answer r, and the
  -- secured frame at the start of the output, which was o and is v
  pub record Secures (o : List ℕ) (w : ℕ) (r : Result ℕ Fault) (v : List ℕ) : Type 0 where
    pub low : k ≤ 3
    pub fits : Sealable z k f h
    pub room : longest ≤ length o
    pub wide : w ≡ sent_octets k
    pub answer : counted r ≡ made (length f - h + z.tag)
    pub output : v ≡ onto (sealed_frame z key l k n a q f h) o

  module _ (o : List ℕ) (low : k ≤ 3) (t : Sealable z k f h) (room : longest ≤ length o) where
    pub sealing-makes : seals_sealing z key l k n a q f h o ≡ wrote (sealed_frame z key l k n a q f h) o
    unfolding seals_sealing sealable
    sealing-makes =
        simp (le-leb _ _ low, le-leb _ _ t.headed, le-leb _ _ t.within, le-leb _ _ t.short, le-leb _ _ room)

    -- of what the calls gave: outputs p, u and v, scratch and s, control c, nonce m, answer r
    pub sealed-by : Fair z → (scratch : List ℕ) {w c : ℕ} {m p u s v : List ℕ} {r : Result ℕ Fault}
        → w ≡ sent_octets k
        → p ≡ laid o f h (secured_header l f h)
        → u ≡ pasted p h (auxiliary (k % 4) n a q)
        → length scratch ≡ longest
        → s ≡ laid scratch u (h + w) (authenticated z u h (h + w))
        → c ≡ wire_control (k % 4)
        → m ≡ nonce_of z a n c
        → product (counted r) (drop (h + w) v) ≡ sealing z.tag key.octets m (take (h + w) s) (drop h f) (drop (h + w) u)
        → take (h + w) v ≡ take (h + w) u
        → Secures o w r v
    unfolding sealed_frame
    sealed-by fair scratch {w} {c} {m} {p} {u} {s} {v} {r} ew ep eu ez es ec em er et =
        let two : k % 4 ≡ k = omega arith in
        let en : m ≡ nonce_of z a n (wire_control k) = em ∙ ap (nonce_of z a n) (ec ∙ ap wire_control two) in
        let x = auxiliary k n a q in
        let b = secured-by z fair key m l x f h w (sent-length k n a q ∙ sym ew) t.within o (omega (arith, t.short)) room scratch r ep
        (eu ∙ ap (λ (i : ℕ). pasted p h (auxiliary i n a q)) two) ez es er et in
        record {
          low = low;
          fits = t;
          room = room;
          wide = ew;
          answer = b.0;
          output = b.1 ∙ ap (λ (y : List ℕ). onto (sealed_with z key y l x f h) o) en;
        }

-- what sealing then answers
module _ {z : Settings} {key : Key} {l : Layer} {k n a q : ℕ} {f : List ℕ} {h : ℕ} {o : List ℕ} {w : ℕ} {r : Result ℕ Fault} {v : List ℕ}
    (s : Secures z key l k n a q f h o w r v) where
  pub after-length : (i : ℕ) → r ≡ Ok i → i ≡ length f - h + z.tag
  after-length i er = let b : counted (Ok i) ≡ made (length f - h + z.tag) = ap counted (sym er) ∙ s.answer in cc

  pub after-made : (i : ℕ) → r ≡ Ok i → product (made (h + w + i)) v ≡ seals_sealing z key l k n a q f h o
  after-made i er =
      let d = sealed-length z key l k n a q f h s.fits.within in
      let c : h + w + i ≡ length (sealed_frame z key l k n a q f h) = omega (arith, after-length i er, s.wide, s.fits.within) in
      ap₂ (λ (j : ℕ) (u : List ℕ). product (made j) u) c s.output
      ∙ sym (sealing-makes z key l k n a q f h o s.low s.fits s.room)

  -- the cipher does not refuse
  pub after-not : {A : Type 0} (e : Fault) → r ≡ Err e → A
  after-not e er =
      let b : counted (Err e) ≡ made (length f - h + z.tag) = ap counted (sym er) ∙ s.answer in
      let never : ◌≡◌ {A = ℕ} 0 1 = cc in
      absurd (omega arith)
