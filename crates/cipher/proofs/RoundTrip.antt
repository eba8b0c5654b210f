-- Opening undoes sealing, for any key, nonce, octets and tag of up to 16 octets; and what opens to a message is what sealing it gives.
-- Assumes nothing.
use mathlib.Core.Path.{◌≡◌, refl, sym, ap, ap₂, ◌∙◌}
use mathlib.Core.Bool.{Bool, true, false}
use mathlib.Core.List.{List, [], ◌∷◌, ◌++◌}
use Prim.Native.Nat.{ℕ, ◌+◌, ◌-◌, ◌/◌, ◌%◌, ◌<◌, ◌≤◌}
use native.Mathlib.Omega.{arith}
use lib.Bits.{bit_xor}
use lib.Dec.{ltb}
use lib.ListN.{length, take, drop, length-append, length-drop, take-append-drop}
use lib.Seq.{take_at, drop_at, length-take-le}
use borrow.Author.Tests.{le-ltb, ltb-false}
use Rattle.octets.proofs.Compared.{same_self, same-equal}
use Rattle.octets.proofs.Tabs.{get_or-tab, tab-ext, tab-at}
use Rattle.octets.proofs.Xor.{xor-twice}
use Rattle.std.specs.Prelude.{if◌then◌else◌}
use Rattle.octets.specs.Lists.{at, tab, eq_list}
use Rattle.cipher.specs.Aes.{add_blocks, add_round_key, last_round, cipher, aes128}
use Rattle.cipher.specs.Blocks.{zero_block, over}
use Rattle.cipher.specs.Ccm.{auth_data, first_block, absorbed, key_stream, streamed, masked, mac_of, tag_of, ccm_seal, body_of, seal_of, fits, ccm_open, valid, invalid}
use Rattle.cipher.proofs.Streams.{octet_at, streamed-length, masked-length}

module _ (E : List ℕ → List ℕ) (n : List ℕ) where
  pub streamed-twice : (m : List ℕ) → streamed E n (streamed E n m) ≡ m
  unfolding streamed
  streamed-twice m =
      ap (λ (k : ℕ). tab k (octet_at E n (streamed E n m))) (streamed-length E n m)
      ∙ tab-ext (length m) (octet_at E n (streamed E n m)) (at m) back
      ∙ tab-at m
    where
      key : ℕ → ℕ
      key i = at (key_stream E n (i / 16 + 1)) (i % 16)

      back : (i : ℕ) → i < length m → octet_at E n (streamed E n m) i ≡ at m i
      back i h = ap (λ (x : ℕ). bit_xor x (key i)) (get_or-tab (length m) (octet_at E n m) i 0 h) ∙ xor-twice (at m i) (key i)

  pub masked-twice : (M : ℕ) (t : List ℕ) → length t ≡ M → masked E M n (masked E M n t) ≡ t
  unfolding masked
  masked-twice M t e =
      tab-ext M (λ i. bit_xor (at (masked E M n t) i) (at (key_stream E n 0) i)) (at t) back
      ∙ ap (λ (k : ℕ). tab k (at t)) (sym e) ∙ tab-at t
    where
      back : (i : ℕ) → i < M → bit_xor (at (masked E M n t) i) (at (key_stream E n 0) i) ≡ at t i
      back i h =
          ap (λ (x : ℕ). bit_xor x (at (key_stream E n 0) i)) (get_or-tab M (λ i. bit_xor (at t i) (at (key_stream E n 0) i)) i 0 h)
          ∙ xor-twice (at t i) (at (key_stream E n 0) i)

-- what was sealed is as long as the message and its tag
pub seal-length : (E : List ℕ → List ℕ) (M : ℕ) (n a m : List ℕ) → length (ccm_seal E M n a m) ≡ length m + M
unfolding ccm_seal
seal-length E M n a m =
    length-append (streamed E n m) (masked E M n (tag_of E M n a m))
    ∙ ap₂ (λ (x y : ℕ). x + y) (streamed-length E n m) (masked-length E M n (tag_of E M n a m))

-- a block-cipher gives blocks
abbrev pub Blocky : (List ℕ → List ℕ) → Type 0
Blocky E = (x : List ℕ) → length (E x) ≡ 16

pub aes-blocky : (k : List ℕ) → Blocky (aes128 k)
unfolding aes128 cipher last_round add_round_key
aes-blocky k x = refl

over-blocky : (E : List ℕ → List ℕ) → Blocky E → (x : List ℕ) (bs : List (List ℕ)) → length x ≡ 16 → length (over (absorbed E) x bs) ≡ 16
unfolding over absorbed
over-blocky E g x [] h = h
over-blocky E g x (b ∷ bs) h = over-blocky E g (E (add_blocks x b)) bs (g (add_blocks x b))

module _ (E : List ℕ → List ℕ) (g : Blocky E) (M : ℕ) (n a m : List ℕ) (h : M ≤ 16) where
  pub tag-length-is : length (tag_of E M n a m) ≡ M
  unfolding tag_of mac_of
  tag-length-is = length-take-le M (mac_of E M n a m) (rw (over-blocky E g zero_block (first_block M n a m ∷ auth_data a m) refl) h)

  count : length (ccm_seal E M n a m) - M ≡ length m
  count = rw (seal-length E M n a m) (omega arith)

  pub body-of-sealed : body_of M (ccm_seal E M n a m) ≡ streamed E n m
  unfolding ccm_seal
  body-of-sealed =
      ap (λ (k : ℕ). take k (ccm_seal E M n a m)) count
      ∙ take_at (streamed E n m) (masked E M n (tag_of E M n a m)) (length m) (streamed-length E n m)

  pub tag-of-sealed : seal_of M (ccm_seal E M n a m) ≡ masked E M n (tag_of E M n a m)
  unfolding ccm_seal
  tag-of-sealed =
      ap (λ (k : ℕ). drop k (ccm_seal E M n a m)) count
      ∙ drop_at (streamed E n m) (masked E M n (tag_of E M n a m)) (length m) (streamed-length E n m)

  plain : streamed E n (body_of M (ccm_seal E M n a m)) ≡ m
  plain = ap (streamed E n) body-of-sealed ∙ streamed-twice E n m

  sealed-fits : fits E M n a (ccm_seal E M n a m) ≡ true
  unfolding fits
  sealed-fits =
      ap₂ eq_list (ap (masked E M n) tag-of-sealed ∙ masked-twice E n M (tag_of E M n a m) tag-length-is) (ap (tag_of E M n a) plain)
      ∙ same_self (tag_of E M n a m)

  pub open-seal : ccm_open E M n a (ccm_seal E M n a m) ≡ valid m
  unfolding ccm_open
  open-seal = rw (le-ltb _ _ tagged, sealed-fits) (ap valid plain)
    where
      tagged : M ≤ length (ccm_seal E M n a m)
      tagged = omega (arith, seal-length E M n a m)

fits-only : (E : List ℕ → List ℕ) (M : ℕ) (n a c : List ℕ) → M ≤ length c
    → fits E M n a c ≡ true → c ≡ ccm_seal E M n a (streamed E n (body_of M c))
unfolding fits ccm_seal
fits-only E M n a c h e =
    sym (take-append-drop (length c - M) c)
    ∙ ap₂ (λ (x y : List ℕ). x ++ y) (sym (streamed-twice E n (body_of M c)))
    (sym (masked-twice E n M (seal_of M c) long) ∙ ap (masked E M n) (same-equal _ _ e))
  where
    long : length (seal_of M c) ≡ M
    long = length-drop (length c - M) c ∙ (omega arith)

-- nothing else opens: what opens to m is, octet by octet, what sealing m gives
pub open-only : (E : List ℕ → List ℕ) (M : ℕ) (n a c m : List ℕ) → ccm_open E M n a c ≡ valid m → c ≡ ccm_seal E M n a m
unfolding ccm_open
open-only E M n a c m e = parsed (ltb (length c) M) refl e
  where
    fitting : M ≤ length c → (t : Bool) → fits E M n a c ≡ t → (if t then valid (streamed E n (body_of M c)) else invalid) ≡ valid m
        → c ≡ ccm_seal E M n a m
    fitting h true f q = let r : streamed E n (body_of M c) ≡ m = cc in fits-only E M n a c h f ∙ ap (ccm_seal E M n a) r
    fitting h false f q = let z : ◌≡◌ {A = ℕ} 0 1 = cc in absurd (omega arith)

    parsed : (t : Bool) → ltb (length c) M ≡ t
        → (if t then invalid else (if fits E M n a c then valid (streamed E n (body_of M c)) else invalid)) ≡ valid m → c ≡ ccm_seal E M n a m
    parsed true f q = let z : ◌≡◌ {A = ℕ} 0 1 = cc in absurd (omega arith)
    parsed false f q = fitting (ltb-false (length c) M f) (fits E M n a c) refl q
