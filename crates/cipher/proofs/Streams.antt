-- CCM*'s key stream, laid over a string block by block, enciphers each of its octets; with the masked tag behind, that is sealing.
-- Assumes nothing.
use mathlib.Core.Path.{◌≡◌, sym, ap, ap₂, ◌∙◌}
use mathlib.Core.List.{List, ◌++◌}
use Prim.Native.Nat.{ℕ, ◌+◌, ◌-◌, ◌/◌, ◌%◌, ◌<◌, ◌≤◌, min}
use native.Mathlib.Omega.{arith}
use lib.Bits.{bit_xor}
use lib.ListN.{length, drop, take, length-append}
use lib.Seq.{paste, take_at, drop_at, drop-drop, get_or-take}
use Rattle.octets.proofs.Tabs.{length-tab, tab-ext, take-tab, paste-tab}
use Rattle.octets.specs.Lists.{at, tab, onto}
use Rattle.cipher.specs.Aes.{add_blocks}
use Rattle.cipher.specs.Blocks.{block_from}
use Rattle.cipher.specs.Ccm.{key_stream, streamed, masked, mac_of, tag_of, ccm_seal}
use Rattle.cipher.proofs.Parsed.{block_at}

module _ (E : List ℕ → List ℕ) (n d : List ℕ) where
  -- octet i of d, enciphered
  abbrev pub octet_at : ℕ → ℕ
  octet_at i = bit_xor (at d i) (at (key_stream E n (i / 16 + 1)) (i % 16))

  -- the first i octets enciphered, in front of what o has
  abbrev pub up_to : List ℕ → ℕ → List ℕ
  up_to o i = tab i octet_at ++ drop i o

  within : (i j : ℕ) → i % 16 ≡ 0 → j < 16
      → bit_xor (at (block_from d i) j) (at (key_stream E n (i / 16 + 1)) j) ≡ octet_at (i + j)
  within i j z h =
      let p : i / 16 ≡ (i + j) / 16 = omega arith in
      let q : j ≡ (i + j) % 16 = omega arith in
      ap₂ bit_xor (block_at d i j h) (ap₂ (λ (x y : ℕ). at (key_stream E n (x + 1)) y) p q)

  -- a turn of the loop: m octets of the next block are laid behind the i that stand
  pub up_to-more : (o : List ℕ) (i m : ℕ) → i % 16 ≡ 0 → m ≤ 16
      → paste (up_to o i) i (add_blocks (block_from d i) (key_stream E n (i / 16 + 1))) m ≡ up_to o (i + m)
  up_to-more o i m z h =
      paste-tab i m octet_at o (add_blocks (block_from d i) (key_stream E n (i / 16 + 1)))
      (take-tab m 16 g h ∙ tab-ext m g (λ j. octet_at (i + j)) (λ j k. within i j z (omega arith)))
    where
      g : ℕ → ℕ
      g j = bit_xor (at (block_from d i) j) (at (key_stream E n (i / 16 + 1)) j)

  -- the same, of what the calls of a turn answered
  pub turn : (o p q s b x : List ℕ) (i m : ℕ) → i < length d → i % 16 ≡ 0 → p ≡ up_to o (min i (length d))
      → s ≡ key_stream E n (i / 16 + 1) → b ≡ block_from d i → x ≡ add_blocks b s → m ≡ min 16 (length d - i)
      → q ≡ paste p i x m → q ≡ up_to o (min (i + 16) (length d))
  turn o p q s b x i m h z ep es eb ex em eq =
      let f : min i (length d) ≡ i = omega arith in
      let g : i + m ≡ min (i + 16) (length d) = omega arith in
      eq ∙ ap₂ (λ (u v : List ℕ). paste u i v m) (ep ∙ ap (up_to o) f) (ex ∙ ap₂ add_blocks eb es)
      ∙ up_to-more o i m z (omega arith) ∙ ap (up_to o) g

  pub up_to-none : (o : List ℕ) → o ≡ up_to o (min 0 (length d))
  up_to-none o = let e : 0 ≡ min 0 (length d) = omega arith in ap (up_to o) e

  pub up_to-end : (o : List ℕ) → up_to o (length d) ≡ onto (streamed E n d) o
  unfolding streamed
  up_to-end o = ap (λ (k : ℕ). tab (length d) octet_at ++ drop k o) (sym (length-tab (length d) octet_at))

pub streamed-length : (E : List ℕ → List ℕ) (n m : List ℕ) → length (streamed E n m) ≡ length m
unfolding streamed
streamed-length E n m = length-tab (length m) (octet_at E n m)

pub masked-length : (E : List ℕ → List ℕ) (M : ℕ) (n t : List ℕ) → length (masked E M n t) ≡ M
unfolding masked
masked-length E M n t = length-tab M (λ i. bit_xor (at t i) (at (key_stream E n 0) i))

-- a tag that stands at the front of a block
pub masked-block : (E : List ℕ → List ℕ) (M : ℕ) (n t b : List ℕ) → M ≤ 16 → ((i : ℕ) → i < M → at b i ≡ at t i)
    → take M (add_blocks b (key_stream E n 0)) ≡ masked E M n t
unfolding masked
masked-block E M n t b h e =
    take-tab M 16 (λ i. bit_xor (at b i) (at (key_stream E n 0) i)) h
    ∙ tab-ext M (λ i. bit_xor (at b i) (at (key_stream E n 0) i)) (λ i. bit_xor (at t i) (at (key_stream E n 0) i))
    (λ i k. ap (λ (x : ℕ). bit_xor x (at (key_stream E n 0) i)) (e i k))

-- ciphertext and tag, laid one behind the other
pub seal-by : (E : List ℕ → List ℕ) (M : ℕ) (n a m o p q x t : List ℕ) → M ≤ 16
    → p ≡ onto (streamed E n m) o → x ≡ mac_of E M n a m → t ≡ add_blocks x (key_stream E n 0) → q ≡ paste p (length m) t M
    → q ≡ onto (ccm_seal E M n a m) o
unfolding ccm_seal tag_of
seal-by E M n a m o p q x t h ep ex et eq =
    eq ∙ ap₂ (λ (u v : List ℕ). take (length m) u ++ v ++ drop (length m + M) u) ep tag
    ∙ ap₂ (λ (u v : List ℕ). u ++ masked E M n (take M (mac_of E M n a m)) ++ v)
    (take_at s (drop (length s) o) (length m) long) rest
  where
    s : List ℕ
    s = streamed E n m

    long : length (streamed E n m) ≡ length m
    long = streamed-length E n m

    tag : take M t ≡ masked E M n (take M (mac_of E M n a m))
    tag = ap (take M) (et ∙ ap (λ (v : List ℕ). add_blocks v (key_stream E n 0)) ex)
        ∙ masked-block E M n (take M (mac_of E M n a m)) (mac_of E M n a m) h (λ i k. sym (get_or-take M (mac_of E M n a m) i 0 k))

    whole : length (streamed E n m ++ masked E M n (take M (mac_of E M n a m))) ≡ length m + M
    whole = length-append (streamed E n m) _ ∙ ap₂ (λ (u v : ℕ). u + v) long (masked-length E M n (take M (mac_of E M n a m)))

    rest : drop (length m + M) (onto (streamed E n m) o) ≡ drop (length (streamed E n m ++ masked E M n (take M (mac_of E M n a m)))) o
    rest = sym (drop-drop M (length m) (onto s o))
        ∙ ap (drop M) (drop_at s (drop (length s) o) (length m) long)
        ∙ drop-drop M (length s) o
        ∙ ap (λ (k : ℕ). drop k o) (ap (λ (k : ℕ). k + M) long ∙ sym whole)
