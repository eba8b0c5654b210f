-- What the frame work cites of the callable routines' outcomes: when they succeed, how long what they make is.
-- Assumes nothing.
use mathlib.Core.Path.{◌≡◌, refl, sym, ap, ◌∙◌}
use mathlib.Core.Bool.{Bool, true, false}
use mathlib.Core.List.{List, [], ◌∷◌}
use Prim.Native.Nat.{ℕ, ◌+◌, ◌-◌, ◌≤◌}
use native.Mathlib.Omega.{arith}
use lib.Dec.{ltb}
use lib.ListN.{length}
use lib.Seq.{length-take-le}
use borrow.Author.Tests.{le-leb}
use Rattle.std.specs.Prelude.{if◌then◌else◌}
use Rattle.octets.specs.Lists.{onto}
use Rattle.cipher.specs.Aes.{add_blocks, aes128}
use Rattle.cipher.specs.Blocks.{zero_block, blocks, over}
use Rattle.cipher.specs.Ccm.{streamed, body_of, fits, ccm_seal, ccm_open, valid, invalid}
use Rattle.cipher.specs.Hash.{hashed_in, hash_of, keyed_hash, padded}
use Rattle.cipher.specs.Answers.{product, made, most, tag_length, sealing, opening, opened_onto, hashing, keyed_hashing}
use Rattle.cipher.proofs.Opens.{tag-most}
use Rattle.cipher.proofs.Streams.{streamed-length}
use Rattle.cipher.proofs.RoundTrip.{aes-blocky, open-seal, seal-length}

-- the tag of document 01 has 4 octets
pub tag-four : tag_length 4 ≡ true
unfolding tag_length
tag-four = refl

-- a message that opened has all octets but the tag's
pub valid-length : (E : List ℕ → List ℕ) (M : ℕ) (n a c m : List ℕ) → M ≤ length c → ccm_open E M n a c ≡ valid m → length m ≡ length c - M
unfolding ccm_open
valid-length E M n a c m h e = parsed (ltb (length c) M) e
  where
    p : List ℕ
    p = streamed E n (body_of M c)

    long : length (streamed E n (body_of M c)) ≡ length c - M
    long = streamed-length E n (body_of M c) ∙ length-take-le (length c - M) c (omega arith)

    go : (t : Bool) → (if t then valid p else invalid) ≡ valid m → length m ≡ length c - M
    go true q = let r : p ≡ m = cc in ap length (sym r) ∙ long
    go false q = let z : ◌≡◌ {A = ℕ} 0 1 = cc in absurd (omega arith)

    parsed : (t : Bool) → (if t then invalid else (if fits E M n a c then valid p else invalid)) ≡ valid m → length m ≡ length c - M
    parsed true q = let z : ◌≡◌ {A = ℕ} 0 1 = cc in absurd (omega arith)
    parsed false q = go (fits E M n a c) q

module _ (M : ℕ) (k n a : List ℕ) (t : tag_length M ≡ true) (ha : length a ≤ most) where
  -- sealing with room
  pub sealing-made : (m o : List ℕ) → length m ≤ most → length m + M ≤ length o
      → sealing M k n a m o ≡ product (made (length m + M)) (onto (ccm_seal (aes128 k) M n a m) o)
  unfolding sealing
  sealing-made m o hm ho = simp (t, le-leb _ _ ha, le-leb _ _ hm, le-leb _ _ ho)

  -- opening of octets that are neither too long nor too short, with room
  pub opening-judged : (c o : List ℕ) → length c ≤ most + M → M ≤ length c → length c - M ≤ length o
      → opening M k n a c o ≡ opened_onto (ccm_open (aes128 k) M n a c) o
  unfolding opening
  opening-judged c o hl hs ho = simp (t, le-leb _ _ ha, le-leb _ _ hl, le-leb _ _ hs, le-leb _ _ ho)

  -- opening of what was sealed
  pub opening-sealed : (m o : List ℕ) → length m ≤ most → length m ≤ length o
      → opening M k n a (ccm_seal (aes128 k) M n a m) o ≡ product (made (length m)) (onto m o)
  opening-sealed m o hm ho =
      let l = seal-length (aes128 k) M n a m in
      opening-judged (ccm_seal (aes128 k) M n a m) o (omega arith) (omega arith) (omega arith)
      ∙ ap (λ r. opened_onto r o) (open-seal (aes128 k) (aes-blocky k) M n a m (tag-most M t))

-- ---- the hash

hashed_length : (h : List ℕ) (bs : List (List ℕ)) → length h ≡ 16 → length (over hashed_in h bs) ≡ 16
unfolding over hashed_in
hashed_length h [] e = e
hashed_length h (b ∷ bs) e = hashed_length (add_blocks (aes128 h b) b) bs refl

-- a hash has 16 octets
pub hash-length : (d : List ℕ) → length (hash_of d) ≡ 16
unfolding hash_of
hash-length d = hashed_length zero_block (blocks (padded d)) refl

pub keyed-length : (k d : List ℕ) → length (keyed_hash k d) ≡ 16
unfolding keyed_hash
keyed-length k d = hash-length _

pub hashing-made : (d : List ℕ) → length d ≤ 256 → hashing d ≡ product (made 16) (hash_of d)
unfolding hashing
hashing-made d h = simp (le-leb _ _ h)

pub keyed-made : (k d : List ℕ) → length d ≤ 240 → keyed_hashing k d ≡ product (made 16) (keyed_hash k d)
unfolding keyed_hashing
keyed-made k d h = simp (le-leb _ _ h)
