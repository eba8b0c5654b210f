-- Octets stay octets: what is enciphered, sealed, opened or hashed is below 256 at every place, where key and input are.
-- Assumes nothing.
use mathlib.Core.Path.{◌≡◌, refl}
use mathlib.Core.Bool.{Bool, true, false}
use mathlib.Core.List.{List, [], ◌∷◌}
use Prim.Native.Nat.{ℕ, zero, suc, ◌+◌, ◌-◌, ◌*◌, ◌/◌, ◌%◌, ◌<◌, ◌≤◌}
use native.Mathlib.Nat.{mul-le-mul_right}
use native.Mathlib.Omega.{arith}
use lib.Bits.{bit_xor}
use lib.Dec.{ltb}
use lib.ListN.{length, get_or-eq_default}
use borrow.Author.Tests.{ltb-true, ltb-false}
use Rattle.octets.proofs.AllOctets.{xor-octet, tab-octets, nil-octets, cons-octets, append-octets, take-octets, zeros-octets}
use Rattle.octets.specs.Lists.{at, tab, Octets}
use Rattle.cipher.specs.Field.{xtime, mul_bits, mul}
use Rattle.cipher.specs.Sbox.{sbox, sbox_table}
use Rattle.cipher.specs.Aes.{sub_bytes, shift_rows, mixed, below, mix_columns, add_blocks, add_round_key, round_of, last_round, cipher, rcon, word, rot_word, add_words, turned_word, next_key, key_at, key_expansion, aes128}
use Rattle.cipher.specs.Blocks.{two_octets, block_from, block_count, blocks, over, zero_block}
use Rattle.cipher.specs.Ccm.{first_block, auth_data, absorbed, mac_of, tag_of, key_stream, streamed, masked, ccm_seal}
use Rattle.cipher.specs.Hash.{padded, hashed_in, hash_of, plus_each, keyed_hash}
use Rattle.cipher.proofs.Table.{sbox-octet}

two-octets : (n : ℕ) → Octets (two_octets n)
two-octets n = cons-octets (n / 256 % 256) (n % 256 ∷ []) (omega arith) (cons-octets (n % 256) [] (omega arith) nil-octets)

-- ---- AES-128

sbox-all : (x : ℕ) → sbox x < 256
unfolding sbox sbox_table
sbox-all x = go (ltb x 256) refl
  where
    go : (t : Bool) → ltb x 256 ≡ t → sbox x < 256
    go true e = sbox-octet x (ltb-true x 256 e)
    go false e = rw (get_or-eq_default sbox_table 0 (ltb-false x 256 e)) (omega arith)

xtime-octet : (a : ℕ) → a < 256 → xtime a < 256
xtime-octet a h = xor-octet {a = a % 128 * 2} {b = a / 128 * 27} (omega arith) (omega arith)

mul_bits-octet : (n a b : ℕ) → a < 256 → mul_bits n a b < 256
unfolding mul_bits
mul_bits-octet zero a b h = omega arith
mul_bits-octet (suc n) a b h =
    let l : b % 2 ≤ 1 = omega arith in
    xor-octet {a = b % 2 * a} {b = mul_bits n (xtime a) (b / 2)} (omega (arith, mul-le-mul_right a l))
    (mul_bits-octet n (xtime a) (b / 2) (xtime-octet a h))

mul-octet : (a b : ℕ) → a < 256 → mul a b < 256
unfolding mul
mul-octet a b h = mul_bits-octet 8 a b h

sub-octets : (s : List ℕ) → Octets (sub_bytes s)
unfolding sub_bytes
sub-octets s = tab-octets 16 (λ i. sbox (at s i)) (λ i h. sbox-all (at s i))

shift-octets : (s : List ℕ) → Octets s → Octets (shift_rows s)
shift-octets s o = tab-octets 16 (λ i. at s ((i + 4 * (i % 4)) % 16)) (λ i h. o.octet ((i + 4 * (i % 4)) % 16))

mixed-octet : (a b c d : ℕ) → c < 256 → d < 256 → mixed a b c d < 256
unfolding mixed
mixed-octet a b c d hc hd = xor-octet (xor-octet (xor-octet (mul-octet 2 a (omega arith)) (mul-octet 3 b (omega arith))) hc) hd

mix-octets : (s : List ℕ) → Octets s → Octets (mix_columns s)
unfolding mix_columns
mix-octets s o =
    tab-octets 16 (λ i. mixed (at s i) (below s i 1) (below s i 2) (below s i 3))
    (λ i h. mixed-octet (at s i) (below s i 1) (below s i 2) (below s i 3) (o.octet _) (o.octet _))

pub add-octets : (a b : List ℕ) → Octets a → Octets b → Octets (add_blocks a b)
add-octets a b o p = tab-octets 16 (λ i. bit_xor (at a i) (at b i)) (λ i h. xor-octet (o.octet i) (p.octet i))

round-octets : (s k : List ℕ) → Octets k → Octets (round_of s k)
unfolding round_of add_round_key
round-octets s k o = add-octets _ k (mix-octets _ (shift-octets _ (sub-octets s))) o

last-octets : (s k : List ℕ) → Octets k → Octets (last_round s k)
unfolding last_round add_round_key
last-octets s k o = add-octets _ k (shift-octets _ (sub-octets s)) o

rcon-octet : (n : ℕ) → rcon n < 256
unfolding rcon
rcon-octet zero = omega arith
rcon-octet (suc n) = xtime-octet (rcon n) (rcon-octet n)

-- a word of four octets, added to another
word-octets : (a b : List ℕ) → Octets a → Octets b → Octets (tab 4 (λ j. bit_xor (at a j) (at b j)))
word-octets a b o p = tab-octets 4 (λ j. bit_xor (at a j) (at b j)) (λ j h. xor-octet (o.octet j) (p.octet j))

turned-octets : (c : ℕ) (k : List ℕ) → c < 256 → Octets (turned_word c k)
unfolding turned_word
turned-octets c k h =
    word-octets _ (c ∷ 0 ∷ 0 ∷ 0 ∷ []) (tab-octets 4 (λ j. sbox (at (rot_word (word k 3)) j)) (λ j l. sbox-all (at (rot_word (word k 3)) j)))
    (cons-octets c _ h (zeros-octets 3))

next-octets : (c : ℕ) (k : List ℕ) → c < 256 → Octets k → Octets (next_key c k)
unfolding next_key
next-octets c k h o =
    append-octets a _ qa (append-octets b _ qb (append-octets e f qe (word-octets (word k 3) e (part 3) qe)))
  where
    a : List ℕ
    a = add_words (word k 0) (turned_word c k)

    b : List ℕ
    b = add_words (word k 1) a

    e : List ℕ
    e = add_words (word k 2) b

    f : List ℕ
    f = add_words (word k 3) e

    part : (i : ℕ) → Octets (word k i)
    part i = tab-octets 4 (λ j. at k (4 * i + j)) (λ j l. o.octet (4 * i + j))

    qa : Octets a
    qa = word-octets (word k 0) (turned_word c k) (part 0) (turned-octets c k h)

    qb : Octets b
    qb = word-octets (word k 1) a (part 1) qa

    qe : Octets e
    qe = word-octets (word k 2) b (part 2) qb

key-octets : (k : List ℕ) → Octets k → (n : ℕ) → Octets (key_at k n)
unfolding key_at
key-octets k o zero = o
key-octets k o (suc n) = next-octets (rcon n) (key_at k n) (rcon-octet n) (key-octets k o n)

-- whatever the block
pub aes-octets : (k b : List ℕ) → Octets k → Octets (aes128 k b)
unfolding aes128 cipher key_expansion
aes-octets k b o = last-octets _ (key_at k 10) (key-octets k o 10)

-- ---- CCM*

module _ (k : List ℕ) (o : Octets k) where
  over-octets : (x : List ℕ) (bs : List (List ℕ)) → Octets x → Octets (over (absorbed (aes128 k)) x bs)
  unfolding over absorbed
  over-octets x [] p = p
  over-octets x (b ∷ bs) p = over-octets (aes128 k (add_blocks x b)) bs (aes-octets k (add_blocks x b) o)

  stream-octets : (n : List ℕ) (i : ℕ) → Octets (key_stream (aes128 k) n i)
  unfolding key_stream
  stream-octets n i = aes-octets k _ o

  pub streamed-octets : (n m : List ℕ) → Octets m → Octets (streamed (aes128 k) n m)
  unfolding streamed
  streamed-octets n m p =
      tab-octets (length m) (λ i. bit_xor (at m i) (at (key_stream (aes128 k) n (i / 16 + 1)) (i % 16)))
      (λ i h. xor-octet (p.octet i) ((stream-octets n (i / 16 + 1)).octet (i % 16)))

  pub masked-octets : (M : ℕ) (n t : List ℕ) → Octets t → Octets (masked (aes128 k) M n t)
  unfolding masked
  masked-octets M n t p =
      tab-octets M (λ i. bit_xor (at t i) (at (key_stream (aes128 k) n 0) i)) (λ i h. xor-octet (p.octet i) ((stream-octets n 0).octet i))

  pub tag-octets : (M : ℕ) (n a m : List ℕ) → Octets (tag_of (aes128 k) M n a m)
  unfolding tag_of mac_of
  tag-octets M n a m =
      take-octets M _ (over-octets zero_block (first_block M n a m ∷ auth_data a m) (tab-octets 16 (λ i. 0) (λ i h. omega arith)))

  pub seal-octets : (M : ℕ) (n a m : List ℕ) → Octets m → Octets (ccm_seal (aes128 k) M n a m)
  unfolding ccm_seal
  seal-octets M n a m p =
      append-octets (streamed (aes128 k) n m) (masked (aes128 k) M n (tag_of (aes128 k) M n a m)) (streamed-octets n m p)
      (masked-octets M n (tag_of (aes128 k) M n a m) (tag-octets M n a m))

-- ---- the hash

block-octets : (d : List ℕ) (i : ℕ) → Octets d → Octets (block_from d i)
unfolding block_from
block-octets d i o = tab-octets 16 (λ j. at d (i + j)) (λ j h. o.octet (i + j))

hashed-octets : (h : List ℕ) (n : ℕ) (f : ℕ → List ℕ) → ((i : ℕ) → Octets (f i)) → Octets h → Octets (over hashed_in h (tab n f))
unfolding over hashed_in
hashed-octets h zero f p o = o
hashed-octets h (suc n) f p o =
    hashed-octets (add_blocks (aes128 h (f 0)) (f 0)) n (λ i. f (suc i)) (λ i. p (suc i))
    (add-octets (aes128 h (f 0)) (f 0) (aes-octets h (f 0) o) (p 0))

pub hash-octets : (d : List ℕ) → Octets d → Octets (hash_of d)
unfolding hash_of padded blocks
hash-octets d o =
    hashed-octets zero_block (block_count (length (padded d))) (λ n. block_from (padded d) (16 * n))
    (λ i. block-octets (padded d) (16 * i) pads)
    (tab-octets 16 (λ i. 0) (λ i h. omega arith))
  where
    filling : ℕ
    filling = (29 - length d % 16) % 16

    pads : Octets (padded d)
    pads =
        append-octets d _ o
        (cons-octets 0x80 _ (omega arith) (append-octets _ _ (zeros-octets filling) (two-octets (8 * length d))))

pub keyed-octets : (k d : List ℕ) → Octets k → Octets d → Octets (keyed_hash k d)
unfolding keyed_hash
keyed-octets k d o p =
    let inner = hash-octets _ (append-octets (plus_each k 0x36) d (each 0x36 (omega arith)) p) in
    hash-octets _ (append-octets (plus_each k 0x5c) _ (each 0x5c (omega arith)) inner)
  where
    each : (x : ℕ) → x < 256 → Octets (plus_each k x)
    each x h = tab-octets 16 (λ i. bit_xor (at k i) x) (λ i l. xor-octet (o.octet i) h)
