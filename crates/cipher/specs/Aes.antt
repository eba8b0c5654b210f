-- FIPS 197, chapter 5, with Nk = 4, Nb = 4, Nr = 10: AES-128. A state is its 16 octets, column after column:
-- octet r + 4c of the list is s[r, c], as 3.4 maps the input to it.
-- Assumes nothing.
use Rattle.std.specs.Prelude.{List, [], ◌∷◌, ◌++◌, ℕ, zero, suc, ◌+◌, ◌*◌, ◌/◌, ◌%◌, get_or}
use Rattle.std.specs.Int.Bits.{bit_xor}
use Rattle.octets.specs.Lists.{at, tab}
use Rattle.cipher.specs.Field.{xtime, mul}
use Rattle.cipher.specs.Sbox.{sbox}

-- ---- 5.1 Cipher

-- 5.1.1: the S-box is applied to each octet of the state
unfoldable pub sub_bytes : List ℕ → List ℕ
sub_bytes s = tab 16 (λ i. sbox (at s i))

-- 5.1.2: s'[r, c] = s[r, (c + r) mod 4]
abbrev pub shift_rows : List ℕ → List ℕ
shift_rows s = tab 16 (λ i. at s ((i + 4 * (i % 4)) % 16))

-- 5.1.3: s'[r, c] = {02} s[r, c] ⊕ {03} s[r + 1, c] ⊕ s[r + 2, c] ⊕ s[r + 3, c], rows modulo 4
unfoldable pub mixed : ℕ → ℕ → ℕ → ℕ → ℕ
mixed a b c d = bit_xor (bit_xor (bit_xor (mul 2 a) (mul 3 b)) c) d

abbrev pub below : List ℕ → ℕ → ℕ → ℕ
below s i k = at s (i / 4 * 4 + (i + k) % 4)

unfoldable pub mix_columns : List ℕ → List ℕ
mix_columns s = tab 16 (λ i. mixed (at s i) (below s i 1) (below s i 2) (below s i 3))

-- 5.1.4; also the addition of any two blocks of 16 octets
abbrev pub add_blocks : List ℕ → List ℕ → List ℕ
add_blocks a b = tab 16 (λ i. bit_xor (at a i) (at b i))

unfoldable pub add_round_key : List ℕ → List ℕ → List ℕ
add_round_key s k = add_blocks s k

unfoldable pub round_of : List ℕ → List ℕ → List ℕ
round_of s k = add_round_key (mix_columns (shift_rows (sub_bytes s))) k

unfoldable pub last_round : List ℕ → List ℕ → List ℕ
last_round s k = add_round_key (shift_rows (sub_bytes s)) k

-- round key n of an expanded key
abbrev pub round_key : List (List ℕ) → ℕ → List ℕ
round_key w n = get_or w n []

-- the state after n rounds that start from s
unfoldable pub rounds : List (List ℕ) → List ℕ → ℕ → List ℕ
rounds w s zero = s
rounds w s (suc n) = round_of (rounds w s n) (round_key w (suc n))

-- Cipher(in, w): a block enciphered under an expanded key
unfoldable pub cipher : List (List ℕ) → List ℕ → List ℕ
cipher w b = last_round (rounds w (add_round_key b (round_key w 0)) 9) (round_key w 10)

-- ---- 5.2 KeyExpansion, four words, one round key, at a time

abbrev pub word : List ℕ → ℕ → List ℕ
word k i = tab 4 (λ j. at k (4 * i + j))

abbrev pub rot_word : List ℕ → List ℕ
rot_word t = at t 1 ∷ at t 2 ∷ at t 3 ∷ at t 0 ∷ []

abbrev pub sub_word : List ℕ → List ℕ
sub_word t = tab 4 (λ j. sbox (at t j))

abbrev pub add_words : List ℕ → List ℕ → List ℕ
add_words a b = tab 4 (λ j. bit_xor (at a j) (at b j))

-- Rcon[n + 1] is [x^n, {00}, {00}, {00}], and x^n is {02} to the power n
unfoldable pub rcon : ℕ → ℕ
rcon zero = 1
rcon (suc n) = xtime (rcon n)

-- temp, where i is a multiple of 4: SubWord(RotWord(w[i - 1])) ⊕ Rcon[i / 4]
unfoldable pub turned_word : ℕ → List ℕ → List ℕ
turned_word c k = add_words (sub_word (rot_word (word k 3))) (c ∷ 0 ∷ 0 ∷ 0 ∷ [])

-- w[i] = w[i - 4] ⊕ temp, and w[i + 1] to w[i + 3], each with the word before it for temp
abbrev pub spread : List ℕ → List ℕ → List ℕ
spread k t =
    let a = add_words (word k 0) t in
    let b = add_words (word k 1) a in
    let c = add_words (word k 2) b in
    let d = add_words (word k 3) c in
    a ++ (b ++ (c ++ d))

unfoldable pub next_key : ℕ → List ℕ → List ℕ
next_key c k = spread k (turned_word c k)

unfoldable pub key_at : List ℕ → ℕ → List ℕ
key_at k zero = k
key_at k (suc n) = next_key (rcon n) (key_at k n)

unfoldable pub key_expansion : List ℕ → List (List ℕ)
key_expansion k = tab 11 (λ n. key_at k n)

-- ---- AES-128: the block-cipher E(Key, x) of the Zigbee specification, B.1.1

unfoldable pub aes128 : List ℕ → List ℕ → List ℕ
aes128 k = cipher (key_expansion k)
