-- Annex B.6 of source document 002, and 01, "Hash" (RULES 10): the Matyas-Meyer-Oseas hash over AES-128, and HMAC (FIPS 198) over it.
-- Assumes nothing.
use Rattle.std.specs.Prelude.{List, ◌∷◌, ◌++◌, ℕ, ◌-◌, ◌*◌, ◌%◌, length, replicate}
use Rattle.std.specs.Int.Bits.{bit_xor}
use Rattle.octets.specs.Lists.{at, tab}
use Rattle.cipher.specs.Aes.{aes128, add_blocks}
use Rattle.cipher.specs.Blocks.{two_octets, blocks, zero_block, over}

-- "0x80, zeros until the length is 14 beyond a multiple of 16, then the bit length in 2 octets"
unfoldable pub padded : List ℕ → List ℕ
padded d = d ++ (0x80 ∷ replicate ((29 - length d % 16) % 16) 0 ++ two_octets (8 * length d))

-- Hash₀ = 0¹²⁸; Hashⱼ = E(Hashⱼ₋₁, Mⱼ) ⊕ Mⱼ for j = 1, .., t
unfoldable pub hashed_in : List ℕ → List ℕ → List ℕ
hashed_in h b = add_blocks (aes128 h b) b

unfoldable pub hash_of : List ℕ → List ℕ
hash_of d = over hashed_in zero_block (blocks (padded d))

-- a key of 16 octets, each added to the octet x
abbrev pub plus_each : List ℕ → ℕ → List ℕ
plus_each k x = tab 16 (λ i. bit_xor (at k i) x)

-- FIPS 198, with a block size of 16: H((K ⊕ opad) || H((K ⊕ ipad) || text))
unfoldable pub keyed_hash : List ℕ → List ℕ → List ℕ
keyed_hash k d = hash_of (plus_each k 0x5c ++ hash_of (plus_each k 0x36 ++ d))
