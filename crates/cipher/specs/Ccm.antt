-- Annex A of source document 002: CCM*, over a block-cipher encryption function E with its key, with L = 2.
-- n is the nonce N of 15 - L = 13 octets, a the authenticated octets, m the message, M the length of the tag.
-- Assumes nothing.
use Rattle.std.specs.Prelude.{Bool, List, [], ◌∷◌, ◌++◌, ℕ, ◌+◌, ◌-◌, ◌*◌, ◌/◌, ◌%◌, min, length, take, drop, nat_lt}
use Rattle.std.specs.Int.Bits.{bit_xor}
use Rattle.std.specs.Prelude.{if◌then◌else◌}
use Rattle.octets.specs.Lists.{at, tab, eq_list}
use Rattle.cipher.specs.Aes.{add_blocks}
use Rattle.cipher.specs.Blocks.{two_octets, blocks, zero_block, over}

-- ---- A.2.1 Input transformation

-- L(a) || a: nothing if l(a) = 0, else the two octets of l(a), and a (our l(a) is below 2^16 - 2^8)
unfoldable pub led : List ℕ → List ℕ
led [] = []
led (x ∷ a) = two_octets (length (x ∷ a)) ++ (x ∷ a)

-- AuthData = AddAuthData || PlaintextData, parsed into blocks: each of the two is padded on its own
unfoldable pub auth_data : List ℕ → List ℕ → List (List ℕ)
auth_data a m = blocks (led a) ++ blocks m

-- ---- A.2.2 Authentication transformation

-- a field of 16 octets: flags, nonce, two octets of a number. B₀ and every Aᵢ are such
abbrev pub field : ℕ → List ℕ → ℕ → List ℕ
field f n i = f ∷ (tab 13 (at n) ++ two_octets i)

-- Reserved || Adata || (M - 2) / 2, or 0 if M = 0 || L - 1. A difference of numbers is never below 0
abbrev pub flags : ℕ → List ℕ → ℕ
flags M a = 64 * min 1 (length a) + 8 * ((M - 2) / 2) + 1

abbrev pub first_block : ℕ → List ℕ → List ℕ → List ℕ → List ℕ
first_block M n a m = field (flags M a) n (length m)

-- X₀ := 0¹²⁸; Xᵢ₊₁ := E(Key, Xᵢ ⊕ Bᵢ) for i = 0, .., t
unfoldable pub absorbed : (List ℕ → List ℕ) → List ℕ → List ℕ → List ℕ
absorbed E x b = E (add_blocks x b)

unfoldable pub mac_of : (List ℕ → List ℕ) → ℕ → List ℕ → List ℕ → List ℕ → List ℕ
mac_of E M n a m = over (absorbed E) zero_block (first_block M n a m ∷ auth_data a m)

-- the leftmost M octets of the CBC-MAC value
unfoldable pub tag_of : (List ℕ → List ℕ) → ℕ → List ℕ → List ℕ → List ℕ → List ℕ
tag_of E M n a m = take M (mac_of E M n a m)

-- ---- A.2.3 Encryption transformation

-- E(Key, Aᵢ), with Aᵢ = Flags || Nonce N || Counter i, and Flags = 0 || 0 || 0 || L - 1
unfoldable pub key_stream : (List ℕ → List ℕ) → List ℕ → ℕ → List ℕ
key_stream E n i = E (field 1 n i)

-- Cᵢ := E(Key, Aᵢ) ⊕ Mᵢ for i = 1, 2, .., and of these octets the leftmost l(m)
unfoldable pub streamed : (List ℕ → List ℕ) → List ℕ → List ℕ → List ℕ
streamed E n m = tab (length m) (λ i. bit_xor (at m i) (at (key_stream E n (i / 16 + 1)) (i % 16)))

-- a tag of M octets, added to the leftmost M octets of S₀ := E(Key, A₀)
unfoldable pub masked : (List ℕ → List ℕ) → ℕ → List ℕ → List ℕ → List ℕ
masked E M n t = tab M (λ i. bit_xor (at t i) (at (key_stream E n 0) i))

-- A.2, output: Ciphertext || U
unfoldable pub ccm_seal : (List ℕ → List ℕ) → ℕ → List ℕ → List ℕ → List ℕ → List ℕ
ccm_seal E M n a m = streamed E n m ++ masked E M n (tag_of E M n a m)

-- ---- A.3 Decryption and authentication checking

pub data Verdict : Type 0 where
  valid : List ℕ → Verdict
  invalid : Verdict

-- A.3.1, 1: c as C || U, where U has M octets
abbrev pub body_of : ℕ → List ℕ → List ℕ
body_of M c = take (length c - M) c

abbrev pub seal_of : ℕ → List ℕ → List ℕ
seal_of M c = drop (length c - M) c

-- A.3.2: MACTag = T
unfoldable pub fits : (List ℕ → List ℕ) → ℕ → List ℕ → List ℕ → List ℕ → Bool
fits E M n a c = eq_list (masked E M n (seal_of M c)) (tag_of E M n a (streamed E n (body_of M c)))

-- A.3.1, 1: "Parse the message c as C || U .. If this operation fails, output 'invalid' and stop."
unfoldable pub ccm_open : (List ℕ → List ℕ) → ℕ → List ℕ → List ℕ → List ℕ → Verdict
ccm_open E M n a c =
    if nat_lt (length c) M then invalid
    else (if fits E M n a c then valid (streamed E n (body_of M c)) else invalid)
