-- Document 01, "Bench cases" (RULES 12.1): those of the cipher that are shown of the definitions, M2 to M8, each for any octets.
-- Assumes nothing.
use Rattle.std.specs.Prelude.{◌≡◌, List, [], ◌∷◌, ◌++◌, ℕ, ◌<◌, length, drop}
use Rattle.std.specs.Int.Bits.{bit_xor}
use Rattle.octets.specs.Lists.{at, tab}
use Rattle.cipher.specs.Ccm.{first_block, streamed, led}
use Rattle.cipher.specs.Hash.{padded}

-- "M2 first CCM* block for 3 payload octets: 49, nonce, 00 03." (the tag has 4 octets, and some are authenticated)
abbrev pub M2 : Type 0
M2 =
    (n : ℕ → ℕ) (a : List ℕ) (x y z : ℕ) → 0 < length a
    → first_block 4 (tab 13 n) a (x ∷ y ∷ z ∷ []) ≡ 0x49 ∷ (tab 13 n ++ (0x00 ∷ 0x03 ∷ []))

-- "M3 first key-stream block: 01, nonce, 00 01.", of every block-cipher: to the first 16 octets of a message is added what it
-- makes of that block
abbrev pub M3 : Type 0
M3 =
    (E : List ℕ → List ℕ) (n : ℕ → ℕ) (m : List ℕ) (i : ℕ) → i < 16 → i < length m
    → at (streamed E (tab 13 n) m) i ≡ bit_xor (at m i) (at (E (0x01 ∷ (tab 13 n ++ (0x00 ∷ 0x01 ∷ [])))) i)

-- "M4 22 authenticated octets are led by 00 16."
abbrev pub M4 : Type 0
M4 = (a : ℕ → ℕ) → led (tab 22 a) ≡ 0x00 ∷ 0x16 ∷ tab 22 a

-- "M5 hash padding: 13 octets become 16, ending 80 00 68."
abbrev pub M5 : Type 0
M5 = (d : ℕ → ℕ) → (length (padded (tab 13 d)) ≡ 16) × (drop 13 (padded (tab 13 d)) ≡ 0x80 ∷ 0x00 ∷ 0x68 ∷ [])

-- "M6 14 become 32."
abbrev pub M6 : Type 0
M6 = (d : ℕ → ℕ) → length (padded (tab 14 d)) ≡ 32

-- "M7 17 become 32, ending 00 88."
abbrev pub M7 : Type 0
M7 = (d : ℕ → ℕ) → (length (padded (tab 17 d)) ≡ 32) × (drop 30 (padded (tab 17 d)) ≡ 0x00 ∷ 0x88 ∷ [])

-- "M8 32 become 48, ending 01 00."
abbrev pub M8 : Type 0
M8 = (d : ℕ → ℕ) → (length (padded (tab 32 d)) ≡ 48) × (drop 46 (padded (tab 32 d)) ≡ 0x01 ∷ 0x00 ∷ [])
