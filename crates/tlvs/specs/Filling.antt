-- Document 01, "The commands" (RULES 9.3): "TLVs are zero or more of: a tag octet, a length octet n and n octets, filling the rest
-- exactly." Document 02 (iv) corrects it: "the length octet is the value's length minus one, so 0 means one octet, and no value is
-- empty." So source document 004 fills length octets in: "sizeof(tu_frag_params) - 1 - ZPS_TLV_HDR_SIZE", the header being tag and
-- length octet.
-- Assumes nothing.
use Rattle.std.specs.Prelude.{List, [], ◌∷◌, ℕ, zero, suc, ◌+◌}

-- the octets of a value whose length octet is n
unfoldable pub value_size : ℕ → ℕ
value_size n = n + 1

-- a TLV: its tag, and where its value starts and how many octets it has
pub record Tlv : Type 0 where
  pub tag : ℕ
  pub start : ℕ
  pub size : ℕ

-- the TLVs that fill a string of octets exactly, or that none do
pub data Tlvs : Type 0 where
  ill : Tlvs
  filling : List Tlv → Tlvs

abbrev pub led : Tlv → Tlvs → Tlvs
led t ill = ill
led t (filling ts) = filling (t ∷ ts)

-- the TLVs of what is left at place i, where n octets of a value are still to pass
unfoldable pub tlvs_from : ℕ → ℕ → List ℕ → Tlvs
tlvs_from i zero [] = filling []
tlvs_from i zero (t ∷ []) = ill
tlvs_from i zero (t ∷ n ∷ s) =
    led (record { tag = t; start = i + 2; size = value_size n }) (tlvs_from (i + 2) (value_size n) s)
tlvs_from i (suc n) [] = ill
tlvs_from i (suc n) (o ∷ s) = tlvs_from (i + 1) n s

abbrev pub tlvs_of : List ℕ → Tlvs
tlvs_of s = tlvs_from 0 0 s
