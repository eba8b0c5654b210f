-- Document 02 (v) (RULES 14.3, 14.4): "printed hex (small or capital, at most one space or hyphen between octets)". Every way to
-- print octets so: each gap and the case of each digit is chosen by itself.
-- Assumes nothing.
use Rattle.std.specs.Prelude.{List, [], ◌∷◌, ◌++◌, ℕ, suc, ◌+◌, ◌-◌, ◌/◌, ◌%◌, nat_lt}
use Rattle.std.specs.Prelude.{if◌then◌else◌}

-- what stands between two octets
pub data Gap : Type 0 where
  nothing : Gap
  space : Gap
  hyphen : Gap

abbrev pub gap_text : Gap → List ℕ
gap_text nothing = []
gap_text space = 0x20 ∷ []
gap_text hyphen = 0x2d ∷ []

pub data Case : Type 0 where
  small : Case
  capital : Case

-- a digit from 0 to 15: `0` to `9`, then `a` to `f` or `A` to `F`
unfoldable pub digit_in : Case → ℕ → ℕ
digit_in small d = if nat_lt d 10 then 0x30 + d else 0x61 + (d - 10)
digit_in capital d = if nat_lt d 10 then 0x30 + d else 0x41 + (d - 10)

-- the choices: of octet i, counted from 0, the gap before it and the case of its two digits. Before octet 0 there is no gap.
pub record Style : Type 0 where
  pub gap : ℕ → Gap
  pub high : ℕ → Case
  pub low : ℕ → Case

-- the choices from octet 1 on
abbrev pub later : Style → Style
later p = record { gap = λ i. p.gap (suc i); high = λ i. p.high (suc i); low = λ i. p.low (suc i) }

-- octets that stand behind others, each behind its gap
unfoldable pub behind : Style → List ℕ → List ℕ
behind p [] = []
behind p (x ∷ s) = gap_text (p.gap 0) ++ (digit_in (p.high 0) (x / 16) ∷ digit_in (p.low 0) (x % 16) ∷ behind (later p) s)

-- the octets s in print
unfoldable pub in_print : Style → List ℕ → List ℕ
in_print p [] = []
in_print p (x ∷ s) = digit_in (p.high 0) (x / 16) ∷ digit_in (p.low 0) (x % 16) ∷ behind (later p) s
