-- Lists of octets, as the papers read and write them (RULES 1.2). An octet is a number, a string of octets a list of them.
-- Assumes nothing.
use Rattle.std.specs.Prelude.{Bool, true, false, List, [], ◌∷◌, ◌++◌, ℕ, zero, suc, ◌+◌, ◌<◌, length, get_or, drop, ◌==◌}
use Rattle.std.specs.Prelude.{nat_le, if◌then◌else◌}
use Rattle.std.proofs.Math.Seq.{paste}
use Rattle.octets.specs.Choice.{both}

-- octet i of a string; 0 past its end, which is how the papers pad
abbrev pub at : List ℕ → ℕ → ℕ
at s i = get_or s i 0

-- the first n values of f, in order
abbrev pub tab : {A : Type 0} → ℕ → (ℕ → A) → List A
tab zero f = []
tab (suc n) f = f 0 ∷ tab n (λ i. f (suc i))

-- the same octets in the same order, and no more of them
abbrev pub eq_list : List ℕ → List ℕ → Bool
eq_list [] [] = true
eq_list [] (y ∷ b) = false
eq_list (x ∷ a) [] = false
eq_list (x ∷ a) (y ∷ b) = both (x == y) (eq_list a b)

-- s written at the start of o; the octets of o behind it stay
abbrev pub onto : List ℕ → List ℕ → List ℕ
onto s o = s ++ drop (length s) o

-- s laid into o at place i, where it fits
abbrev pub pasted : List ℕ → ℕ → List ℕ → List ℕ
pasted o i s = if nat_le (i + length s) (length o) then paste o i s (length s) else o

-- every element is an octet
pub record Octets (s : List ℕ) : Type 0 where
  pub octet : (i : ℕ) → at s i < 256
