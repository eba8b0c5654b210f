-- The register as a fold.
-- Assumes nothing.
use mathlib.Core.Path.{◌≡◌, refl}
use mathlib.Core.List.{List, [], ◌∷◌}
use Prim.Native.Nat.{ℕ}
use Rattle.std.specs.List.{fold}
use Rattle.labels.specs.Crc.{taken_in, register}

-- the octets, one after the other
pub register-fold : (c : ℕ) (s : List ℕ) → register c s ≡ fold taken_in c s
unfolding register
register-fold c [] = refl
register-fold c (x ∷ s) = register-fold (taken_in c x) s
