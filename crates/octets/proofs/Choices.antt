-- Both tests pass where each does, a choice goes by its test, and `tests` turns what is known of numbers into what a test answers.
-- Assumes nothing.
use mathlib.Core.Path.{◌≡◌, refl}
use mathlib.Core.Bool.{Bool, true, false}
use Prim.Native.Nat.{ℕ}
use native.Mathlib.Omega.{arith}
use borrow.Author.Tests.{lt-ltb, le-ltb, le-leb, lt-leb, eq-eqb, ne_eqb}
use Rattle.std.specs.Prelude.{if◌then◌else◌}
use Rattle.octets.specs.Choice.{both}

pub ruleset tests = (lt-ltb, le-ltb, le-leb, lt-leb, eq-eqb, ne_eqb)

pub both_true : (t : Bool) → both t true ≡ t
both_true true = refl
both_true false = refl

pub both-parts : (a b : Bool) → both a b ≡ true → (a ≡ true) × (b ≡ true)
both-parts true b e = (refl, e)
both-parts false b e = let never : ◌≡◌ {A = ℕ} 0 1 = cc in absurd (omega arith)

pub both-assoc : (a b c : Bool) → both (both a b) c ≡ both a (both b c)
both-assoc true b c = refl
both-assoc false b c = refl

-- what a choice is, goes by its test
pub choose : {A : Type 0} (P : A → Type 0) (t : Bool) (x y : A) → (t ≡ true → P x) → (t ≡ false → P y) → P (if t then x else y)
choose P true x y f g = f refl
choose P false x y f g = g refl
