-- The authenticated octets of a frame: how many they are, what tells them, and the scratch that holds them.
-- Assumes nothing.
use mathlib.Core.Path.{◌≡◌, refl, sym, ap, ap₂, ◌∙◌}
use mathlib.Core.Bool.{Bool, true, false}
use mathlib.Core.List.{List}
use Prim.Native.Nat.{ℕ, ◌≤◌}
use native.Mathlib.Omega.{arith}
use lib.Dec.{ltb}
use lib.ListN.{length, take, drop, set, length-take, length-set}
use lib.Seq.{take_at, length-take-le, get_or-take, set_out}
use borrow.Author.Tests.{ltb-true, ltb-false}
use Rattle.settings.specs.Settings.{Settings}
use Rattle.octets.specs.Lists.{at}
use Rattle.frames.specs.Security.{with_level, authenticated}
use Rattle.frames.specs.Making.{laid}
use Rattle.frames.proofs.Layings.{laid-onto}

pub authenticated-length : (z : Settings) (f : List ℕ) (h n : ℕ) → n ≤ length f → length (authenticated z f h n) ≡ n
unfolding authenticated
authenticated-length z f h n b = length-set (take n f) h _ ∙ length-take-le n f b

-- the first n octets tell them, also where the control has no place among these
pub authenticated-front : (z : Settings) (f g : List ℕ) (h n : ℕ) → take n f ≡ take n g → authenticated z f h n ≡ authenticated z g h n
unfolding authenticated
authenticated-front z f g h n e = go (ltb h n) refl
  where
    go : (t : Bool) → ltb h n ≡ t → set (take n f) h (with_level z (at f h)) ≡ set (take n g) h (with_level z (at g h))
    go true q =
        let b = ltb-true h n q in
        ap₂ (λ (u : List ℕ) (v : ℕ). set u h (with_level z v)) e
        (sym (get_or-take n f h 0 b) ∙ ap (λ (u : List ℕ). at u h) e ∙ get_or-take n g h 0 b)
    go false q =
        let b = ltb-false h n q in
        set_out (take n f) h _ (simp length-take (omega arith)) ∙ e
        ∙ sym (set_out (take n g) h _ (simp length-take (omega arith)))

-- the scratch w, once they are laid there, has them at its front
pub scratch-front : (z : Settings) (w a f : List ℕ) (h n : ℕ) → n ≤ length f → n ≤ length w → a ≡ laid w f n (authenticated z f h n)
    → take n a ≡ authenticated z f h n
scratch-front z w a f h n b d e =
    ap (take n) (e ∙ laid-onto w f n (authenticated z f h n) b d)
    ∙ take_at (authenticated z f h n) (drop (length (authenticated z f h n)) w) n (authenticated-length z f h n b)
