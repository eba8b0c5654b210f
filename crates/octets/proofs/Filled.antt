-- A loop that fills a list of n places from the front with the values of f: those below i stand when it reaches i, in the end all.
-- Assumes nothing.
use mathlib.Core.Path.{◌≡◌, sym, ◌∙◌}
use mathlib.Core.Logic.{⊎_elim}
use mathlib.Core.List.{List}
use Prim.Native.Nat.{ℕ, ◌+◌, ◌≤◌, ◌<◌}
use native.Mathlib.Nat.{not-suc-le-zero, eq-or-lt_of_le, lt_irrefl}
use native.Mathlib.Omega.{arith}
use lib.ListN.{length, get_or, set, length-set}
use lib.Seq.{ext_get_or, get_or-set_same, get_or-set_other}
use Rattle.octets.proofs.Tabs.{length-tab, get_or-tab}
use Rattle.octets.specs.Lists.{tab}

pub record Filled {A : Type 0} (n : ℕ) (d : A) (f : ℕ → A) (i : ℕ) (t : List A) : Type 0 where
  pub within : i ≤ n
  pub long : length t ≡ n
  pub upto : (k : ℕ) → k < i → get_or t k d ≡ f k

module _ {A : Type 0} (n : ℕ) (d : A) (f : ℕ → A) where
  pub none : (t : List A) → length t ≡ n → Filled n d f 0 t
  none t e = record { within = omega arith; long = e; upto = λ k h. absurd (not-suc-le-zero h) }

  pub more : (i : ℕ) (t : List A) (v : A) → Filled n d f i t → i < n → v ≡ f i → Filled n d f (i + 1) (set t i v)
  more i t v w h e =
      record {
        within = omega arith;
        long = length-set t i v ∙ w.long;
        upto = λ k b. ⊎_elim (last k) (before k) (eq-or-lt_of_le (below k b));
      }
    where
      below : (k : ℕ) → k < i + 1 → k ≤ i
      below k b = omega arith

      fits : i < length t
      fits = rw w.long h

      last : (k : ℕ) → k ≡ i → get_or (set t i v) k d ≡ f k
      last k p = rw p (get_or-set_same t i v d fits ∙ e)

      before : (k : ℕ) → k < i → get_or (set t i v) k d ≡ f k
      before k b = get_or-set_other t i k v d (λ p. lt_irrefl i (rw p at b)) ∙ w.upto k b

  pub all : (i : ℕ) (t : List A) → Filled n d f i t → n ≤ i → t ≡ tab n f
  all i t w h =
      ext_get_or d t (tab n f) (w.long ∙ sym (length-tab n f))
      (λ k b. w.upto k (omega (arith, w.long)) ∙ sym (get_or-tab n f k d (omega (arith, w.long))))

  -- a list whose first place has its value already
  pub one : (t : List A) → length t ≡ n → 1 ≤ n → get_or t 0 d ≡ f 0 → Filled n d f 1 t
  one t e h g = record { within = h; long = e; upto = λ k b. let z : k ≡ 0 = omega arith in rw z g }
