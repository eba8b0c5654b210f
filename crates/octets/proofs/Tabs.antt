-- `tab`, the list of a function's first values: how long it is, what stands where, how it is cut, joined and laid; `onto`'s length;
-- and a list from place i on, which a loop reads an octet at a time.
-- Assumes nothing.
use mathlib.Core.Path.{◌≡◌, refl, sym, ap, ap₂, ◌∙◌}
use mathlib.Core.List.{List, [], ◌∷◌, ◌++◌}
use Prim.Native.Nat.{ℕ, zero, suc, ◌+◌, ◌≤◌, ◌<◌}
use native.Mathlib.Nat.{le_of_suc-le-suc, not-suc-le-zero, zero-add, suc-add}
use native.Mathlib.Numerals.{add-one}
use native.Mathlib.Omega.{arith}
use lib.ListN.{length, get_or, take, drop, replicate, length-append, length-drop, get_or-eq_default}
use lib.Seq.{ext_get_or, drop-drop, drop-cons, paste, take_at, drop_at}
use Rattle.octets.specs.Lists.{at, tab, onto}

module _ {A : Type 0} where
  pub length-tab : (n : ℕ) (f : ℕ → A) → length (tab n f) ≡ n
  length-tab zero f = refl
  length-tab (suc n) f = ap suc (length-tab n (λ i. f (suc i)))

  pub get_or-tab : (n : ℕ) (f : ℕ → A) (i : ℕ) (d : A) → i < n → get_or (tab n f) i d ≡ f i
  get_or-tab zero f i d h = absurd (not-suc-le-zero h)
  get_or-tab (suc n) f zero d h = refl
  get_or-tab (suc n) f (suc i) d h = get_or-tab n (λ j. f (suc j)) i d (le_of_suc-le-suc h)

  -- two functions with the same first n values
  pub tab-ext : (n : ℕ) (f g : ℕ → A) → ((i : ℕ) → i < n → f i ≡ g i) → tab n f ≡ tab n g
  tab-ext zero f g h = refl
  tab-ext (suc n) f g h =
      ap₂ (λ (x : A) (l : List A). x ∷ l) (h 0 (omega arith))
      (tab-ext n (λ i. f (suc i)) (λ i. g (suc i)) (λ i k. h (suc i) (omega arith)))

  -- two lists that are the same have the same values
  pub tab-agree : (n : ℕ) (f g : ℕ → A) → tab n f ≡ tab n g → (i : ℕ) → i < n → f i ≡ g i
  tab-agree n f g e i h = sym (get_or-tab n f i (f i) h) ∙ ap (λ (l : List A). get_or l i (f i)) e ∙ get_or-tab n g i (f i) h

  pub tab-add : (n m : ℕ) (f : ℕ → A) → tab (n + m) f ≡ tab n f ++ tab m (λ i. f (n + i))
  tab-add zero m f = rw (zero-add m) (tab-ext m f (λ i. f (0 + i)) (λ i h. rw (zero-add i)))
  tab-add (suc n) m f =
      rw (suc-add n m)
      (ap (λ (l : List A). f 0 ∷ l)
      (tab-add n m (λ i. f (suc i))
      ∙ ap (λ (l : List A). tab n (λ i. f (suc i)) ++ l)
      (tab-ext m (λ i. f (suc (n + i))) (λ i. f (suc n + i)) (λ i h. rw (suc-add n i)))))

  pub take-tab : (m n : ℕ) (f : ℕ → A) → m ≤ n → take m (tab n f) ≡ tab m f
  take-tab zero n f h = refl
  take-tab (suc m) zero f h = absurd (not-suc-le-zero h)
  take-tab (suc m) (suc n) f h = ap (λ (l : List A). f 0 ∷ l) (take-tab m n (λ i. f (suc i)) (le_of_suc-le-suc h))

-- a list is the list of its octets
pub tab-at : (s : List ℕ) → tab (length s) (at s) ≡ s
tab-at s =
    ext_get_or 0 (tab (length s) (at s)) s (length-tab (length s) (at s))
    (λ i h. get_or-tab (length s) (at s) i 0 (simp length-tab at h))

pub at-tab-out : (n : ℕ) (f : ℕ → ℕ) (i : ℕ) → n ≤ i → at (tab n f) i ≡ 0
at-tab-out n f i h = get_or-eq_default (tab n f) 0 (rw length-tab h)

pub length-onto : (s o : List ℕ) → length s ≤ length o → length (onto s o) ≡ length o
length-onto s o h = simp (length-append, length-drop) (omega arith)

-- a list written at the start of zeros is its octets, and zeros behind them
pub onto-zeros : (n : ℕ) (s : List ℕ) → length s ≤ n → onto s (replicate n 0) ≡ tab n (at s)
onto-zeros zero [] h = refl
onto-zeros zero (x ∷ s) h = absurd (not-suc-le-zero h)
onto-zeros (suc n) [] h = ap (λ (l : List ℕ). 0 ∷ l) (onto-zeros n [] (omega arith))
onto-zeros (suc n) (x ∷ s) h = ap (λ (l : List ℕ). x ∷ l) (onto-zeros n s (le_of_suc-le-suc h))

-- what is left of a list from place i on is the octet there and what is left from the next place on
pub drop-step : (l : List ℕ) (i : ℕ) → i < length l → drop i l ≡ get_or l i 0 ∷ drop (i + 1) l
drop-step l i h = rw (add-one, drop-cons l i 0)

-- a piece b written behind the first n values of f, where the piece is f's next m values
pub paste-tab : (n m : ℕ) (f : ℕ → ℕ) (o b : List ℕ) → take m b ≡ tab m (λ i. f (n + i))
    → paste (tab n f ++ drop n o) n b m ≡ tab (n + m) f ++ drop (n + m) o
paste-tab n m f o b e =
    ap₂ (λ (x y : List ℕ). x ++ take m b ++ y) (take_at (tab n f) (drop n o) n (length-tab n f))
    (sym (drop-drop m n (tab n f ++ drop n o)) ∙ ap (drop m) (drop_at (tab n f) (drop n o) n (length-tab n f)) ∙ drop-drop m n o)
    ∙ ap (λ (x : List ℕ). tab n f ++ x ++ drop (n + m) o) e
    ∙ ap (λ (x : List ℕ). x ++ drop (n + m) o) (sym (tab-add n m f))
