-- What the frames that were opened tell, sender by sender: the counters of each, the least counter that is above them, and the
-- senders, each named once.
-- Assumes nothing.
use mathlib.Core.Path.{◌≡◌, refl, sym, ap, ◌∙◌}
use mathlib.Core.Bool.{Bool, true, false}
use mathlib.Core.List.{List, [], ◌∷◌}
use Prim.Native.Nat.{ℕ, suc, ◌+◌, ◌≤◌, max}
use native.Mathlib.Omega.{arith}
use lib.Dec.{eqb, ltb, leb}
use lib.ListN.{length}
use borrow.Author.Tests.{eqb-true, eqb-false, ne_eqb, ltb-true, ltb-false, leb-true, leb-false, le-leb, lt-leb}
use Rattle.std.specs.Prelude.{if◌then◌else◌}
use Rattle.octets.specs.Choice.{both}
use Rattle.history.specs.Events.{HeardFrame, without, is_from, senders}
use Rattle.history.specs.Statement.{above_all}
use Rattle.history.proofs.Searches.{clash, bit}

-- ---- counters

abbrev pub bound : List ℕ → ℕ
bound [] = 0
bound (c ∷ l) = max (c + 1) (bound l)

-- those of sender a
abbrev pub counters : ℕ → List HeardFrame → List ℕ
counters a [] = []
counters a (r ∷ l) = if eqb r.sender a then r.counter ∷ counters a l else counters a l

pub above-bound : (a n : ℕ) (l : List HeardFrame) → above_all a n l ≡ leb (bound (counters a l)) n
above-bound a n [] = sym (le-leb 0 n (omega arith))
above-bound a n (r ∷ l) = ap (both (if eqb r.sender a then ltb r.counter n else true)) (above-bound a n l) ∙ from (eqb r.sender a)
  where
    go : (c : ℕ) (t : Bool) → ltb c n ≡ t → (u : Bool) → leb (bound (counters a l)) n ≡ u
        → both t u ≡ leb (max (c + 1) (bound (counters a l))) n
    go c true e true f = sym (le-leb _ n (omega (arith, ltb-true c n e, leb-true _ n f)))
    go c true e false f = sym (lt-leb _ n (omega (arith, leb-false _ n f)))
    go c false e u f = sym (lt-leb _ n (omega (arith, ltb-false c n e)))

    from : (t : Bool) → both (if t then ltb r.counter n else true) (leb (bound (counters a l)) n)
        ≡ leb (bound (if t then r.counter ∷ counters a l else counters a l)) n
    from true = go r.counter (ltb r.counter n) refl (leb (bound (counters a l)) n) refl
    from false = refl

-- one more, not below the bound
pub bound-more : (n : ℕ) (l : List ℕ) → bound l ≤ n → bound (n ∷ l) ≡ n + 1
bound-more n l h = omega arith

-- ---- names

abbrev pub member : ℕ → List ℕ → Bool
member a [] = false
member a (b ∷ l) = if eqb b a then true else member a l

abbrev pub less : ℕ → List ℕ → List ℕ
less a [] = []
less a (b ∷ l) = if eqb b a then less a l else b ∷ less a l

pub member-less : (a : ℕ) (l : List ℕ) → member a (less a l) ≡ false
member-less a [] = refl
member-less a (b ∷ l) = go (member-less a l) (eqb b a) refl
  where
    go : member a (less a l) ≡ false → (t : Bool) → eqb b a ≡ t → member a (if t then less a l else b ∷ less a l) ≡ false
    go ih true e = ih
    go ih false e = rw e ih

pub member-other : (a b : ℕ) (l : List ℕ) → (a ≡ b → ⊥) → member b (less a l) ≡ member b l
member-other a b [] ne = refl
member-other a b (c ∷ l) ne = go (member-other a b l ne) (eqb c a) refl
  where
    go : member b (less a l) ≡ member b l → (t : Bool) → eqb c a ≡ t
        → member b (if t then less a l else c ∷ less a l) ≡ (if eqb c b then true else member b l)
    go ih true e = ih ∙ sym (ap (λ (u : Bool). if u then true else member b l) (ne_eqb c b (λ f. ne (sym (eqb-true c a e) ∙ f))))
    go ih false e = ap (λ (u : Bool). if eqb c b then true else u) ih

pub less-absent : (a : ℕ) (l : List ℕ) → member a l ≡ false → less a l ≡ l
less-absent a [] e = refl
less-absent a (b ∷ l) e = go (less-absent a l) (eqb b a) e
  where
    go : (member a l ≡ false → less a l ≡ l) → (t : Bool) → (if t then true else member a l) ≡ false
        → (if t then less a l else b ∷ less a l) ≡ b ∷ l
    go ih true f = clash refl f
    go ih false f = ap (λ (x : List ℕ). b ∷ x) (ih f)

-- each name stands once
pub data Distinct : List ℕ → Type 0 where
  no_one : Distinct []
  one_more : {a : ℕ} {l : List ℕ} → member a l ≡ false → Distinct l → Distinct (a ∷ l)

pub distinct-less : (a : ℕ) (l : List ℕ) → Distinct l → Distinct (less a l)
distinct-less a l no_one = no_one
distinct-less a l (one_more {a = b} {l = k} e d) = go (distinct-less a k d) (eqb b a) refl
  where
    go : Distinct (less a k) → (t : Bool) → eqb b a ≡ t → Distinct (if t then less a k else b ∷ less a k)
    go ih true f = ih
    go ih false f = one_more (member-other a b k (λ g. eqb-false b a f (sym g)) ∙ e) ih

pub length-less : (a : ℕ) (l : List ℕ) → Distinct l → length (less a l) + bit (member a l) ≡ length l
length-less a l no_one = refl
length-less a l (one_more {a = b} {l = k} e d) = go (length-less a k d) (eqb b a) refl
  where
    go : length (less a k) + bit (member a k) ≡ length k → (t : Bool) → eqb b a ≡ t
        → length (if t then less a k else b ∷ less a k) + bit (if t then true else member a k) ≡ suc (length k)
    go ih true f = omega (arith, ap length (less-absent a k (ap (λ (x : ℕ). member x k) (sym (eqb-true b a f)) ∙ e)))
    go ih false f = omega arith

pub less-twice : (a : ℕ) (l : List ℕ) → less a (less a l) ≡ less a l
less-twice a l = less-absent a (less a l) (member-less a l)

pub less-less : (a b : ℕ) (l : List ℕ) → less a (less b l) ≡ less b (less a l)
less-less a b [] = refl
less-less a b (c ∷ l) = go (less-less a b l) (eqb c a) refl (eqb c b) refl
  where
    go : less a (less b l) ≡ less b (less a l) → (t : Bool) → eqb c a ≡ t → (u : Bool) → eqb c b ≡ u
        → less a (if u then less b l else c ∷ less b l) ≡ less b (if t then less a l else c ∷ less a l)
    go ih true e true f = ih
    go ih true e false f = rw e ih
    go ih false e true f = rw f ih
    go ih false e false f = rw (e, f) (ap (λ (x : List ℕ). c ∷ x) ih)

-- ---- the senders of frames

abbrev pub names : List HeardFrame → List ℕ
names [] = []
names (r ∷ l) = r.sender ∷ less r.sender (names l)

pub names-distinct : (l : List HeardFrame) → Distinct (names l)
names-distinct [] = no_one
names-distinct (r ∷ l) = one_more (member-less r.sender (names l)) (distinct-less r.sender (names l) (names-distinct l))

pub from-names : (a : ℕ) (l : List HeardFrame) → is_from a l ≡ member a (names l)
from-names a [] = refl
from-names a (r ∷ l) = go (from-names a l) (eqb r.sender a) refl
  where
    go : is_from a l ≡ member a (names l) → (t : Bool) → eqb r.sender a ≡ t
        → (if t then true else is_from a l) ≡ (if t then true else member a (less r.sender (names l)))
    go ih true e = refl
    go ih false e = ih ∙ sym (member-other r.sender a (names l) (eqb-false r.sender a e))

pub senders-names : (l : List HeardFrame) → senders l ≡ length (names l)
senders-names [] = refl
senders-names (r ∷ l) =
    go (senders-names l) (length-less r.sender (names l) (names-distinct l)) (member r.sender (names l)) refl (is_from r.sender l)
    (from-names r.sender l)
  where
    go : senders l ≡ length (names l) → length (less r.sender (names l)) + bit (member r.sender (names l)) ≡ length (names l)
        → (t : Bool) → member r.sender (names l) ≡ t → (u : Bool) → u ≡ member r.sender (names l)
        → (if u then senders l else suc (senders l)) ≡ suc (length (less r.sender (names l)))
    go ih e true f u g = rw (g ∙ f) (omega (arith, ap bit f))
    go ih e false f u g = rw (g ∙ f) (omega (arith, ap bit f))

-- ---- a sender forgotten

pub names-without : (a : ℕ) (l : List HeardFrame) → names (without a l) ≡ less a (names l)
names-without a [] = refl
names-without a (r ∷ l) = go (names-without a l) (eqb r.sender a) refl
  where
    go : names (without a l) ≡ less a (names l) → (t : Bool) → eqb r.sender a ≡ t
        → names (if t then without a l else r ∷ without a l)
        ≡ (if t then less a (less r.sender (names l)) else r.sender ∷ less a (less r.sender (names l)))
    go ih true e =
        ih ∙ sym (less-twice a (names l)) ∙ ap (λ (x : ℕ). less a (less x (names l))) (sym (eqb-true r.sender a e))
    go ih false e = ap (λ (x : List ℕ). r.sender ∷ x) (ap (less r.sender) ih ∙ less-less r.sender a (names l))

pub counters-gone : (a : ℕ) (l : List HeardFrame) → counters a (without a l) ≡ []
counters-gone a [] = refl
counters-gone a (r ∷ l) = go (counters-gone a l) (eqb r.sender a) refl
  where
    go : counters a (without a l) ≡ [] → (t : Bool) → eqb r.sender a ≡ t → counters a (if t then without a l else r ∷ without a l) ≡ []
    go ih true e = ih
    go ih false e = rw e ih

pub counters-other : (a b : ℕ) (l : List HeardFrame) → (a ≡ b → ⊥) → counters b (without a l) ≡ counters b l
counters-other a b [] ne = refl
counters-other a b (r ∷ l) ne = go (counters-other a b l ne) (eqb r.sender a) refl
  where
    go : counters b (without a l) ≡ counters b l → (t : Bool) → eqb r.sender a ≡ t
        → counters b (if t then without a l else r ∷ without a l)
        ≡ (if eqb r.sender b then r.counter ∷ counters b l else counters b l)
    go ih true e =
        ih ∙ sym (ap (λ (u : Bool). if u then r.counter ∷ counters b l else counters b l)
        (ne_eqb r.sender b (λ f. ne (sym (eqb-true r.sender a e) ∙ f))))
    go ih false e = ap (λ (x : List ℕ). if eqb r.sender b then r.counter ∷ x else x) ih
