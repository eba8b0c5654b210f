-- Whatever chunks an input comes in, a program whose turns are those of `Passing` is handed exactly the input's lines, in order
-- and by their numbers, none lost and none twice, each as far as there is room for it and marked where it is longer; the last
-- one too, which no line feed ends.
-- Assumes nothing.
use Rattle.std.proofs.Common.{◌≡◌, ℕ, zero, suc, ◌+◌, ◌<◌, ◌≤◌, Bool, true, false, not, eqb, ltb, List, [], ◌∷◌, ◌++◌, map, length, take, sym, refl, ap, ◌∙◌, ap₂, append-nil, not-suc-le-zero, arith, length-append, length-take-le, take_all, ltb-false, ltb-true, le-ltb, lt-ltb, eqb-true}
use mathlib.Core.Bool.{false≢true}
use lib.Seq.{take-nil, append_snoc, take-append-le}
use Rattle.octets.proofs.Choices.{both-parts}
use Rattle.std.specs.Prelude.{if◌then◌else◌}
use Rattle.octets.specs.Choice.{both}
use Rattle.lines.specs.Lines.{Lines, lines, lines_from, lines_of, glued, unfed, all_unfed}
use Rattle.lines.specs.Reading.{Held, kept, unread, fed, Reached, reached, read_on}
use Rattle.lines.specs.Passing.{stands, at_start, number_after, begun, empty, spent, turned, filled, due}
use Rattle.lines.specs.Passing.{Numbered, numbered, handing, read, later, turns, given, all, counted_from}

-- octet by octet: the lines of h and then l, the last one too
unfoldable pub reads : ℕ → Held → List ℕ → List Held
reads n h [] = h ∷ []
reads n h (c ∷ l) = if eqb c 10 then h ∷ reads n unread l else reads n (fed n h c) l

-- what a stop leads to, where g is behind the chunk
unfoldable pub onward : ℕ → List ℕ → Reached → List Held
onward n g r = if r.ended then r.line ∷ reads n unread (r.left ++ g) else reads n r.line g

-- reading to a line's end is taking its octets
pub reads_on : (n : ℕ) (h : Held) (l g : List ℕ) → reads n h (l ++ g) ≡ onward n g (read_on n h l)
unfolding reads onward read_on
reads_on n h [] g = refl
reads_on n h (c ∷ l) g = go (reads_on n (fed n h c) l g) (eqb c 10)
  where
    go : reads n (fed n h c) (l ++ g) ≡ onward n g (read_on n (fed n h c) l) → (t : Bool)
        → (if t then h ∷ reads n unread (l ++ g) else reads n (fed n h c) (l ++ g))
        ≡ onward n g (if t then reached h true l else read_on n (fed n h c) l)
    go ih true = refl
    go ih false = ih

-- a line that ended leaves less of the chunk, one that did not leaves nothing of it
pub left_less : (n : ℕ) (h : Held) (l : List ℕ) → (read_on n h l).ended ≡ true → length (read_on n h l).left < length l
unfolding read_on
left_less n h [] e = absurd (false≢true e)
left_less n h (c ∷ l) e = go (left_less n (fed n h c) l) (eqb c 10) e
  where
    go : ((read_on n (fed n h c) l).ended ≡ true → length (read_on n (fed n h c) l).left < length l) → (t : Bool)
        → (if t then reached h true l else read_on n (fed n h c) l).ended ≡ true
        → length (if t then reached h true l else read_on n (fed n h c) l).left < suc (length l)
    go ih true q = omega arith
    go ih false q = omega (arith, ih q)

pub left-none : (n : ℕ) (h : Held) (l : List ℕ) → (read_on n h l).ended ≡ false → (read_on n h l).left ≡ []
unfolding read_on
left-none n h [] e = refl
left-none n h (c ∷ l) e = go (left-none n (fed n h c) l) (eqb c 10) e
  where
    go : ((read_on n (fed n h c) l).ended ≡ false → (read_on n (fed n h c) l).left ≡ []) → (t : Bool)
        → (if t then reached h true l else read_on n (fed n h c) l).ended ≡ false
        → (if t then reached h true l else read_on n (fed n h c) l).left ≡ []
    go ih true q = absurd (false≢true (sym q))
    go ih false q = ih q

-- where the input has ended no line is handed on
closed : (k n : ℕ) (r : Reached) (m : ℕ) (ls : List (List ℕ)) → turns k n (stands r m false) ls ≡ []
unfolding turns
closed zero n r m ls = refl
closed (suc k) n r m ls = refl

-- a turn begins the next line by itself
begins : (k n : ℕ) (h : Held) (l : List ℕ) (m : ℕ) (ls : List (List ℕ))
    → turns k n (stands (reached h true l) m true) ls ≡ turns k n (stands (reached unread false l) (number_after m) true) ls
unfolding turns begun spent turned filled
begins zero n h l m ls = refl
begins (suc k) n h l m ls = refl

-- the turns from a line that has not ended on
by-turns : (k n : ℕ) (h : Held) (l : List ℕ) (m : ℕ) (ls : List (List ℕ)) → length l + length (given ls) + length ls < k
    → turns k n (stands (reached h false l) m true) ls ≡ counted_from m (reads n h (l ++ given ls))
unfolding turns begun empty spent turned filled handing due read later given reads onward counted_from
by-turns zero n h l m ls q = absurd (not-suc-le-zero q)
by-turns (suc k) n h [] m [] q = ap (λ (e : List Numbered). numbered m h ∷ e) (closed k n (reached h false []) m [])
by-turns (suc k) n h [] m ([] ∷ ls) q = ap (λ (e : List Numbered). numbered m h ∷ e) (closed k n (reached h false []) m ls)
by-turns (suc k) n h [] m ((c ∷ l) ∷ ls) q =
    by-turns k n h (c ∷ l) m ls (omega (arith, length-append (c ∷ l) (given ls)))
by-turns (suc k) n h (c ∷ l) m ls q =
    let r = read_on n h (c ∷ l) in
    go r.line r.ended r.left
    (λ e. by-turns k n unread r.left (number_after m) ls (omega (arith, left_less n h (c ∷ l) e)))
    (left-none n h (c ∷ l))
    (by-turns k n r.line [] m ls (omega arith))
    ∙ ap (counted_from m) (sym (reads_on n h (c ∷ l) (given ls)))
  where
    next : List ℕ → Type 0
    next left =
        turns k n (stands (reached unread false left) (number_after m) true) ls
        ≡ counted_from (number_after m) (reads n unread (left ++ given ls))

    go : (line : Held) (t : Bool) (left : List ℕ) → (t ≡ true → next left) → (t ≡ false → left ≡ [])
        → turns k n (stands (reached line false []) m true) ls ≡ counted_from m (reads n line (given ls))
        → (let s = stands (reached line t left) m true in handing s (turns k n s ls))
        ≡ counted_from m (onward n (given ls) (reached line t left))
    go line true left f g on = ap (λ (e : List Numbered). numbered m line ∷ e) (begins k n line left m ls ∙ f refl)
    go line false left f g on = ap (λ (x : List ℕ). turns k n (stands (reached line false x) m true) ls) (g refl) ∙ on

pub none_kept : (n : ℕ) → unread ≡ kept n []
unfolding kept
none_kept n = rw (take-nil {A = ℕ} n, le-ltb n 0 (omega arith))

-- an octet more of a line that was kept
more-kept : (n : ℕ) (p : List ℕ) (c : ℕ) → fed n (kept n p) c ≡ kept n (p ++ (c ∷ []))
unfolding kept fed
more-kept n p c = go (ltb (length p) n) refl
  where
    long : length (p ++ (c ∷ [])) ≡ length p + 1
    long = length-append p (c ∷ [])

    go : (t : Bool) → ltb (length p) n ≡ t → fed n (kept n p) c ≡ kept n (p ++ (c ∷ []))
    go true e =
        let h : length p < n = ltb-true (length p) n e in
        let a : take n p ≡ p = take_all n p (omega arith) in
        let b : take n (p ++ (c ∷ [])) ≡ p ++ (c ∷ []) = take_all n (p ++ (c ∷ [])) (omega (arith, long)) in
        rw (a, b, e, le-ltb n (length p) (omega arith), le-ltb n (length (p ++ (c ∷ []))) (omega (arith, long)))
    go false e =
        let h : n ≤ length p = ltb-false (length p) n e in
        let a : length (take n p) ≡ n = length-take-le n p h in
        let b : take n (p ++ (c ∷ [])) ≡ take n p = take-append-le n p (c ∷ []) h in
        rw (a, b, le-ltb n n (omega arith), lt-ltb n (length (p ++ (c ∷ []))) (omega (arith, long)))

pub by-octets : (n : ℕ) (p l : List ℕ) → reads n (kept n p) l ≡ map (kept n) (all (lines_from p l))
unfolding reads lines_from
by-octets n p [] = refl
by-octets n p (c ∷ l) = go (by-octets n [] l) (by-octets n (p ++ (c ∷ [])) l) (eqb c 10)
  where
    from : Bool → Lines
    from t = if t then lines (p ∷ (lines_from [] l).ended) (lines_from [] l).rest else lines_from (p ++ (c ∷ [])) l

    passes : List ℕ → Type 0
    passes q = reads n (kept n q) l ≡ map (kept n) (all (lines_from q l))

    go : passes [] → passes (p ++ (c ∷ [])) → (t : Bool)
        → (if t then kept n p ∷ reads n unread l else reads n (fed n (kept n p) c) l) ≡ map (kept n) (all (from t))
    go ended on true =
        ap (λ (e : List Held). kept n p ∷ e) (ap (λ (x : Held). reads n x l) (none_kept n) ∙ ended)
    go ended on false = ap (λ (x : Held). reads n x l) (more-kept n p c) ∙ on

-- a turn for each octet and each chunk of the input, and one more, hand on its lines
pub all_lines : (k n : ℕ) (ls : List (List ℕ)) → length (given ls) + length ls < k
    → turns k n at_start ls ≡ counted_from 1 (map (kept n) (all (lines_of (given ls))))
unfolding lines_of
all_lines k n ls q =
    by-turns k n unread [] 1 ls (omega (arith, q))
    ∙ ap (λ (x : Held). counted_from 1 (reads n x (given ls))) (none_kept n)
    ∙ ap (counted_from 1) (by-octets n [] (given ls))

-- lines that have been found, put together, are what they were found in
lines-from : (p l : List ℕ) → glued (lines_from p l).ended (lines_from p l).rest ≡ p ++ l
unfolding lines_from glued
lines-from p [] = sym (append-nil p)
lines-from p (c ∷ l) = go (lines-from [] l) (lines-from (p ++ (c ∷ [])) l) (eqb c 10) (eqb-true c 10)
  where
    from : Bool → Lines
    from t = if t then lines (p ∷ (lines_from [] l).ended) (lines_from [] l).rest else lines_from (p ++ (c ∷ [])) l

    back : Lines → List ℕ
    back m = glued m.ended m.rest

    go : back (lines_from [] l) ≡ l → back (lines_from (p ++ (c ∷ [])) l) ≡ p ++ (c ∷ []) ++ l → (t : Bool) → (t ≡ true → c ≡ 10)
        → glued (from t).ended (from t).rest ≡ p ++ (c ∷ l)
    go ended on true f = ap₂ (λ (x : ℕ) (y : List ℕ). p ++ (x ∷ y)) (sym (f refl)) ended
    go ended on false f = on ∙ append_snoc p c l

pub lines-back : (l : List ℕ) → glued (lines_of l).ended (lines_of l).rest ≡ l
unfolding lines_of
lines-back l = lines-from [] l

-- a line that stands behind p, and what stands behind its line feed
line-there : (p x l : List ℕ) → unfed x ≡ true
    → lines_from p (x ++ (10 ∷ l)) ≡ lines ((p ++ x) ∷ (lines_from [] l).ended) (lines_from [] l).rest
unfolding lines_from unfed
line-there p [] l h = ap (λ (y : List ℕ). lines (y ∷ (lines_from [] l).ended) (lines_from [] l).rest) (sym (append-nil p))
line-there p (c ∷ x) l h = go (line-there (p ++ (c ∷ [])) x l) (eqb c 10) h
  where
    there : List ℕ → Lines
    there y = lines (y ∷ (lines_from [] l).ended) (lines_from [] l).rest

    from : Bool → Lines
    from t =
        if t
        then lines (p ∷ (lines_from [] (x ++ (10 ∷ l))).ended) (lines_from [] (x ++ (10 ∷ l))).rest
        else lines_from (p ++ (c ∷ [])) (x ++ (10 ∷ l))

    go : (unfed x ≡ true → lines_from (p ++ (c ∷ [])) (x ++ (10 ∷ l)) ≡ there (p ++ (c ∷ []) ++ x)) → (t : Bool)
        → both (not t) (unfed x) ≡ true → from t ≡ there (p ++ (c ∷ x))
    go ih true h = absurd (false≢true h)
    go ih false h = ih h ∙ ap there (append_snoc p c x)

rest-there : (p r : List ℕ) → unfed r ≡ true → lines_from p r ≡ lines [] (p ++ r)
unfolding lines_from unfed
rest-there p [] h = ap (λ (y : List ℕ). lines [] y) (sym (append-nil p))
rest-there p (c ∷ r) h = go (rest-there (p ++ (c ∷ [])) r) (eqb c 10) h
  where
    from : Bool → Lines
    from t = if t then lines (p ∷ (lines_from [] r).ended) (lines_from [] r).rest else lines_from (p ++ (c ∷ [])) r

    go : (unfed r ≡ true → lines_from (p ++ (c ∷ [])) r ≡ lines [] (p ++ (c ∷ []) ++ r)) → (t : Bool)
        → both (not t) (unfed r) ≡ true → from t ≡ lines [] (p ++ (c ∷ r))
    go ih true h = absurd (false≢true h)
    go ih false h = ih h ∙ ap (λ (y : List ℕ). lines [] y) (append_snoc p c r)

-- whatever lines were written, a line feed behind each but the last: they are the input's lines, and no others
pub lines-there : (e : List (List ℕ)) (r : List ℕ) → all_unfed e ≡ true → unfed r ≡ true → lines_of (glued e r) ≡ lines e r
unfolding lines_of glued all_unfed
lines-there [] r h k = rest-there [] r k
lines-there (x ∷ e) r h k =
    let (one, all) : (unfed x ≡ true) × (all_unfed e ≡ true) = both-parts (unfed x) (all_unfed e) h in
    line-there [] x (glued e r) one
    ∙ ap (λ (m : Lines). lines (x ∷ m.ended) m.rest) (lines-there e r all k)
