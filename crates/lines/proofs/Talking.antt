-- Laws of a program's talk: what lines a reader still hands on, a turn of it, and what is written of them.
-- Assumes nothing.
use Rattle.std.proofs.Common.{◌≡◌, ℕ, ◌+◌, ◌-◌, ◌*◌, ◌^◌, ◌<◌, ◌≤◌, Bool, true, false, not, ◌⊎◌, List, [], ◌∷◌, ◌++◌, length, MatchBool, Option, Some, None, IfSome, sym, refl, ap, ◌∙◌, subst, inl, inr, append_assoc, append-nil, arith, length-append}
use mathlib.Core.Bool.{false≢true}
use Rattle.std.specs.Prelude.{if◌then◌else◌}
use Rattle.octets.specs.Choice.{both}
use Rattle.std.specs.Io.KnownBytes.{Appends, Consumes, IsAtEnd}
use Rattle.std.proofs.KnownBytes.{Appends-nil, Appends-trans}
use Rattle.lines.specs.Reading.{Held, unread, Reached, reached, read_on}
use Rattle.lines.specs.Answer.{bad, whole_line}
use Rattle.lines.specs.Lines.{silent, lines_of}
use Rattle.lines.specs.Passing.{Standing, stands, at_start, begun, empty, spent, turned, filled, due, Numbered, numbered, handing, counted_from, number_after}
use Rattle.lines.specs.Running.{Answering, Answered, Talk, Told, or_bad, lines_in}
use Rattle.lines.specs.Code.{Passes}
use Rattle.lines.proofs.AllLines.{reads, onward, reads_on, left_less, left-none, none_kept, by-octets}

-- the lines that are still to be handed on, where l is what the input still has
unfoldable pub coming : ℕ → Standing → List ℕ → List Numbered
coming n s l =
    if s.live
    then (let b = begun s in counted_from b.number (reads n b.at.line (b.at.left ++ l)))
    else []

-- at the start they are all lines of the input
pub coming-start : (n : ℕ) (l : List ℕ) → coming n at_start l ≡ lines_in n l
unfolding coming begun lines_of
coming-start n l =
    ap (λ (x : Held). counted_from 1 (reads n x l)) (none_kept n) ∙ ap (counted_from 1) (by-octets n [] l)

-- and behind the end of the input there are none
pub coming-none : (n : ℕ) (s : Standing) (l : List ℕ) → s.live ≡ false → coming n s l ≡ []
unfolding coming
coming-none n s l e = rw e

-- what a line that has ended leads to, or one that goes on in the input
turn-on : (n k : ℕ) (l : List ℕ) (r : Reached) → (r.ended ≡ false → r.left ≡ [])
    → (let t = stands r k true in handing t [] ++ coming n t l) ≡ counted_from k (onward n l r)
unfolding coming begun handing due onward counted_from
turn-on n k l r none = go r.line r.ended r.left none
  where
    go : (h : Held) (e : Bool) (x : List ℕ) → (e ≡ false → x ≡ [])
        → (let t = stands (reached h e x) k true in handing t [] ++ coming n t l) ≡ counted_from k (onward n l (reached h e x))
    go h true x f = refl
    go h false x f = ap (λ (y : List ℕ). counted_from k (reads n h (y ++ l))) (f refl)

begun-live : (s : Standing) → (begun s).live ≡ s.live
unfolding begun
begun-live s = go s.at.ended
  where
    go : (e : Bool) → (if e then stands (reached unread false s.at.left) (number_after s.number) s.live else s).live ≡ s.live
    go true = refl
    go false = refl

begun-left : (s : Standing) → (begun s).at.left ≡ s.at.left
unfolding begun
begun-left s = go s.at.ended
  where
    go : (e : Bool)
        → (if e then stands (reached unread false s.at.left) (number_after s.number) s.live else s).at.left ≡ s.at.left
    go true = refl
    go false = refl

empty-is : (l : List ℕ) → empty l ≡ true → l ≡ []
unfolding empty
empty-is [] e = refl
empty-is (c ∷ l) e = absurd (false≢true e)

coming-live : (n : ℕ) (s : Standing) (l : List ℕ) → s.live ≡ true
    → coming n s l ≡ (let b = begun s in counted_from b.number (reads n b.at.line (b.at.left ++ l)))
unfolding coming
coming-live n s l e =
    let b = begun s in
    ap (λ (t : Bool). if t then counted_from b.number (reads n b.at.line (b.at.left ++ l)) else []) e

-- a turn in the chunk hands on what comes first of them
coming-turned : (n : ℕ) (s : Standing) (l : List ℕ) → s.live ≡ true
    → handing (turned n s) [] ++ coming n (turned n s) l ≡ coming n s l
unfolding turned
coming-turned n s l e =
    let b = begun s in
    let r = read_on n b.at.line b.at.left in
    ap (λ (t : Bool). handing (stands r b.number t) [] ++ coming n (stands r b.number t) l) (begun-live s ∙ e)
    ∙ turn-on n b.number l r (left-none n b.at.line b.at.left)
    ∙ ap (counted_from b.number) (sym (reads_on n b.at.line b.at.left l))
    ∙ sym (coming-live n s l e)

fill-on : (n k : ℕ) (h : Held) (c l : List ℕ) → (c ≡ [] → l ≡ [])
    → (let t = stands (reached h false c) k (not (empty c)) in handing t [] ++ coming n t l) ≡ counted_from k (reads n h (c ++ l))
unfolding coming begun handing due empty counted_from reads
fill-on n k h [] l f = ap (λ (x : List ℕ). counted_from k (reads n h x)) (sym (f refl))
fill-on n k h (x ∷ c) l f = refl

-- and so does the next chunk
coming-filled : (n : ℕ) (s : Standing) (c l : List ℕ) → s.live ≡ true → spent s ≡ true → (c ≡ [] → l ≡ [])
    → handing (filled s c) [] ++ coming n (filled s c) l ≡ coming n s (c ++ l)
unfolding filled spent
coming-filled n s c l e f g =
    let b = begun s in
    let at = reached b.at.line false c in
    ap (λ (t : Bool). handing (stands at b.number (both t (not (empty c)))) [] ++ coming n (stands at b.number (both t (not (empty c)))) l)
    (begun-live s ∙ e)
    ∙ fill-on n b.number b.at.line c l g
    ∙ ap (λ (x : List ℕ). counted_from b.number (reads n b.at.line (x ++ (c ++ l)))) (sym (begun-left s ∙ empty-is s.at.left f))
    ∙ sym (coming-live n s (c ++ l) e)

-- a turn in a chunk that is not spent leaves less of it
turned-less : (n : ℕ) (s : Standing) → spent s ≡ false → length (turned n s).at.left < length s.at.left
unfolding turned spent empty
turned-less n s e =
    let b = begun s in
    subst (λ (x : List ℕ). length (turned n s).at.left < length x) (begun-left s)
    (go b.at.left (subst (λ (x : List ℕ). empty x ≡ false) (sym (begun-left s)) e) (read_on n b.at.line b.at.left)
    (left_less n b.at.line b.at.left) (left-none n b.at.line b.at.left))
  where
    go : (l : List ℕ) → empty l ≡ false → (r : Reached) → (r.ended ≡ true → length r.left < length l)
        → (r.ended ≡ false → r.left ≡ []) → length r.left < length l
    go [] e r less none = absurd (false≢true (sym e))
    go (c ∷ l) e r less none = by r.ended r.left less none
      where
        by : (t : Bool) (x : List ℕ) → (t ≡ true → length x < length (c ∷ l)) → (t ≡ false → x ≡ []) → length x < length (c ∷ l)
        by true x less none = less refl
        by false x less none = rw (none refl) (omega arith)

turned-live : (n : ℕ) (s : Standing) → (turned n s).live ≡ s.live
unfolding turned
turned-live n s = begun-live s

-- the next chunk, and whether the input goes on
filled-live : (s : Standing) (c : List ℕ) → s.live ≡ true → (filled s c).live ≡ not (empty c)
unfolding filled
filled-live s c e = ap (λ (t : Bool). both t (not (empty c))) (begun-live s ∙ e)

not-empty : (l : List ℕ) → not (empty l) ≡ true → 0 < length l
unfolding empty
not-empty [] e = absurd (false≢true e)
not-empty (c ∷ l) e = omega arith

is-empty : (l : List ℕ) → not (empty l) ≡ false → l ≡ []
unfolding empty
is-empty [] e = refl
is-empty (c ∷ l) e = absurd (false≢true (sym e))

filled-left : (s : Standing) (c : List ℕ) → (filled s c).at.left ≡ c
unfolding filled
filled-left s c = refl

some-is : (l r : List ℕ) → Some l ≡ Some r → l ≡ r
some-is l r e = cc

-- talks one behind the other are one
talk-then : {D : Type 0} (A : Answering D) (h k : List Numbered) (d f e : D) (v w : List ℕ)
    → Talk A h d v f → Talk A k f w e → Talk A (h ++ k) d (v ++ w) e
talk-then A [] k d f e v w p q =
    subst (λ o. Talk A k d (o ++ w) e) (sym p.0) (subst (λ x. Talk A k x w e) p.1 q)
talk-then A (x ∷ h) k d f e v w p q =
    let (a, b, g, o, said, on) = p in
    (a, b ++ w, g, ap (λ (y : List ℕ). y ++ w) o ∙ append_assoc a b w, said, talk-then A h k g f e b w on q)

told-then : {D : Type 0} (A : Answering D) (h k : List Numbered) (d f e : D) (a b c : Option (List ℕ))
    → Told A h d a f b → Told A k f b e c → Told A (h ++ k) d a e c
told-then A h k d f e a b c p q =
    (p.0 ++ q.0, talk-then A h k d f e p.0 q.0 p.1 q.1, Appends-trans a b c p.0 q.0 p.2 q.2)

-- nothing is told of a line that goes on
pub told-none : {D : Type 0} (A : Answering D) (s : Standing) (d : D) (c : Option (List ℕ)) → due s ≡ false → Told A (handing s []) d c d c
unfolding handing
told-none A s d c e =
    subst (λ (t : Bool). Told A (if t then numbered s.number s.at.line ∷ [] else []) d c d c) (sym e) ([], (refl, refl), Appends-nil c)

-- of a line that has ended
pub told-one : {D : Type 0} (A : Answering D) (s : Standing) (d : D) (o : List ℕ) (e : D) (c k : Option (List ℕ)) → due s ≡ true
    → Answered A (numbered s.number s.at.line) d o e → Appends c k o → Told A (handing s []) d c e k
unfolding handing
told-one A s d o e c k is said on =
    let x = numbered s.number s.at.line in
    subst (λ (t : Bool). Told A (if t then x ∷ [] else []) d c e k) (sym is)
    (o, (o, [], e, sym (append-nil o), said, (refl, refl)), on)

-- a silent line is passed over
pub passed-over : {D : Type 0} (A : Answering D) (x : Numbered) (d : D) → silent x.line.octets ≡ true → Answered A x d [] d
passed-over A x d e = rw e (refl, refl)

-- a long one is told `bad`
pub told-bad : {D : Type 0} (A : Answering D) (x : Numbered) (d : D) → silent x.line.octets ≡ false → x.line.long ≡ true
    → Answered A x d (whole_line x.number bad) d
told-bad A x d e f = rw (e, f) (refl, refl)

-- of any other the desk is asked
pub asked : {D : Type 0} (A : Answering D) (x : Numbered) (d f : D) (a : Option (List ℕ)) → silent x.line.octets ≡ false
    → x.line.long ≡ false → A d x.line.octets a f → Answered A x d (whole_line x.number (or_bad a)) f
asked A x d f a e g said = rw (e, g) (a, said, refl)

-- What holds in the midst of a talk over the input xs, which began with the desk d and the output c: after i turns the reader
-- stands at s, the input has r, the desk is e and the output k.
pub record Talking {D : Type 0} (A : Answering D) (n : ℕ) (xs : List ℕ) (d : D) (c : Option (List ℕ)) (i : ℕ) (s : Standing)
    (r : Option (List ℕ)) (e : D) (k : Option (List ℕ)) : Type 0 where
  pub left : List ℕ
  pub known : r ≡ Some left
  pub handed : List Numbered
  pub all : handed ++ coming n s left ≡ lines_in n xs
  pub told : Told A handed d c e k
  pub soon : s.live ≡ true → i + length s.at.left + 2 * length left ≤ 2 * length xs
  pub over : s.live ≡ false → left ≡ []

module _ {D : Type 0} (A : Answering D) (n : ℕ) where
  pub talk-begins : (xs : List ℕ) (d : D) (c : Option (List ℕ)) (s : Standing) → s ≡ at_start → Talking A n xs d c 0 s (Some xs) d c
  talk-begins xs d c s e = subst (λ (t : Standing). Talking A n xs d c 0 t (Some xs) d c) (sym e) (record {
    left = xs;
    known = refl;
    handed = [];
    all = coming-start n xs;
    told = ([], (refl, refl), Appends-nil c);
    soon = λ _. omega arith;
    over = λ h. absurd (false≢true (sym h));
  })

  module _ (xs : List ℕ) (d : D) (c : Option (List ℕ)) (i : ℕ) (s : Standing) (e f : D) (k m : Option (List ℕ)) (live : s.live ≡ true) where
    fills : (l r p : List ℕ) → spent s ≡ true → l ≡ p ++ r → (p ≡ [] → r ≡ []) → Told A (handing (filled s p) []) e k f m
        → Talking A n xs d c i s (Some l) e k → Talking A n xs d c (i + 1) (filled s p) (Some r) f m
    unfolding filled
    fills l r p is cut end told on =
        let t = filled s p in
        let left : on.left ≡ p ++ r = sym (some-is l on.left on.known) ∙ cut in
        let ahead = on.soon live in
        let long : length on.left ≡ length p + length r = ap length left ∙ length-append p r in
        record {
          left = r;
          known = refl;
          handed = on.handed ++ handing t [];
          all =
              append_assoc on.handed (handing t []) (coming n t r)
              ∙ ap (λ (x : List Numbered). on.handed ++ x)
              (coming-filled n s p r live is end ∙ ap (coming n s) (sym left))
              ∙ on.all;
          told = told-then A on.handed (handing t []) d e f c k m on.told told;
          soon = λ h. omega (arith, ahead, long, not-empty p (sym (filled-live s p live) ∙ h));
          over = λ h. end (is-empty p (sym (filled-live s p live) ∙ h));
        }

    turns : (r : Option (List ℕ)) → spent s ≡ false → Told A (handing (turned n s) []) e k f m
        → Talking A n xs d c i s r e k → Talking A n xs d c (i + 1) (turned n s) r f m
    turns r is told on =
        let t = turned n s in
        let ahead = on.soon live in
        record {
          left = on.left;
          known = on.known;
          handed = on.handed ++ handing t [];
          all =
              append_assoc on.handed (handing t []) (coming n t on.left)
              ∙ ap (λ (x : List Numbered). on.handed ++ x) (coming-turned n s on.left live)
              ∙ on.all;
          told = told-then A on.handed (handing t []) d e f c k m on.told told;
          soon = λ h. omega (arith, ahead, turned-less n s is);
          over = λ h. absurd (false≢true (sym h ∙ turned-live n s ∙ live));
        }

    -- a turn, and what is answered behind it
    pub talk-on : (t : Standing) (r q : Option (List ℕ)) → Passes n s r t q → Told A (handing t []) e k f m
        → Talking A n xs d c i s r e k → Talking A n xs d c (i + 1) t q f m
    talk-on t r q passes told on = go (spent s) refl passes
      where
        fill : (x : Option (List ℕ)) (l p : List ℕ) → Consumes (Some l) x p → (p ≡ [] → IsAtEnd x) → spent s ≡ true
            → Told A (handing (filled s p) []) e k f m → Talking A n xs d c i s (Some l) e k
            → Talking A n xs d c (i + 1) (filled s p) x f m
        fill None l p cut end is told on = absurd cut
        fill (Some x) l p cut end is told on = fills l x p is cut end told on

        go : (b : Bool) → spent s ≡ b
            → MatchBool b ((l : List ℕ) × Consumes r q l × (l ≡ [] → IsAtEnd q) × (t ≡ filled s l)) ((q ≡ r) × (t ≡ turned n s))
            → Talking A n xs d c (i + 1) t q f m
        go true is (p, cut, end, at) =
            subst (λ (y : Standing). Talking A n xs d c (i + 1) y q f m) (sym at)
            (fill q on.left p (subst (λ (y : Option (List ℕ)). Consumes y q p) on.known cut) end is
            (subst (λ (y : Standing). Told A (handing y []) e k f m) at told)
            (subst (λ (y : Option (List ℕ)). Talking A n xs d c i s y e k) on.known on))
        go false is (same, at) =
            subst (λ (y : Standing). Talking A n xs d c (i + 1) y q f m) (sym at)
            (subst (λ (y : Option (List ℕ)). Talking A n xs d c (i + 1) (turned n s) y f m) (sym same)
            (turns r is (subst (λ (y : Standing). Told A (handing y []) e k f m) at told) on))

  -- where the input's octets are known the talk begins, and goes on
  pub begins : (r : Option (List ℕ)) (d : D) (c : Option (List ℕ)) (s : Standing) → s ≡ at_start
      → IfSome r (λ xs. Talking A n xs d c 0 s r d c)
  begins None d c s e = tt
  begins (Some xs) d c s e = talk-begins xs d c s e

  pub goes_on : (known : Option (List ℕ)) (d : D) (c : Option (List ℕ)) (i : ℕ) (s t : Standing) (r q : Option (List ℕ)) (e f : D)
      (k m : Option (List ℕ)) (room : ℕ) → s.live ≡ true → room ≡ n → Passes room s r t q → Told A (handing t []) e k f m
      → IfSome known (λ xs. Talking A n xs d c i s r e k) → IfSome known (λ xs. Talking A n xs d c (i + 1) t q f m)
  goes_on None d c i s t r q e f k m room live same passes told on = on
  goes_on (Some xs) d c i s t r q e f k m room live same passes told on =
      talk-on xs d c i s e f k m live t r q (subst (λ (x : ℕ). Passes x s r t q) same passes) told on

  module _ (xs : List ℕ) (d : D) (c : Option (List ℕ)) (i : ℕ) (s : Standing) (r : Option (List ℕ)) (e : D) (k : Option (List ℕ)) where
    -- behind the end of the input all lines were told
    talk-over : s.live ≡ false → Talking A n xs d c i s r e k → Told A (lines_in n xs) d c e k
    talk-over over on =
        let all : on.handed ≡ lines_in n xs =
        sym (append-nil on.handed)
        ∙ ap (λ (x : List Numbered). on.handed ++ x) (sym (coming-none n s on.left over))
        ∙ on.all in
        subst (λ (x : List Numbered). Told A x d c e k) all on.told

    -- after so many turns the input has ended
    talk-late : 2 * length xs < i → Talking A n xs d c i s r e k → s.live ≡ false
    talk-late late on = go s.live on.soon
      where
        go : (t : Bool) → (t ≡ true → i + length s.at.left + 2 * length on.left ≤ 2 * length xs) → t ≡ false
        go true soon = absurd (omega (arith, soon refl))
        go false soon = refl

  -- so all lines are told, where the input has ended or so many turns are over
  pub tells_all : (known : Option (List ℕ)) (d : D) (c : Option (List ℕ)) (i : ℕ) (s : Standing) (r : Option (List ℕ)) (e : D)
      (k : Option (List ℕ)) → (s.live ≡ false) ⊎ (2 ^ 64 - 1 ≤ i) → IfSome known (λ xs. Talking A n xs d c i s r e k)
      → IfSome known (λ xs. length xs < 2 ^ 63 → Told A (lines_in n xs) d c e k)
  tells_all None d c i s r e k over on = on
  tells_all (Some xs) d c i s r e k (inl over) on = λ few. talk-over xs d c i s r e k over on
  tells_all (Some xs) d c i s r e k (inr late) on = λ few.
      talk-over xs d c i s r e k (talk-late xs d c i s r e k (omega (arith, late, few)) on) on
