-- Laws of octets that are being written: a text laid behind them, and a whole line, which has room.
-- Assumes nothing.
use Rattle.std.proofs.Common.{◌≡◌, ℕ, zero, suc, ◌+◌, ◌/◌, ◌<◌, ◌≤◌, Bool, true, false, ltb, leb, List, [], ◌∷◌, ◌++◌, length, take, sym, refl, ap, ◌∙◌, append-nil, arith, length-append, length-take-le, take_all, le-leb, leb-false, leb-true}
use lib.Seq.{take-paste, take-length}
use borrow.Author.Tests.{lt-leb}
use Rattle.std.specs.Prelude.{if◌then◌else◌}
use Rattle.octets.specs.Lists.{pasted}
use Rattle.text.specs.Cursor.{ahead}
use Rattle.text.specs.Decimal.{decimal, decimal_in}
use Rattle.lines.specs.Answer.{room, more, whole_line}

pub more-fits : (n : ℕ) (l s : List ℕ) → length l + length s ≤ n → more n l s ≡ l ++ s
unfolding more
more-fits n l s h = rw (le-leb (length l + length s) n h)

pub more-not : (n : ℕ) (l s : List ℕ) → n < length l + length s → more n l s ≡ l
unfolding more
more-not n l s h = rw (lt-leb (length l + length s) n h)

-- behind a full output
beyond : (o s : List ℕ) → o ≡ more (length o) o s
beyond o [] = sym (more-fits (length o) o [] (omega arith) ∙ append-nil o)
beyond o (c ∷ s) = sym (more-not (length o) o (c ∷ s) (omega arith))

-- the first i octets of o, with s laid behind them
module _ (o : List ℕ) (i : ℕ) (s : List ℕ) where
  -- where there is room
  laid-fits : i + length s ≤ length o → take (ahead o i s) (pasted o i s) ≡ more (length o) (take i o) s
  unfolding ahead
  laid-fits h =
      let e : length (take i o) ≡ i = length-take-le i o (omega arith) in
      rw (le-leb (i + length s) (length o) h)
      (take-paste o i s (length s) (omega arith) (omega arith) ∙ ap (λ (x : List ℕ). take i o ++ x) (take-length s)
      ∙ sym (more-fits (length o) (take i o) s (rw e h)))

  -- where there is none, or the place is not in the output
  laid-not : length o < i + length s → take (ahead o i s) (pasted o i s) ≡ more (length o) (take i o) s
  unfolding ahead
  laid-not h = rw (lt-leb (i + length s) (length o) h) (go (leb i (length o)) refl)
    where
      go : (t : Bool) → leb i (length o) ≡ t → take i o ≡ more (length o) (take i o) s
      go true e =
          let k : i ≤ length o = leb-true i (length o) e in
          let m : length (take i o) ≡ i = length-take-le i o k in
          sym (more-not (length o) (take i o) s (rw m h))
      go false e =
          let k : length o ≤ i = omega (arith, leb-false i (length o) e) in
          rw (take_all i o k) (beyond o s)

  laid_both : take (ahead o i s) (pasted o i s) ≡ more (length o) (take i o) s
  laid_both = go (leb (i + length s) (length o)) refl
    where
      go : (t : Bool) → leb (i + length s) (length o) ≡ t → take (ahead o i s) (pasted o i s) ≡ more (length o) (take i o) s
      go true e = laid-fits (leb-true (i + length s) (length o) e)
      go false e = laid-not (leb-false (i + length s) (length o) e)

-- so of what the code leaves, of an output of n octets
pub laid : (o : List ℕ) (i : ℕ) (s : List ℕ) {l : List ℕ} {r n : ℕ} → (l ≡ pasted o i s) × (r ≡ ahead o i s) → length o ≡ n
    → take r l ≡ more n (take i o) s
laid o i s put g = rw (put.0, put.1, ← g) (laid_both o i s)

-- a number of 20 digits at most
pub length-decimal : (k n : ℕ) → length (decimal_in k n) ≤ k
unfolding decimal_in
length-decimal zero n = omega arith
length-decimal (suc k) n = go (length-decimal k (n / 10)) _ _ (ltb n 10)
  where
    go : length (decimal_in k (n / 10)) ≤ k → (c d : ℕ) (t : Bool)
        → length (if t then c ∷ [] else decimal_in k (n / 10) ++ (d ∷ [])) ≤ suc k
    go h c d true = omega arith
    go h c d false = omega (arith, length-append (decimal_in k (n / 10)) (d ∷ []))

digits : (k : ℕ) → length (decimal k) ≤ 20
unfolding decimal
digits k = length-decimal 20 k

-- what a line has room for: number, tab, answer, line feed
abbrev pub whole : ℕ
whole = room + 22

-- number, tab, answer and line feed one behind the other, in room enough
pub whole-fits : (k : ℕ) (l : List ℕ) → length l ≤ room
    → more whole (more whole (more whole (more whole [] (decimal k)) (9 ∷ [])) l) (10 ∷ []) ≡ whole_line k l
unfolding whole_line
whole-fits k l h = go (decimal k) (digits k)
  where
    go : (d : List ℕ) → length d ≤ 20
        → more whole (more whole (more whole (more whole [] d) (9 ∷ [])) l) (10 ∷ []) ≡ d ++ (9 ∷ []) ++ l ++ (10 ∷ [])
    go d e =
        let a : length (d ++ (9 ∷ [])) ≡ length d + 1 = length-append d (9 ∷ []) in
        let b : length (d ++ (9 ∷ []) ++ l) ≡ length d + 1 + length l = length-append (d ++ (9 ∷ [])) l ∙ ap (λ m. m + length l) a in
        rw (
          more-fits whole [] d (omega arith),
          more-fits whole d (9 ∷ []) (omega arith),
          more-fits whole (d ++ (9 ∷ [])) l (omega arith),
          more-fits whole (d ++ (9 ∷ []) ++ l) (10 ∷ []) (omega arith),
        )
