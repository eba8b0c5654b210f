-- Laws of the reader's functions: what is left of a chunk, by its length, and a turn behind the begun line.
-- Assumes nothing.
use Rattle.std.proofs.Common.{◌≡◌, ℕ, zero, suc, Bool, eqb, leb, List, [], ◌∷◌, length, drop, sym, refl, ap, ◌∙◌, arith, ne_eqb, le-leb}
use borrow.Author.Tests.{lt-leb}
use Rattle.lines.proofs.Fed.{suc-leb}
use Rattle.lines.specs.Reading.{Held, Reached, reached, read_on, stopped}
use Rattle.lines.specs.declared.reading.Stop.{Stop}
use Rattle.lines.specs.Passing.{Standing, stands, empty, begun, turned}

pub empty_none : (l : List ℕ) → eqb (length l) 0 ≡ empty l
unfolding empty
empty_none [] = refl
empty_none (c ∷ l) = ne_eqb (suc (length l)) 0 (λ e. omega (arith, e))

pub empty_left : (l : List ℕ) (i : ℕ) → leb (length l) i ≡ empty (drop i l)
unfolding empty
empty_left [] zero = refl
empty_left [] (suc i) = le-leb 0 (suc i) (omega arith)
empty_left (c ∷ l) zero = lt-leb (suc (length l)) 0 (omega arith)
empty_left (c ∷ l) (suc i) = suc-leb (length l) i ∙ empty_left l i

-- the begun line, read on in the chunk m, is the turn; l is m as the reading got it
pub turn_on : (n : ℕ) (s : Standing) (r : Stop) (b : List ℕ) (i : ℕ) {h : Held} {e : Bool} {k : ℕ} {t : Bool} {l m : List ℕ} → l ≡ m
    → stopped r l b ≡ read_on n h (drop i l) → stands (reached h e (drop i m)) k t ≡ begun s → stands (stopped r m b) k t ≡ turned n s
unfolding turned
turn_on n s r b i {h = h} {k = k} {t = t} cut read begun-there =
    let on = ap (λ (x : List ℕ). stopped r x b) (sym cut) ∙ read ∙ ap (λ (x : List ℕ). read_on n h (drop i x)) cut in
    ap (λ (x : Reached). stands x k t) on
    ∙ ap (λ (x : Standing). stands (read_on n x.at.line x.at.left) x.number x.live) begun-there
