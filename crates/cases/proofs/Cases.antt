-- M1 to M12 of document 01: the one claim.
-- Assumes nothing.
use Rattle.std.proofs.Common.{Option, Some, None}
use mathlib.Core.Path.{◌≡◌, refl, sym, ap, ◌∙◌}
use mathlib.Core.Logic.{⊎_elim}
use mathlib.Core.Bool.{Bool, true, false}
use mathlib.Core.List.{List, [], ◌∷◌}
use Prim.Native.Nat.{ℕ, zero, suc, ◌+◌, ◌-◌, ◌*◌, ◌/◌, ◌<◌, ◌≤◌, min}
use native.Mathlib.Nat.{eq-or-lt_of_le}
use native.Mathlib.Omega.{arith}
use lib.Dec.{eqb, ltb}
use lib.ListN.{length, get_or, set, length-set, replicate}
use lib.Seq.{get_or-set_same, get_or-set_other}
use borrow.Author.Tests.{eq-eqb, ne_eqb, lt-ltb, le-ltb, lt-leb, ltb-true, ltb-false, eqb-true}
use Rattle.settings.specs.Settings.{ours, longest, top}
use Rattle.octets.proofs.Choices.{choose, both-parts}
use Rattle.octets.specs.Addresses.{no_address}
use Rattle.octets.specs.Keys.{Key}
use Rattle.octets.specs.Least.{number_at}
use Rattle.octets.specs.Lists.{at}
use Rattle.cipher.proofs.Cases.{m2, m3, m4, m5, m6, m7, m8}
use Rattle.frames.specs.declared.Layer.TheVariants.{Network}
use Rattle.frames.specs.declared.Secured.{Secured}
use Rattle.frames.specs.Security.{identifier_of, extended_of, nonce_of, with_level, wire_control, aux_length, sender_of}
use Rattle.frames.specs.Network.{network_keyed}
use Rattle.frames.specs.Reading.{refused, secured, announced, read_header, read_secured, reading}
use Rattle.frames.proofs.Controls.{aux-numbered}
use Rattle.answers.specs.Numbers.{turned_down}
use Rattle.board.specs.declared.Board.{Board}
use Rattle.board.specs.declared.Link.{Link}
use Rattle.board.specs.Places.{first_at}
use Rattle.board.specs.Rows.{Lists, lists, lists_fit, half, find_row}
use Rattle.board.specs.State.{link_at, pairs}
use Rattle.board.specs.Requests.{link_of}
use Rattle.board.proofs.Found.{FoundAt, first_found, first-none, row-place}
use Rattle.board.proofs.Halves.{lists-long}
use Rattle.seals.proofs.Opened.{message-length, sound-tells}
use Rattle.seals.proofs.Fairly.{ours-fair}
use Rattle.network.specs.Opening.{Lent, floor_at, floor_of, or_free, row_for, admitted, opened_under}
use Rattle.network.proofs.Admission.{read-sound, row-there}
use Rattle.cases.specs.Cases.{M1, Trial, PassesRow, floor_in, under_key, at_row, PassesEntry, at_entry, AtBoth, Seven, M9, Last, M10, Top, M11}
use Rattle.cases.specs.Cases.{Eight, Empty, M12, Cases}
use Rattle.aps.specs.Opening as aps

m1 : M1
unfolding nonce_of with_level wire_control
m1 = refl

-- ---- M9 to M11

-- what opening does with counter and floor, of one trial
record Judged (t : Trial) : Type 0 where
  pub at_top : t.counter ≡ top → t.answer ≡ turned_down 7
  pub stale : (t.counter ≡ top → ⊥) → t.counter < t.floor → t.answer ≡ turned_down 8
  pub raises : (t.counter ≡ top → ⊥) → t.floor ≤ t.counter → t.Passes → t.leaves ≡ t.counter + 1

-- the first place that passes
first-is : (p : ℕ → Bool) (n i r : ℕ) → i ≤ r → r < i + n → p r ≡ true → ((k : ℕ) → i ≤ k → k < r → p k ≡ false) → first_at p i n ≡ Some r
first-is p n i r low high t before = go (first_at p i n) refl
  where
    clash : {A : Type 0} (k : ℕ) → p k ≡ true → p k ≡ false → A
    clash k x y = let never : ◌≡◌ {A = ℕ} 0 1 = cc in absurd (omega arith)

    same : (q : ℕ) → FoundAt p i n q → q ≡ r
    same q w =
        choose (λ _. q ≡ r) (ltb q r) true false (λ b. clash q w.passes (before q w.low (ltb-true q r b)))
        (λ b. ⊎_elim (λ (e : r ≡ q). sym e) (λ (l : r < q). clash r t (w.before r low l)) (eq-or-lt_of_le (ltb-false q r b)))

    go : (x : Option ℕ) → first_at p i n ≡ x → first_at p i n ≡ Some r
    go (Some q) e = e ∙ ap Some (same q (first_found p n i q e))
    go None e = clash r t (first-none p n i e r low high)

-- row r is the one that sender a has in slot i, or gets there
module _ (m : ℕ) (w : Lists) (i a r : ℕ) (e : row_for m w i a ≡ Some r) where
  abbrev addrs : List ℕ
  addrs = w.addrs

  -- the slot's first row, and how many of its rows the list has
  abbrev first : ℕ
  first = i * m

  abbrev rows : ℕ
  rows = min m (length addrs - first)

  abbrev has : List ℕ → ℕ → ℕ → Bool
  has l x k = eqb (get_or l k 0) x

  -- where address x is first found among the slot's rows of l
  abbrev row_in : List ℕ → ℕ → Option ℕ
  row_in l x = find_row l first m x

  -- the addresses once the row has the sender's
  abbrev left : List ℕ
  left = set addrs r a

  -- the row is then the lowest that has its address
  lowest : (x : ℕ) → row_in addrs x ≡ Some r → ((k : ℕ) → first ≤ k → k < r → has addrs a k ≡ false) → row_in left a ≡ Some r
  unfolding find_row
  lowest x d none =
      let f = first_found (has addrs x) rows first r d in
      ap (λ (n : ℕ). first_at (has left a) first (min m (n - first))) (length-set addrs r a)
      ∙ first-is (has left a) rows first r f.low f.high
      (eq-eqb _ _ (get_or-set_same addrs r a 0 (row-place addrs first m x r d)))
      (λ k b c. ap (λ (y : ℕ). eqb y a) (get_or-set_other addrs r k a 0 (λ q. omega arith)) ∙ none k b c)

  heard : row_in left a ≡ Some r
  unfolding row_for find_row
  heard = go (row_in addrs a) refl e
    where
      go : (x : Option ℕ) → row_in addrs a ≡ x → or_free m w i x ≡ Some r → row_in left a ≡ Some r
      go (Some q) d u = lowest a (d ∙ u) (first_found (has addrs a) rows first r (d ∙ u)).before
      go None d u =
          let high = (first_found (has addrs 0) rows first r u).high in
          lowest 0 u (λ k b c. first-none (has addrs a) rows first d k b (omega arith))

-- the floor that a sender finds behind its row's change
left-floor : (w : Lists) (i a r v : ℕ) → row_for (half w) w i a ≡ Some r → lists_fit w ≡ true
    → floor_in (lists (set w.addrs r a) (set w.floors r v)) i a ≡ v
unfolding floor_of
left-floor w i a r v e f =
    let t = lists-long w f in
    let there : r < length w.floors = omega (arith, t.0, t.1, row-there (half w) w i a r e) in
    ap (λ (n : ℕ). floor_of (n / 2) (lists (set w.addrs r a) (set w.floors r v)) i a) (length-set w.addrs r a)
    ∙ ap (floor_at (set w.floors r v)) (heard (half w) w i a r e) ∙ get_or-set_same w.floors r v 0 there

row-raises : (k : Key) (f : List ℕ) (s : Secured) (w : Lent) (i : ℕ) → (s.counter ≡ top → ⊥)
    → floor_in w.lists i s.sender ≤ s.counter → PassesRow k f s w.lists i
    → floor_in (under_key k f s w i).leaves.lists i s.sender ≡ s.counter + 1
unfolding opened_under admitted
row-raises k f s w i n l p =
    simp (ne_eqb _ _ n, le-ltb _ _ l, p.tag, p.found)
    (left-floor w.lists i s.sender p.row (s.counter + 1) p.found p.lists)

judged-row : (k : Key) (f : List ℕ) (s : Secured) (w : Lent) (i : ℕ) → Judged (at_row k f s w i)
unfolding opened_under
judged-row k f s w i =
    record {
      at_top = λ c. simp (eq-eqb _ _ c);
      stale = λ n l. simp (ne_eqb _ _ n, lt-ltb _ _ l);
      raises = row-raises k f s w i;
    }

-- the entry that was found is one that the list has: past its end nothing is present
entry-there : (b : Board) (a i : ℕ) → link_of b.links a ≡ Some i → i < length b.links
unfolding link_of pairs
entry-there b a i e = go b.links i (first_found (λ x. pairs (link_at b.links x) a) 8 0 i e).passes
  where
    go : (l : List Link) (j : ℕ) → pairs (link_at l j) a ≡ true → j < length l
    go [] j t = let never : ◌≡◌ {A = ℕ} 0 1 = cc in absurd (omega arith)
    go (x ∷ l) zero t = omega arith
    go (x ∷ l) (suc j) t = let h = go l j t in omega arith

entry-raises : (b : Board) (f : List ℕ) (s : Secured) (o : List ℕ) (i : ℕ) → (s.counter ≡ top → ⊥)
    → (link_at b.links i).floor ≤ s.counter → PassesEntry b f s i
    → (link_at (aps.opened_under ours b f s o i).board.links i).floor ≡ s.counter + 1
unfolding aps.opened_under aps.admitted
entry-raises b f s o i n l p =
    simp (ne_eqb _ _ n, le-ltb _ _ l, p.tag)
    (ap (λ (x : Link). x.floor) (get_or-set_same b.links i _ _ (entry-there b s.sender i p.entry)))

judged-entry : (b : Board) (f : List ℕ) (s : Secured) (o : List ℕ) (i : ℕ) → Judged (at_entry b f s o i)
unfolding aps.opened_under
judged-entry b f s o i =
    record {
      at_top = λ c. simp (eq-eqb _ _ c);
      stale = λ n l. simp (ne_eqb _ _ n, lt-ltb _ _ l);
      raises = entry-raises b f s o i;
    }

-- what follows of every trial holds at both layers
at_both : (P : Trial → Type 0) → ((t : Trial) → Judged t → P t) → AtBoth P
at_both P h = (
  λ k f s w i. h (at_row k f s w i) (judged-row k f s w i),
  λ b f s o i. h (at_entry b f s o i) (judged-entry b f s o i),
)

m9 : M9
m9 = at_both Seven seven
  where
    seven : (t : Trial) → Judged t → Seven t
    seven t j e = (
      λ c. j.stale (λ u. omega arith) (omega arith),
      λ c p. j.raises (λ u. omega arith) (omega arith) p ∙ omega arith,
    )

m10 : M10
m10 = at_both Last last
  where
    last : (t : Trial) → Judged t → Last t
    last t j c l p = j.raises (λ u. omega arith) (omega arith) p ∙ omega arith

m11 : M11
m11 = at_both Top λ t j. j.at_top

-- ---- M12

module _ (f : List ℕ) (e : Eight f) where
  extended : extended_of (at f 8) ≡ 1
  unfolding network_keyed
  extended = eqb-true _ _ (both-parts (eqb (identifier_of (at f 8)) 1) (eqb (extended_of (at f 8)) 1) e.suited).1

  aux-of : aux_length (at f 8) ≡ 14
  unfolding network_keyed
  aux-of =
      let n = (both-parts (eqb (identifier_of (at f 8)) 1) (eqb (extended_of (at f 8)) 1) e.suited).0 in
      omega (arith, aux-numbered (at f 8) (eqb-true _ _ n), extended)

  cut_short : length f ≡ 25 → reading ours Network f 0 ≡ refused 3
  unfolding reading read_header read_secured
  cut_short l =
      let two : 2 ≤ length f = omega arith in
      let past : 8 < length f = omega arith in
      let cut : length f < 8 + aux_length (at f 8) + 4 = omega (arith, aux-of) in
      simp (le-ltb _ _ two, e.formed, e.marked, e.header, lt-leb _ _ past, e.suited, lt-ltb _ _ cut)

  module _ (l : length f ≡ 26) (someone : no_address (number_at 8 f 13) ≡ false) where
    sender-of : no_address (sender_of f 8 0) ≡ false
    unfolding sender_of
    sender-of = simp (eq-eqb _ _ extended) someone

    reads_so : reading ours Network f 0 ≡ secured (announced f 8 0)
    unfolding reading read_header read_secured
    reads_so =
        let two : 2 ≤ length f = omega arith in
        let past : 8 < length f = omega arith in
        let whole : 8 + aux_length (at f 8) + 4 ≤ length f = omega (arith, aux-of) in
        simp (le-ltb _ _ two, e.formed, e.marked, e.header, lt-leb _ _ past, e.suited, le-ltb _ _ whole, sender-of)

    bare-so : length f ≡ 8 + aux_length (at f 8) + 4
    bare-so = omega (arith, aux-of)

    none_left : (m : List ℕ) → length m ≡ 0 → m ≡ []
    none_left [] n = refl
    none_left (x ∷ m) n = absurd (omega arith)

    empty-so : Empty f (announced f 8 0)
    unfolding announced
    empty-so =
        record {
          reads = reads_so;
          bare = bare-so;
          opens = λ k m v. let t = sound-tells ours f _ (read-sound ours f _ reads_so (omega arith)) in
              none_left m (message-length ours ours-fair k Network f _ (replicate longest 0) t (omega arith) m v ∙ omega (arith, aux-of));
        }

m12 : M12
m12 f e = (cut_short f e, empty-so f e)

-- the one claim
pub cases-hold : Cases
cases-hold = (m1, m2, m3, m4, m5, m6, m7, m8, m9, m10, m11, m12)
