-- Demand 3, the second statement: whether a secured frame is opened is what calls and answers tell.
-- Assumes nothing.
use Rattle.std.proofs.Common.{Option, Some, None}
use mathlib.Core.Path.{◌≡◌, refl, sym, ap, ap₂, ◌∙◌}
use mathlib.Core.Bool.{Bool, true, false, not}
use mathlib.Core.List.{List, [], ◌∷◌}
use Prim.Native.Nat.{ℕ, ◌+◌, ◌*◌, ◌/◌, ◌<◌, ◌^◌}
use native.Mathlib.Omega.{arith}
use lib.Dec.{eqb, leb, ltb}
use lib.ListN.{length}
use borrow.Author.Tests.{eq-eqb, eqb-true, eqb-false, lt-ltb, le-ltb, le-leb, lt-leb, ltb-true, ltb-false}
use Rattle.octets.specs.Keys.{Key, the_key}
use Rattle.settings.specs.Settings.{Settings, longest, longest_aps, top}
use Rattle.octets.proofs.Choices.{both_true}
use Rattle.octets.proofs.Numbers.{number_lt}
use Rattle.std.specs.Prelude.{if◌then◌else◌}
use Rattle.octets.specs.Choice.{both}
use Rattle.octets.specs.Lists.{Octets}
use Rattle.history.specs.Calls.{opening}
use Rattle.history.specs.Calls.{refuses}
use Rattle.history.specs.Deeds.{log}
use Rattle.history.specs.Events.{Holder, slot, link, nowhere, none, key, HeardFrame, Event, keyed, forgot, heard, sent, lost, same, key_in, holder_at, heard_in, is_from, senders}
use Rattle.history.specs.Story.{story}
use Rattle.history.specs.Statement.{above_all, room, passes_under, passes_read, passes, tells_key, Rightly, Second}
use Rattle.history.specs.Running.{Held, by_network, by_frame, step, run, replies}
use Rattle.history.specs.Calls as calls
use Rattle.history.proofs.Searches.{not-twice}
use Rattle.history.proofs.Counters.{bound, counters, above-bound, names, from-names, senders-names, member}
use Rattle.history.proofs.Rows.{there}
use Rattle.history.proofs.Senders.{row-there, room-told}
use Rattle.history.proofs.Slots.{found-key}
use Rattle.history.proofs.Links.{Tells}
use Rattle.network.proofs.Ways as network_ways
use Rattle.aps.proofs.Ways as aps_ways
use Rattle.history.proofs.Stands.{given-none, Stands, sender-some, half_is, slot-for, stands}
use Rattle.cipher.specs.Ccm.{Verdict, valid, invalid}
use Rattle.frames.specs.declared.Layer.{Layer}
use Rattle.frames.specs.declared.Layer.TheVariants.{Network, Aps}
use Rattle.frames.specs.declared.Secured.{Secured}
use Rattle.frames.specs.Security.{counter_of}
use Rattle.frames.specs.Reading.{Reading, refused, plain, secured, announced, reading}
use Rattle.frames.proofs.Found.{secured-frame}
use Rattle.board.specs.declared.Board.{Board}
use Rattle.board.specs.Rows.{legal, lists_fit, half}
use Rattle.board.specs.State.{slot_at, link_at}
use Rattle.board.specs.Sending.{Framed}
use Rattle.board.specs.Requests.{slot_of, link_of}
use Rattle.board.proofs.Found.{slot-place}
use Rattle.board.proofs.Halves.{legal-twice}
use Rattle.seals.specs.Sealing.{message_of, is_valid, genuine}
use Rattle.network.specs.Opening.{Lent, floor_at, floor_of, row_for}
use Rattle.aps.specs.Opening.{key_named}
use Rattle.network.specs.Opening as network
use Rattle.aps.specs.Opening as aps

-- ---- tests

leb-ltb : (a b : ℕ) → leb a b ≡ not (ltb b a)
leb-ltb a b = go (ltb b a) refl
  where
    go : (t : Bool) → ltb b a ≡ t → leb a b ≡ not t
    go true e = lt-leb a b (ltb-true b a e)
    go false e = le-leb a b (ltb-false b a e)

-- below the top is not the top, of a number of 32 bits
below_top : (n : ℕ) → n < 2 ^ 32 → ltb n top ≡ not (eqb n top)
below_top n h = go (eqb n top) refl
  where
    go : (t : Bool) → eqb n top ≡ t → ltb n top ≡ not t
    go true e = le-ltb n top (omega (arith, eqb-true n top e))
    go false e = lt-ltb n top (omega (arith, eqb-false n top e))

-- not below a floor that is the least counter above all that were opened
above_floor : (a c n : ℕ) (l : List HeardFrame) → n ≡ bound (counters a l) → not (ltb c n) ≡ above_all a c l
above_floor a c n l e = ap (λ (k : ℕ). not (ltb c k)) e ∙ sym (above-bound a c l ∙ leb-ltb (bound (counters a l)) c)

-- room, by names
room-names : (m a : ℕ) (l : List HeardFrame)
    → (if member a (names l) then true else ltb (length (names l)) m) ≡ (if is_from a l then true else ltb (senders l) m)
room-names m a l = ap₂ (λ (t : Bool) (n : ℕ). if t then true else ltb n m) (sym (from-names a l)) (sym (senders-names l))

pub plain-not : (n : ℕ) (s : Secured) → plain n ≡ secured s → ⊥
plain-not n s e = let never : ◌≡◌ {A = ℕ} 0 1 = cc in absurd (omega arith)

plain-refused : (n k : ℕ) → plain n ≡ refused k → ⊥
plain-refused n k e = let never : ◌≡◌ {A = ℕ} 0 1 = cc in absurd (omega arith)

-- two refusals in a row, and what follows
two-checks : {A : Type 0} (T : A → Bool) (t u : Bool) (x y v : A) → T x ≡ false → T y ≡ false
    → T (if t then x else (if u then y else v)) ≡ both (not t) (both (not u) (T v))
two-checks T true u x y v p q = p
two-checks T false true x y v p q = q
two-checks T false false x y v p q = refl

-- ---- what a frame's octets tell

counter-low : (z : Settings) (l : Layer) (f : List ℕ) (g : ℕ) (s : Secured) → Octets f → reading z l f g ≡ secured s → s.counter < 2 ^ 32
unfolding announced counter_of
counter-low z Network f g s o e =
    let w = secured-frame z Network f g s e in
    rw (ap (λ (x : Secured). x.counter) w.fields) (number_lt 4 f (s.header + 1) o)
counter-low z Aps f g s o e =
    let w = secured-frame z Aps f g s e in
    rw (ap (λ (x : Secured). x.counter) w.fields) (number_lt 4 f (s.header + 1) o)

-- ---- nothing stands nowhere

same-nowhere : (y : Holder) → same y nowhere ≡ false
same-nowhere (slot i) = refl
same-nowhere (link a) = refl
same-nowhere nowhere = refl

pub key-nowhere : (h : List Event) → key_in h nowhere ≡ none
key-nowhere [] = refl
key-nowhere (keyed y k ∷ h) = rw (same-nowhere y) (key-nowhere h)
key-nowhere (forgot y a ∷ h) = key-nowhere h
key-nowhere (heard y r ∷ h) = key-nowhere h
key-nowhere (sent s ∷ h) = key-nowhere h
key-nowhere (lost ∷ h) = refl

module _ (z : Settings) (m : ℕ) (fit : legal (2 * m) ≡ true) (x : Held) (h : List Event) (w : Stands m x h) (f : List ℕ) (g : ℕ)
    (o : List ℕ) (octets : Octets f) where
  abbrev b : Board
  b = x.board

  abbrev lw : Lent
  lw = record { lists = x.lists; out = o }

  -- ---- a network frame

  abbrev N : network.Opening → Bool
  N r = not (refuses (calls.gave r.answer r.leaves.out))

  fits : lists_fit x.lists ≡ true
  unfolding lists_fit
  fits = rw (w.rows.addrs, w.rows.floors, fit, eq-eqb (2 * m) (2 * m) refl)

  module _ (s : Secured) (e : reading z Network f 0 ≡ secured s) where
    tell-row : (k : Key) (i : ℕ) → i < 2 → N (network.admitted f s lw (message_of z k f s) (row_for m x.lists i s.sender))
        ≡ both (genuine z k f s) (room m h (slot i) s.sender)
    unfolding network.admitted genuine
    tell-row k i i< =
        go (message_of z k f s) (row_for m x.lists i s.sender)
        ∙ ap (both (is_valid (message_of z k f s)))
        (room-told m w.rows i i< s.sender (sender-some z Network f 0 s e)
        ∙ room-names m s.sender (heard_in h (slot i)))
      where
        go : (d : Verdict) (p : Option ℕ) → N (network.admitted f s lw d p) ≡ both (is_valid d) (there p)
        go invalid p = refl
        go (valid n) None = refl
        go (valid n) (Some r) = refl

    tell-under : (k : Key) (i : ℕ) → i < 2 → N (network.opened_under z m k i f s lw)
        ≡ both (ltb s.counter top)
        (both (above_all s.sender s.counter (heard_in h (slot i))) (both (genuine z k f s) (room m h (slot i) s.sender)))
    unfolding network.opened_under floor_of
    tell-under k i i< =
        two-checks N (eqb s.counter top) (ltb s.counter (floor_of m x.lists i s.sender)) _ _
        (network.admitted f s lw (message_of z k f s) (row_for m x.lists i s.sender)) refl refl
        ∙ ap₂ (λ (t u : Bool). both t (both u (N (network.admitted f s lw (message_of z k f s) (row_for m x.lists i s.sender)))))
        (sym (below_top s.counter (counter-low z Network f 0 s octets e)))
        (above_floor s.sender s.counter (floor_of m x.lists i s.sender) (heard_in h (slot i)) floor-is)
        ∙ ap (λ (t : Bool). both (ltb s.counter top) (both (above_all s.sender s.counter (heard_in h (slot i))) t)) (tell-row k i i<)
      where
        floor-is : floor_of m x.lists i s.sender ≡ bound (counters s.sender (heard_in h (slot i)))
        floor-is =
            ap (floor_at x.lists.floors) (row-there m w.rows i i< s.sender)
            ∙ w.rows.floor i s.sender i< (sender-some z Network f 0 s e)

    tell-keyed : (p : Option ℕ) → slot_of b.slots s.sequence ≡ p
        → N (network.opened_keyed z m b.slots f s lw p) ≡ passes_under z m h Network f s (holder_at p) (key_in h (holder_at p))
    unfolding network.opened_keyed passes_under
    tell-keyed (Some i) q =
        let i< = slot-place b.slots s.sequence i q in
        tell-under (the_key (slot_at b.slots i).key) i i<
        ∙ ap (passes_under z m h Network f s (slot i)) (sym (found-key w.slots s.sequence i q i<))
    tell-keyed None q = ap (passes_under z m h Network f s nowhere) (sym (key-nowhere h))

  tell-read : (r : Reading) → reading z Network f 0 ≡ r → ((n : ℕ) → r ≡ plain n → ⊥)
      → N (network.opened_read z m b.slots f lw r) ≡ passes_read z m h Network f r
  unfolding network.opened_read passes_read
  tell-read (refused n) e ne = refl
  tell-read (plain n) e ne = absurd (ne n refl)
  tell-read (secured s) e ne =
      tell-keyed s e (slot_of b.slots s.sequence) refl
      ∙ ap (λ (p : Option ℕ). passes_under z m h Network f s (holder_at p) (key_in h (holder_at p))) (sym (slot-for z m x h w s.sequence))

  pub tell-network : ((n : ℕ) → reading z Network f 0 ≡ plain n → ⊥)
      → not (refuses (step z (opening Network f g o) x).reply) ≡ passes z m h Network f g o
  unfolding network.open_network passes
  tell-network ne =
      two-checks N (not (both (leb longest (length o)) (lists_fit x.lists))) (ltb longest (length f)) _ _
      (network.opened_read z (half x.lists) b.slots f lw (reading z Network f 0)) refl refl
      ∙ ap₂ (λ (t u : Bool). both t (both u (N (network.opened_read z (half x.lists) b.slots f lw (reading z Network f 0)))))
      room-there (sym (leb-ltb (length f) longest))
      ∙ ap (λ (y : ℕ). both (leb longest (length o)) (both (leb (length f) longest)
      (N (network.opened_read z y b.slots f lw (reading z Network f 0))))) (half_is z m x h w)
      ∙ ap (λ (t : Bool). both (leb longest (length o)) (both (leb (length f) longest) t))
      (tell-read (reading z Network f 0) refl ne ∙ ap (passes_read z m h Network f) (sym (given-none z f g)))
    where
      room-there : not (not (both (leb longest (length o)) (lists_fit x.lists))) ≡ leb longest (length o)
      room-there =
          not-twice (both (leb longest (length o)) (lists_fit x.lists)) ∙ ap (both (leb longest (length o))) fits
          ∙ both_true (leb longest (length o))

  -- an unsecured one is handed out under no key
  pub clear-network : (n : ℕ) → reading z Network f 0 ≡ plain n → tells_key (step z (opening Network f g o) x).reply ≡ false
  clear-network n e =
      network_ways.open-ways z b f lw (λ (r : network.Opening). tells_key (by_network x r).reply ≡ false) (λ k. refl) (λ k p q. refl)
      (λ s i r k p t. absurd (plain-not n s (sym e ∙ t.read)))

  -- ---- an APS frame

  abbrev A : Framed → Bool
  A r = not (refuses (calls.gave r.answer r.out))

  module _ (s : Secured) (e : reading z Aps f g ≡ secured s) where
    tell-entry : (i : ℕ) → Tells b.links (Some i) (key_in h (link s.sender)) (counters s.sender (heard_in h (link s.sender)))
        → A (aps.opened_under z b f s o i)
        ≡ passes_under z m h Aps f s (link s.sender) (key 0 (the_key (link_at b.links i).key))
    unfolding aps.opened_under aps.admitted passes_under genuine
    tell-entry i t =
        two-checks A (eqb s.counter top) (ltb s.counter (link_at b.links i).floor) _ _ (aps.admitted b f s o i message) refl refl
        ∙ ap₂ (λ (t u : Bool). both t (both u (A (aps.admitted b f s o i message))))
        (sym (below_top s.counter (counter-low z Aps f g s octets e)))
        (above_floor s.sender s.counter (link_at b.links i).floor ns t.1)
        ∙ ap (λ (t : Bool). both (ltb s.counter top) (both (above_all s.sender s.counter ns) t))
        (go message ∙ sym (both_true (is_valid message)))
      where
        message : Verdict
        message = message_of z (key_named (link_at b.links i) s) f s

        ns : List HeardFrame
        ns = heard_in h (link s.sender)

        go : (d : Verdict) → A (aps.admitted b f s o i d) ≡ is_valid d
        go invalid = refl
        go (valid n) = refl

    tell-link : (p : Option ℕ) → link_of b.links s.sender ≡ p
        → Tells b.links p (key_in h (link s.sender)) (counters s.sender (heard_in h (link s.sender)))
        → A (aps.opened_keyed z b f s o p) ≡ passes_under z m h Aps f s (link s.sender) (key_in h (link s.sender))
    unfolding aps.opened_keyed passes_under
    tell-link (Some i) q t = tell-entry i t ∙ ap (passes_under z m h Aps f s (link s.sender)) (sym t.0)
    tell-link None q t = ap (passes_under z m h Aps f s (link s.sender)) (sym t)

  tell-read-aps : (r : Reading) → reading z Aps f g ≡ r → ((n : ℕ) → r ≡ plain n → ⊥)
      → A (aps.opened_read z b f o r) ≡ passes_read z m h Aps f r
  unfolding aps.opened_read passes_read
  tell-read-aps (refused n) e ne = refl
  tell-read-aps (plain n) e ne = absurd (ne n refl)
  tell-read-aps (secured s) e ne = tell-link s e (link_of b.links s.sender) refl (w.links.tells s.sender)

  pub tell-aps : ((n : ℕ) → reading z Aps f g ≡ plain n → ⊥) → not (refuses (step z (opening Aps f g o) x).reply) ≡ passes z m h Aps f g o
  unfolding aps.open_aps passes
  tell-aps ne =
      two-checks A (ltb (length o) longest) (ltb longest_aps (length f)) _ _ (aps.opened_read z b f o (reading z Aps f g)) refl refl
      ∙ ap₂ (λ (t u : Bool). both t (both u (A (aps.opened_read z b f o (reading z Aps f g)))))
      (sym (leb-ltb longest (length o))) (sym (leb-ltb (length f) longest_aps))
      ∙ ap (λ (t : Bool). both (leb longest (length o)) (both (leb (length f) longest_aps) t)) (tell-read-aps (reading z Aps f g) refl ne)

  pub clear-aps : (n : ℕ) → reading z Aps f g ≡ plain n → tells_key (step z (opening Aps f g o) x).reply ≡ false
  clear-aps n e =
      aps_ways.open-ways z b f g o (λ (r : Framed). tells_key (by_frame x r).reply ≡ false) (λ k. refl) (λ k q. refl)
      (λ s i t. absurd (plain-not n s (sym e ∙ t.read)))

  -- ---- either layer

  pub tell : (l : Layer) → ((n : ℕ) → reading z l f g ≡ plain n → ⊥)
      → not (refuses (step z (opening l f g o) x).reply) ≡ passes z m h l f g o
  tell Network ne = tell-network (λ n e. ne n (given-none z f g ∙ e))
  tell Aps ne = tell-aps ne

  pub clear : (l : Layer) (n : ℕ) → reading z l f g ≡ plain n → tells_key (step z (opening l f g o) x).reply ≡ false
  clear Network n e = clear-network n (sym (given-none z f g) ∙ e)
  clear Aps n e = clear-aps n e

  pub rightly : (l : Layer) (r : Reading) → reading z l f g ≡ r → Rightly r (step z (opening l f g o) x).reply (passes z m h l f g o)
  rightly l (secured s) e = tell l (λ n q. plain-not n s (sym q ∙ e))
  rightly l (refused k) e = tell l (λ n q. plain-refused n k (sym q ∙ e))
  rightly l (plain n) e = clear l n e

pub second : (z : Settings) (n own found : ℕ) → legal n ≡ true → Second z (n / 2) (replies z n own found)
second z n own found fit ds l f g o octets =
    rightly z (n / 2) (ap legal (sym (legal-twice n fit)) ∙ fit) (run z n own found ds) (story z (log (replies z n own found) ds))
    (stands z n own found fit ds) f g o octets l (reading z l f g) refl
