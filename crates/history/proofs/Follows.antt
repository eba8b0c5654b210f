-- What follows from the statements, of any board that meets them: no two sealed frames carry the same counter; a stale frame is
-- refused, whatever the board would tell of it; so is a replay; a refused frame leaves what may be opened as it was; a board that
-- repeats its reply does not meet the second; and neither does one that installed a key and refuses a new frame sealed under it.
-- Of any board at all: wrapping a frame and sending it on seal nothing. Of ours: after a refused frame every later call is answered
-- as if it had not come.
-- Assumes nothing.
use mathlib.Core.Path.{◌≡◌, refl, sym, subst, ap, ◌∙◌}
use mathlib.Core.Bool.{Bool, true, false, not}
use mathlib.Core.List.{List, [], ◌∷◌, ◌++◌}
use Prim.Native.Nat.{ℕ, zero, suc, ◌+◌, ◌<◌, ◌≤◌}
use native.Mathlib.Omega.{arith}
use lib.Dec.{eqb, leb, ltb}
use lib.ListN.{length, get_or}
use borrow.Author.Tests.{eqb-true, eqb-false, eq-eqb, ne_eqb, lt-ltb, le-ltb, le-leb, ltb-true}
use Rattle.octets.specs.Keys.{Key}
use Rattle.settings.specs.Settings.{Settings, longest, top}
use Rattle.std.specs.Prelude.{if◌then◌else◌}
use Rattle.octets.specs.Choice.{both}
use Rattle.octets.specs.Lists.{Octets}
use Rattle.history.specs.Calls.{Call, install, opening, writing, routing, Reply, refuses, Exchange}
use Rattle.history.specs.Deeds.{Deed, called, wrote, cut, Replies, log, stored, SealsOctets, writes_answered, tells_stored}
use Rattle.history.specs.Events.{Holder, slot, link, nowhere, Installation, none, key, HeardFrame, Event, keyed, forgot, heard, sent, lost, same, key_in, slot_for, holder_for, without, heard_in, sent_in}
use Rattle.history.specs.Story.{events_of, story}
use Rattle.history.specs.Statement.{readings, lower, rising, First, longest_at, key_at, above_all, room, passes_under, passes_read, passes, Rightly, Second}
use Rattle.history.specs.Running.{Held, by_network, by_frame, step, start, run, replies}
use Rattle.history.proofs.Searches.{clash, not-twice}
use Rattle.history.proofs.Second.{key-nowhere}
use Rattle.network.proofs.Ways as network_ways
use Rattle.aps.proofs.Ways as aps_ways
use Rattle.answers.specs.Numbers.{ProtectionTold}
use Rattle.frames.specs.declared.Layer.{Layer}
use Rattle.frames.specs.declared.Layer.TheVariants.{Network, Aps}
use Rattle.frames.specs.declared.Secured.{Secured}
use Rattle.frames.specs.Reading.{Reading, refused, plain, secured, reading}
use Rattle.board.specs.Places.{first_at}
use Rattle.seals.specs.Sealing.{Fair, genuine, sent_octets, sealed_frame}
use Rattle.seals.proofs.Again.{ToSeal, announcing, read_again, message-again, length-again, octets-again}
use Rattle.octets.proofs.Choices.{both-parts}
use Rattle.commands.specs.declared.Command.{Command}
use Rattle.network.specs.Opening as network
use Rattle.board.specs.Sending.{Framed}

both_false : (t : Bool) → both t false ≡ false
both_false true = refl
both_false false = refl

not_back : (t u : Bool) → not t ≡ u → t ≡ not u
not_back true u e = ap not e
not_back false u e = ap not e

-- ---- of the first statement: "No two sealed frames carry the same outgoing counter."

-- two frames, each read as secured, with different counters
abbrev pub Apart : Reading → Reading → Type 0
Apart (secured s) (secured t) = s.counter ≡ t.counter → ⊥
Apart (secured s) (plain n) = ⊥
Apart (secured s) (refused n) = ⊥
Apart (plain n) r = ⊥
Apart (refused n) r = ⊥

abbrev Below : ℕ → Reading → Type 0
Below n (secured s) = s.counter < n
Below n (plain k) = ⊥
Below n (refused k) = ⊥

below_less : (k n : ℕ) (r : Reading) → k < n → Below k r → Below n r
below_less k n (secured s) h b = omega arith
below_less k n (plain i) h b = b
below_less k n (refused i) h b = b

below_at : (rs : List Reading) (n : ℕ) → rising rs ≡ true → lower rs n ≡ true → (j : ℕ) → j < length rs → Below n (get_or rs j (plain 0))
below_at [] n r l j h = absurd (omega arith)
below_at (secured s ∷ rs) n r l zero h = ltb-true s.counter n l
below_at (secured s ∷ rs) n r l (suc j) h =
    let t = both-parts (lower rs s.counter) (rising rs) r in
    below_less s.counter n (get_or rs j (plain 0)) (ltb-true s.counter n l) (below_at rs s.counter t.1 t.0 j (omega arith))
below_at (plain k ∷ rs) n r l j h = clash r refl
below_at (refused k ∷ rs) n r l j h = clash r refl

below_apart : (s : Secured) (r : Reading) → Below s.counter r → Apart (secured s) r
below_apart s (secured t) b = λ e. omega arith
below_apart s (plain i) b = b
below_apart s (refused i) b = b

rising-apart : (rs : List Reading) → rising rs ≡ true → (i j : ℕ) → i < j → j < length rs
    → Apart (get_or rs i (plain 0)) (get_or rs j (plain 0))
rising-apart [] r i j h k = absurd (omega arith)
rising-apart (secured s ∷ rs) r i zero h k = absurd (omega arith)
rising-apart (secured s ∷ rs) r zero (suc j) h k =
    let t = both-parts (lower rs s.counter) (rising rs) r in
    below_apart s (get_or rs j (plain 0)) (below_at rs s.counter t.1 t.0 j (omega arith))
rising-apart (secured s ∷ rs) r (suc i) (suc j) h k =
    rising-apart rs (both-parts (lower rs s.counter) (rising rs) r).1 i j (omega arith) (omega arith)
rising-apart (plain n ∷ rs) r i j h k = clash r refl
rising-apart (refused n ∷ rs) r i j h k = clash r refl

pub no-two-same : (z : Settings) (found : ℕ) (board : Replies) → First z found board → (cs : List (Deed Call)) → SealsOctets cs
    → writes_answered (log board cs) ≡ true → tells_stored found (log board cs) ≡ true
    → let rs = readings z (sent_in (story z (log board cs))) in
    (i j : ℕ) → i < j → j < length rs → Apart (get_or rs i (plain 0)) (get_or rs j (plain 0))
no-two-same z found board meets cs o ws ts i j h k =
    rising-apart (readings z (sent_in (story z (log board cs)))) (meets cs o ws ts) i j h k

-- ---- of any board, whatever it replies: "wrapping it or sending it on seals nothing" (02 (i))

adds-nothing : (t : Bool) (h : List Event) → (if t then [] else []) ++ h ≡ h
adds-nothing true h = refl
adds-nothing false h = refl

pub wraps-nothing : (z : Settings) (a : Bool) (c : Command) (k r o : List ℕ) (y : Reply) (xs : List (Deed Exchange))
    → story z (called (record { call = writing a c k r o; reply = y }) ∷ xs) ≡ story z xs
wraps-nothing z a c k r o y xs = adds-nothing (refuses y) (story z xs)

pub routes-nothing : (z : Settings) (f : List ℕ) (p : ProtectionTold) (y : Reply) (xs : List (Deed Exchange))
    → story z (called (record { call = routing f p; reply = y }) ∷ xs) ≡ story z xs
routes-nothing z f p y xs = adds-nothing (refuses y) (story z xs)

-- ---- deeds after deeds

-- the log of the deeds ds, done after cs
abbrev pub later : Replies → List (Deed Call) → List (Deed Call) → List (Deed Exchange)
later board [] cs = []
later board (called d ∷ ds) cs = called (record { call = d; reply = board (ds ++ cs) d }) ∷ later board ds cs
later board (wrote m ∷ ds) cs = wrote m ∷ later board ds cs
later board (cut ∷ ds) cs = cut ∷ later board ds cs

-- the events that a log tells after the events h
abbrev pub since : Settings → List (Deed Exchange) → List Event → List Event
since z [] h = []
since z (called x ∷ xs) h = events_of z (since z xs h ++ h) x.call x.reply ++ since z xs h
since z (wrote m ∷ xs) h = since z xs h
since z (cut ∷ xs) h = lost ∷ since z xs h

append-three : (xs ys zs : List Event) → (xs ++ ys) ++ zs ≡ xs ++ (ys ++ zs)
append-three [] ys zs = refl
append-three (x ∷ xs) ys zs = ap (λ (l : List Event). x ∷ l) (append-three xs ys zs)

story-since : (z : Settings) (board : Replies) (ds cs : List (Deed Call))
    → story z (log board (ds ++ cs)) ≡ since z (later board ds cs) (story z (log board cs)) ++ story z (log board cs)
story-since z board [] cs = refl
story-since z board (called d ∷ ds) cs =
    ap (λ (h : List Event). events_of z h d (board (ds ++ cs) d) ++ h) (story-since z board ds cs)
    ∙ sym (append-three (events_of z (es ++ h) d (board (ds ++ cs) d)) es h)
  where
    h : List Event
    h = story z (log board cs)

    es : List Event
    es = since z (later board ds cs) (story z (log board cs))
story-since z board (wrote m ∷ ds) cs = story-since z board ds cs
story-since z board (cut ∷ ds) cs = ap (λ (h : List Event). lost ∷ h) (story-since z board ds cs)

-- ---- frames that are not above all that were opened

-- nothing was installed or removed at x, sender a was not forgotten there, and the board lost no power
abbrev pub untouched : Holder → ℕ → List Event → Bool
untouched x a [] = true
untouched x a (keyed y k ∷ h) = both (not (same y x)) (untouched x a h)
untouched x a (forgot y b ∷ h) = both (not (both (same y x) (eqb b a))) (untouched x a h)
untouched x a (heard y r ∷ h) = untouched x a h
untouched x a (sent s ∷ h) = untouched x a h
untouched x a (lost ∷ h) = false

above-without : (a b c : ℕ) (l : List HeardFrame) → (b ≡ a → ⊥) → above_all a c (without b l) ≡ above_all a c l
above-without a b c [] ne = refl
above-without a b c (r ∷ l) ne = go (above-without a b c l ne) (eqb r.sender b) refl
  where
    go : above_all a c (without b l) ≡ above_all a c l → (t : Bool) → eqb r.sender b ≡ t
        → above_all a c (if t then without b l else r ∷ without b l) ≡ above_all a c (r ∷ l)
    go ih true e =
        ih ∙ sym (ap (λ (t : Bool). both (if t then ltb r.counter c else true) (above_all a c l))
        (ne_eqb r.sender a (λ f. ne (sym (eqb-true r.sender b e) ∙ f))))
    go ih false e = ap (both (if eqb r.sender a then ltb r.counter c else true)) ih

-- what was not above stays so
stale-stays : (x : Holder) (a c : ℕ) (es h : List Event) → untouched x a es ≡ true → above_all a c (heard_in h x) ≡ false
    → above_all a c (heard_in (es ++ h) x) ≡ false
stale-stays x a c [] h u e = e
stale-stays x a c (keyed y k ∷ es) h u e =
    let t = both-parts (not (same y x)) (untouched x a es) u in
    rw (not_back (same y x) true t.0) (stale-stays x a c es h t.1 e)
stale-stays x a c (forgot y b ∷ es) h u e =
    let t = both-parts (not (both (same y x) (eqb b a))) (untouched x a es) u in
    go (same y x) (not_back (both (same y x) (eqb b a)) true t.0) (stale-stays x a c es h t.1 e)
  where
    go : (t : Bool) → both t (eqb b a) ≡ false → above_all a c (heard_in (es ++ h) x) ≡ false
        → above_all a c (if t then without b (heard_in (es ++ h) x) else heard_in (es ++ h) x) ≡ false
    go true f ih = above-without a b c (heard_in (es ++ h) x) (eqb-false b a f) ∙ ih
    go false f ih = ih
stale-stays x a c (heard y r ∷ es) h u e = go (same y x) (stale-stays x a c es h u e)
  where
    go : (t : Bool) → above_all a c (heard_in (es ++ h) x) ≡ false
        → above_all a c (if t then r ∷ heard_in (es ++ h) x else heard_in (es ++ h) x) ≡ false
    go true ih =
        let above = if eqb r.sender a then ltb r.counter c else true in
        ap (both above) ih ∙ both_false above
    go false ih = ih
stale-stays x a c (sent s ∷ es) h u e = stale-stays x a c es h u e
stale-stays x a c (lost ∷ es) h u e = clash u refl

same_self : (h : List Event) (x : Holder) (n : ℕ) (k : Key) → key_in h x ≡ key n k → same x x ≡ true
same_self h (slot i) n k e = eq-eqb i i refl
same_self h (link a) n k e = eq-eqb a a refl
same_self h nowhere n k e = let never : none ≡ key n k = sym (key-nowhere h) ∙ e in cc

-- ---- what the checks tell

module _ (z : Settings) (m : ℕ) (h : List Event) (l : Layer) (f : List ℕ) (g : ℕ) (o : List ℕ) (s : Secured)
    (read : reading z l f g ≡ secured s) where
  abbrev x : Holder
  x = holder_for h l s

  passes-not : passes_read z m h l f (secured s) ≡ false → passes z m h l f g o ≡ false
  unfolding passes
  passes-not q =
      ap (λ (t : Bool). both (leb longest (length o)) (both (leb (length f) (longest_at l)) t)) (ap (passes_read z m h l f) read ∙ q)
      ∙ ap (both (leb longest (length o))) (both_false (leb (length f) (longest_at l))) ∙ both_false (leb longest (length o))

  stale-not : above_all s.sender s.counter (heard_in h x) ≡ false → passes z m h l f g o ≡ false
  unfolding passes_read passes_under
  stale-not q = passes-not (go (key_in h x))
    where
      go : (y : Installation) → passes_under z m h l f s x y ≡ false
      go none = refl
      go (key n k) =
          ap (λ (t : Bool). both (ltb s.counter top) (both t (both (genuine z (key_at l s k) f s) (room m h x s.sender)))) q
          ∙ both_false (ltb s.counter top)

  -- a frame that passes has its key
  record Found : Type 0 where
    pub number : ℕ
    pub octets : Key
    pub found : key_in h x ≡ key number octets

  has_key : passes z m h l f g o ≡ true → Found
  unfolding passes passes_read passes_under
  has_key e =
      let t = (both-parts (leb longest (length o)) (both (leb (length f) (longest_at l)) (passes_read z m h l f (reading z l f g))) e).1 in
      let u = (both-parts (leb (length f) (longest_at l)) (passes_read z m h l f (reading z l f g)) t).1 in
      keyed-so (key_in h x) refl (ap (passes_read z m h l f) (sym read) ∙ u)
    where
      keyed-so : (y : Installation) → key_in h x ≡ y → passes_under z m h l f s x y ≡ true → Found
      keyed-so none d u = clash u refl
      keyed-so (key n k) d u = record { number = n; octets = k; found = d }

-- ---- of any board that meets the second statement

module _ (z : Settings) (m : ℕ) (board : Replies) (meets : Second z m board) where
  -- a secured frame
  opened-so : (cs : List (Deed Call)) (l : Layer) (f : List ℕ) (g : ℕ) (o : List ℕ) (s : Secured) → Octets f → reading z l f g ≡ secured s
      → not (refuses (board cs (opening l f g o))) ≡ passes z m (story z (log board cs)) l f g o
  opened-so cs l f g o s octets e =
      subst (λ (r : Reading). Rightly r (board cs (opening l f g o)) (passes z m (story z (log board cs)) l f g o)) e
      (meets cs l f g o octets)

  -- a frame that is not above all counters opened is refused, whatever else might be told of it: also as unsecured
  pub stale-refused : (cs : List (Deed Call)) (l : Layer) (f : List ℕ) (g : ℕ) (o : List ℕ) (s : Secured) → Octets f → reading z l f g ≡ secured s
      → let h = story z (log board cs) in
      above_all s.sender s.counter (heard_in h (holder_for h l s)) ≡ false → refuses (board cs (opening l f g o)) ≡ true
  stale-refused cs l f g o s octets e q =
      not_back (refuses (board cs (opening l f g o))) false
      (opened-so cs l f g o s octets e ∙ stale-not z m (story z (log board cs)) l f g o s e q)

  module _ (cs : List (Deed Call)) (l : Layer) (f : List ℕ) (g : ℕ) (o : List ℕ) (s : Secured) (octets : Octets f)
      (read : reading z l f g ≡ secured s) (open-first : refuses (board cs (opening l f g o)) ≡ false) where
    abbrev once : Call
    once = opening l f g o

    abbrev home : Holder
    home = holder_for (story z (log board cs)) l s

    key-there : Found z m (story z (log board cs)) l f g o s read
    key-there = has_key z m (story z (log board cs)) l f g o s read (sym (opened-so cs l f g o s octets read) ∙ ap not open-first)

    -- as soon as it was opened
    not-above : above_all s.sender s.counter (heard_in (story z (log board (called once ∷ cs))) home) ≡ false
    not-above =
        rw (
          open-first,
          read,
          same_self (story z (log board cs)) home key-there.number key-there.octets key-there.found,
          eq-eqb s.sender s.sender refl,
          le-ltb s.counter s.counter (omega arith),
        ) refl

    -- A frame that was opened is refused when it comes again, with any sender under which it is read the same, after any deeds by
    -- which its key's place has no other key, its sender is not forgotten there, no power is lost, and the frame's key still stands
    -- there.
    pub replay-refused : (ds : List (Deed Call))
        → untouched home s.sender (since z (later board ds (called once ∷ cs)) (story z (log board (called once ∷ cs)))) ≡ true
        → holder_for (story z (log board (ds ++ (called once ∷ cs)))) l s ≡ home
        → (k : ℕ) (p : List ℕ) → reading z l f k ≡ secured s → refuses (board (ds ++ (called once ∷ cs)) (opening l f k p)) ≡ true
    replay-refused ds u same_place k p again =
        stale-refused (ds ++ (called once ∷ cs)) l f k p s octets again
        (ap (λ (y : Holder). above_all s.sender s.counter (heard_in (story z (log board (ds ++ (called once ∷ cs)))) y)) same_place
        ∙ ap (λ (h : List Event). above_all s.sender s.counter (heard_in h home)) (story-since z board ds (called once ∷ cs))
        ∙ stale-stays home s.sender s.counter (since z (later board ds (called once ∷ cs)) (story z (log board (called once ∷ cs))))
        (story z (log board (called once ∷ cs))) u not-above)

  -- ---- a frame that is refused

  -- the frame is not unsecured
  opened-is : (cs : List (Deed Call)) (l : Layer) (f : List ℕ) (g : ℕ) (o : List ℕ) → Octets f → ((n : ℕ) → reading z l f g ≡ plain n → ⊥)
      → not (refuses (board cs (opening l f g o))) ≡ passes z m (story z (log board cs)) l f g o
  opened-is cs l f g o octets ne = go (reading z l f g) refl (meets cs l f g o octets)
    where
      go : (r : Reading) → reading z l f g ≡ r → Rightly r (board cs (opening l f g o)) (passes z m (story z (log board cs)) l f g o)
          → not (refuses (board cs (opening l f g o))) ≡ passes z m (story z (log board cs)) l f g o
      go (secured s) e t = t
      go (refused n) e t = t
      go (plain n) e t = absurd (ne n e)

  -- leaves what may be opened as it was: whatever deeds follow, as long as the calls are answered as they would have been without it,
  -- the next frame that is not unsecured is opened just if it would have been
  pub refused-leaves : (cs : List (Deed Call)) (l : Layer) (f : List ℕ) (g : ℕ) (o : List ℕ) → refuses (board cs (opening l f g o)) ≡ true
      → (ds : List (Deed Call)) → later board ds (called (opening l f g o) ∷ cs) ≡ later board ds cs
      → (k : Layer) (e : List ℕ) (a : ℕ) (p : List ℕ) → Octets e → ((n : ℕ) → reading z k e a ≡ plain n → ⊥)
      → refuses (board (ds ++ (called (opening l f g o) ∷ cs)) (opening k e a p)) ≡ refuses (board (ds ++ cs) (opening k e a p))
  refused-leaves cs l f g o turned ds alike k e a p octets ne =
      not_back _ _ (opened-is (ds ++ (called (opening l f g o) ∷ cs)) k e a p octets ne
      ∙ ap (λ (h : List Event). passes z m h k e a p) stories ∙ sym (opened-is (ds ++ cs) k e a p octets ne))
      ∙ not-twice (refuses (board (ds ++ cs) (opening k e a p)))
    where
      told-nothing : story z (log board (called (opening l f g o) ∷ cs)) ≡ story z (log board cs)
      told-nothing = rw turned refl

      stories : story z (log board (ds ++ (called (opening l f g o) ∷ cs))) ≡ story z (log board (ds ++ cs))
      stories =
          story-since z board ds (called (opening l f g o) ∷ cs)
          ∙ ap (λ (h : List Event). since z (later board ds (called (opening l f g o) ∷ cs)) h ++ h) told-nothing
          ∙ ap (λ (xs : List (Deed Exchange)). since z xs (story z (log board cs)) ++ story z (log board cs)) alike
          ∙ sym (story-since z board ds cs)

  -- ---- wrong boards

  -- one that opens a secured frame and gives the same reply to it again, as a board does that never raises a floor
  pub never-repeats : (cs : List (Deed Call)) (l : Layer) (f : List ℕ) (g : ℕ) (o : List ℕ) (s : Secured) → Octets f → reading z l f g ≡ secured s
      → refuses (board cs (opening l f g o)) ≡ false → board (called (opening l f g o) ∷ cs) (opening l f g o) ≡ board cs (opening l f g o) → ⊥
  unfolding slot_for
  never-repeats cs l f g o s octets read first again =
      clash (stale-refused (called (opening l f g o) ∷ cs) l f g o s octets read
      (ap (λ (y : Holder). above_all s.sender s.counter (heard_in (story z (log board (called (opening l f g o) ∷ cs))) y)) place
      ∙ not-above cs l f g o s octets read first)) (ap refuses again ∙ first)
    where
      place : holder_for (story z (log board (called (opening l f g o) ∷ cs))) l s ≡ holder_for (story z (log board cs)) l s
      place = go l first read
        where
          go : (l : Layer) → refuses (board cs (opening l f g o)) ≡ false → reading z l f g ≡ secured s
              → holder_for (story z (log board (called (opening l f g o) ∷ cs))) l s ≡ holder_for (story z (log board cs)) l s
          go Network q r = rw (q, r) refl
          go Aps q r = refl

  -- a frame that was sealed under a key that is there is opened, where its counter is new, its sender finds room and the output
  -- has room
  pub sealed-opens : Fair z → (cs : List (Deed Call)) (l : Layer) (k : Key) (q c n a : ℕ) (f : List ℕ) (i g : ℕ) (o : List ℕ) (j : Key) (y : ℕ)
      → ToSeal l f i c n a → Octets k.octets → q < 256 → longest ≤ length o → length f + sent_octets c + z.tag ≤ longest_at l
      → let h = story z (log board cs) in
      key_in h (holder_for h l (announcing i c n a q)) ≡ key y j → key_at l (announcing i c n a q) j ≡ k → n < top
      → above_all a n (heard_in h (holder_for h l (announcing i c n a q))) ≡ true → room m h (holder_for h l (announcing i c n a q)) a ≡ true
      → refuses (board cs (opening l (sealed_frame z k l c n a q f i) g o)) ≡ false
  unfolding passes passes_read passes_under genuine
  sealed-opens fair cs l k q c n a f i g o j y p ok oq ro so ek sk nt ab rm =
      not_back (refuses (board cs (opening l (sealed_frame z k l c n a q f i) g o))) true
      (opened-so cs l (sealed_frame z k l c n a q f i) g o (announcing i c n a q) (octets-again z k q p ok oq) read ∙ pass)
    where
      read : reading z l (sealed_frame z k l c n a q f i) g ≡ secured (announcing i c n a q)
      read = read_again z k q p g

      pass : passes z m (story z (log board cs)) l (sealed_frame z k l c n a q f i) g o ≡ true
      pass =
          simp (
            le-leb longest (length o) ro,
            le-leb (length (sealed_frame z k l c n a q f i)) (longest_at l) (omega (arith, length-again z k q p)),
            read,
            ek,
            lt-ltb n top nt,
            ab,
            sk,
            message-again z k q p fair,
            rm,
          )

  -- so a board that took a network key and then refuses a first frame sealed under it does not meet the statement
  pub installed-opens : Fair z → (k : Key) (q n a : ℕ) (f : List ℕ) (i g : ℕ) (o : List ℕ) → 0 < m
      → refuses (board [] (install 0 q k)) ≡ false → ToSeal Network f i 1 n a → Octets k.octets → q < 256 → longest ≤ length o
      → length f + sent_octets 1 + z.tag ≤ longest → n < top
      → refuses (board (called (install 0 q k) ∷ []) (opening Network (sealed_frame z k Network 1 n a q f i) g o)) ≡ false
  unfolding slot_for first_at
  installed-opens fair k q n a f i g o mp took p ok oq ro so nt =
      sealed-opens fair (called (install 0 q k) ∷ []) Network k q 1 n a f i g o k q p ok oq ro so
      (rw (took, eq-eqb q q refl) refl) refl nt (rw (took, eq-eqb q q refl) refl) (rw (took, eq-eqb q q refl) (lt-ltb 0 m mp))

-- ---- of ours: a refused frame might as well not have come

module _ (z : Settings) (x : Held) (f : List ℕ) (g : ℕ) (o : List ℕ) where
  refused-stays : (l : Layer) → refuses (step z (opening l f g o) x).reply ≡ true → (step z (opening l f g o) x).after ≡ x
  refused-stays Network =
      network_ways.open-ways z x.board f (record { lists = x.lists; out = o })
      (λ (r : network.Opening). refuses (by_network x r).reply ≡ true → (by_network x r).after ≡ x) (λ k e. refl) (λ k p q e. refl)
      (λ s i r k p t e. clash e refl)
  refused-stays Aps =
      aps_ways.open-ways z x.board f g o (λ (r : Framed). refuses (by_frame x r).reply ≡ true → (by_frame x r).after ≡ x) (λ k e. refl)
      (λ k q e. refl) (λ s i t e. clash e refl)

module _ (z : Settings) (n own found : ℕ) (cs : List (Deed Call)) (l : Layer) (f : List ℕ) (g : ℕ) (o : List ℕ)
    (turned : refuses (replies z n own found cs (opening l f g o)) ≡ true) where
  -- no frame touches the store
  same_store : (ds : List (Deed Call)) → stored found (ds ++ (called (opening l f g o) ∷ cs)) ≡ stored found (ds ++ cs)
  same_store [] = refl
  same_store (called d ∷ ds) = same_store ds
  same_store (wrote m ∷ ds) = refl
  same_store (cut ∷ ds) = same_store ds

  leaves_all : (ds : List (Deed Call)) → run z n own found (ds ++ (called (opening l f g o) ∷ cs)) ≡ run z n own found (ds ++ cs)
  leaves_all [] = refused-stays z (run z n own found cs) f g o l turned
  leaves_all (called d ∷ ds) = ap (λ (x : Held). (step z d x).after) (leaves_all ds)
  leaves_all (wrote m ∷ ds) = leaves_all ds
  leaves_all (cut ∷ ds) = ap (start n own) (same_store ds)

  -- forged (9), or refused for any other cause
  pub forged-changes-nothing : (ds : List (Deed Call)) (d : Call)
      → replies z n own found (ds ++ (called (opening l f g o) ∷ cs)) d ≡ replies z n own found (ds ++ cs) d
  forged-changes-nothing ds d = ap (λ (x : Held). (step z d x).reply) (leaves_all ds)
