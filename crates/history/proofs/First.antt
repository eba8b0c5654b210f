-- Demand 3, the first statement: the counters rise from each sealed frame to the next, as their receivers read them, over any cuts.
-- Assumes nothing.
use mathlib.Core.Path.{◌≡◌, refl, sym, ap, ◌∙◌}
use mathlib.Core.Bool.{Bool, true, false}
use mathlib.Core.List.{List, [], ◌∷◌, ◌++◌}
use Prim.Native.Nat.{ℕ, ◌+◌, ◌<◌, ◌≤◌, ◌^◌}
use native.Mathlib.Omega.{arith}
use lib.Dec.{eqb}
use lib.ListN.{length, take, drop}
use lib.Seq.{take_at}
use borrow.Author.Tests.{ne_eqb, eqb-true, lt-ltb, ltb-true}
use Rattle.settings.specs.Settings.{Settings, top}
use Rattle.octets.proofs.Choices.{choose, both-parts}
use Rattle.octets.specs.Addresses.{no_address}
use Rattle.std.specs.Prelude.{if◌then◌else◌}
use Rattle.octets.specs.Lists.{Octets}
use Rattle.history.specs.Calls.{Call, install, switch, add_link, remove_link, forget, opening, sealing, looking, writing, routing, next_mark, marked}
use Rattle.history.specs.Calls.{tells, Reply, refuses, handed_out, to_seal}
use Rattle.history.specs.Deeds.{Deed, called, wrote, cut, log, stored, SealsOctets, answered_last, writes_answered, tells_stored}
use Rattle.history.specs.Events.{Holder, slot, link, Installation, key, Event, key_in, same_key, sent_in}
use Rattle.history.specs.Story.{installing, hearing, telling, events_of, story}
use Rattle.history.specs.Statement.{readings, lower, rising, First}
use Rattle.history.specs.Running.{Held, Step, by_board, by_frame, step, run, replies}
use Rattle.history.proofs.Marks.{stored-log, Keeps, keeps-found, store_low, keeps-wrote, keeps_cut, keeps-step}
use Rattle.history.proofs.Ways.{Made, network-seals, aps-seals, writes}
use Rattle.aps.proofs.Ways as aps
use Rattle.answers.specs.Numbers.{done, refused as declined}
use Rattle.frames.specs.declared.Layer.{Layer}
use Rattle.frames.specs.declared.Layer.TheVariants.{Network, Aps}
use Rattle.frames.specs.Reading.{Reading, refused, plain, secured, reading}
use Rattle.board.specs.declared.Board.{Board}
use Rattle.board.specs.Sending.{spent, Framed}
use Rattle.board.specs.Requests.{Changed, make}
use Rattle.board.specs.Mark.{with_mark, move_mark}
use Rattle.board.specs.Mark as marks
use Rattle.board.proofs.Untouched.{install-keeps, switch-keeps, add-keeps, remove-keeps}
use Rattle.seals.specs.Sealing.{sealed_frame}
use Rattle.seals.proofs.Again.{ToSeal, announcing, read_again}
use Rattle.commands.specs.declared.Command.{Command}
use Rattle.commands.specs.Writing.{aps_raised}

-- ---- a sealed frame, as its receiver reads it

module _ (z : Settings) (l : Layer) (b : Board) (f o : List ℕ) (n : ℕ) (p : List ℕ) (t : Made z l b f o n p) (octets : Octets f)
    (low : b.outgoing < 2 ^ 32) (wide : b.own < 2 ^ 64) (someone : no_address b.own ≡ false) where
  to-seal : ToSeal l f t.header t.named b.outgoing b.own
  to-seal = record { unsecured = t.unsecured; octets = octets; suited = t.suited; counter = low; sender = wide; someone = someone }

  frame : List ℕ
  frame = sealed_frame z t.key l t.named b.outgoing b.own t.number f t.header

  read_made : reading z l (take n p) 0 ≡ secured (announcing t.header t.named b.outgoing b.own t.number)
  unfolding frame
  read_made =
      ap (λ (g : List ℕ). reading z l g 0)
      (ap (take n) t.out ∙ take_at frame (drop (length frame) o) n (sym t.count))
      ∙ read_again z t.key t.number to-seal 0

-- ---- what every call keeps

-- all that was sealed is below the board's counter, and below its mark
pub record Sends (own : ℕ) (b : Board) (rs : List Reading) : Type 0 where
  pub owned : b.own ≡ own
  pub low : b.outgoing ≤ top
  pub below : lower rs b.outgoing ≡ true
  pub marked : lower rs b.mark ≡ true
  pub rises : rising rs ≡ true

lower-more : (rs : List Reading) (m n : ℕ) → m ≤ n → lower rs m ≡ true → lower rs n ≡ true
lower-more [] m n h e = refl
lower-more (secured s ∷ rs) m n h e = lt-ltb s.counter n (omega (arith, ltb-true s.counter m e))
lower-more (plain k ∷ rs) m n h e = e
lower-more (refused k ∷ rs) m n h e = e

-- a call that seals nothing
kept : {own : ℕ} {b c : Board} {rs qs : List Reading} → Sends own b rs → c.own ≡ b.own → c.outgoing ≡ b.outgoing → c.mark ≡ b.mark
    → qs ≡ rs → Sends own c qs
kept w p q m e =
    record {
      owned = p ∙ w.owned;
      low = rw q w.low;
      below = rw (q, e) w.below;
      marked = rw (m, e) w.marked;
      rises = rw e w.rises;
    }

quiet : (r : Reply) (es h : List Event) → sent_in (es ++ h) ≡ sent_in h → sent_in ((if refuses r then [] else es) ++ h) ≡ sent_in h
quiet r es h q = go (refuses r)
  where
    go : (t : Bool) → sent_in ((if t then [] else es) ++ h) ≡ sent_in h
    go true = refl
    go false = q

quiet-installing : (h : List Event) (x : Holder) (k : Installation) → sent_in (installing h x k ++ h) ≡ sent_in h
quiet-installing h x k = go (same_key (key_in h x) k) refl
  where
    go : (t : Bool) → same_key (key_in h x) k ≡ t → sent_in (installing h x k ++ h) ≡ sent_in h
    go true e = rw e refl
    go false e = rw e refl

quiet-hearing : (h : List Event) (l : Layer) (f p : List ℕ) (r : Reading) → sent_in (hearing h l f p r ++ h) ≡ sent_in h
quiet-hearing h l f p (secured s) = refl
quiet-hearing h l f p (plain n) = refl
quiet-hearing h l f p (refused n) = refl

module _ (z : Settings) (own : ℕ) (wide : own < 2 ^ 64) (someone : no_address own ≡ false) (x : Held) (h : List Event)
    (w : Sends own x.board (readings z (sent_in h))) where
  abbrev b : Board
  b = x.board

  -- call c may end in y: the counters rise through what call and reply tell
  abbrev Ends : Call → Step → Type 0
  Ends c y = Sends own y.after.board (readings z (sent_in (events_of z h c y.reply ++ h)))

  abbrev After : Call → Type 0
  After c = Ends c (step z c x)

  -- it may end in y, and tells of no sealed frame
  abbrev Silent : Step → Type 0
  Silent y = Sends own y.after.board (readings z (sent_in h))

  -- the counter of a frame that is sealed is above the last one's
  sends-made : (l : Layer) (f o : List ℕ) → Octets f → (n : ℕ) (p : List ℕ) → Made z l b f o n p
      → Sends own (spent b) (reading z l (take n p) 0 ∷ readings z (sent_in h))
  unfolding spent
  sends-made l f o octets n p t =
      let read = read_made z l b f o n p t octets (omega (arith, w.low)) (rw w.owned wide) (rw w.owned someone) in
      rw (read, ne_eqb b.outgoing top t.below)
      (record {
        owned = w.owned;
        low = omega (arith, w.low, t.below);
        below = lt-ltb b.outgoing (b.outgoing + 1) (omega arith);
        marked = lt-ltb b.outgoing b.mark t.marked;
        rises = rw (w.below, w.rises) refl;
      })

  sends-seal : (l : Layer) (f : List ℕ) (a k : ℕ) (o : List ℕ) → Octets f → After (sealing l f a k o)
  sends-seal Network f a k o octets =
      network-seals z b f o (λ (r : Framed). Ends (sealing Network f a k o) (by_frame x r)) (λ n. w) (sends-made Network f o octets)
  sends-seal Aps f a k o octets =
      aps-seals z b f o (λ (r : Framed). Ends (sealing Aps f a k o) (by_frame x r)) (λ n. w) a k (sends-made Aps f o octets)

  sends-aps : (f : List ℕ) (g : ℕ) (o : List ℕ) → Silent (step z (opening Aps f g o) x)
  sends-aps f g o =
      aps.open-ways z b f g o (λ (r : Framed). Silent (by_frame x r)) (λ n. w) (λ n e. w) (λ s i t. kept w refl refl refl refl)

  sends-write : (a : Bool) (c : Command) (k r o : List ℕ) → Silent (step z (writing a c k r o) x)
  unfolding aps_raised
  sends-write a c k r o =
      writes z b a c k r o (λ (y : Framed). Silent (by_frame x y)) (λ n. w) (λ n p. kept w refl refl refl refl)

  -- a call that tells nothing of sealing
  silent : (c : Call) → Silent (step z c x) → sent_in (telling z h c (handed_out (step z c x).reply) ++ h) ≡ sent_in h → After c
  silent c v q = kept v refl refl refl (ap (readings z) (quiet (step z c x).reply (telling z h c (handed_out (step z c x).reply)) h q))

  -- the mark is never moved back
  sends-mark : b.mark ≤ top → (k : ℕ) → Silent (step z (marked k) x)
  unfolding move_mark marks.next_mark
  sends-mark most k = choose P (eqb k (marks.next_mark b.mark)) _ _ moved (λ _. w)
    where
      P : Changed → Type 0
      P r = Silent (by_board x r)

      moved : eqb k (marks.next_mark b.mark) ≡ true → Sends own (with_mark b k) (readings z (sent_in h))
      moved e =
          record {
            owned = w.owned;
            low = w.low;
            below = w.below;
            marked = lower-more (readings z (sent_in h)) b.mark k (omega (arith, eqb-true k (marks.next_mark b.mark) e)) w.marked;
            rises = w.rises;
          }

  sends_step : b.mark ≤ top → (c : Call) → Octets (to_seal c) → After c
  sends_step low (install i n k) o =
      let t = install-keeps b x.lists i n k in
      silent (install i n k) (kept w t.own t.outgoing t.mark refl) (quiet-installing h (slot i) (key n k))
  sends_step low (switch n) o = let t = switch-keeps b n in silent (switch n) (kept w t.own t.outgoing t.mark refl) refl
  sends_step low (add_link a k) o =
      let t = add-keeps b a k in silent (add_link a k) (kept w t.own t.outgoing t.mark refl) (quiet-installing h (link a) (key 0 k))
  sends_step low (remove_link a) o = let t = remove-keeps b a in silent (remove_link a) (kept w t.own t.outgoing t.mark refl) refl
  sends_step low (forget i a) o = silent (forget i a) w refl
  sends_step low (opening Network f g p) o =
      let given = handed_out (step z (opening Network f g p) x).reply in
      silent (opening Network f g p) w (quiet-hearing h Network f given (reading z Network f g))
  sends_step low (opening Aps f g p) o =
      let given = handed_out (step z (opening Aps f g p) x).reply in
      silent (opening Aps f g p) (sends-aps f g p) (quiet-hearing h Aps f given (reading z Aps f g))
  sends_step low (sealing l f a k p) o = sends-seal l f a k p o
  sends_step low (looking Network f g) o = w
  sends_step low (looking Aps f g) o = w
  sends_step low (writing a c k r p) o = silent (writing a c k r p) (sends-write a c k r p) refl
  sends_step low (routing f p) o = silent (routing f p) w refl
  sends_step low next_mark o = silent next_mark w refl
  sends_step low (marked k) o = silent (marked k) (sends-mark low k) refl

-- ---- after any deeds

-- a board that starts above all that was sealed
sends-fresh : (own m : ℕ) (rs : List Reading) → no_address own ≡ false → m ≤ top → lower rs m ≡ true → rising rs ≡ true
    → Sends own (make own m).board rs
unfolding make
sends-fresh own m rs someone low below rises =
    rw someone (record { owned = refl; low = low; below = below; marked = below; rises = rises })

-- where a board was made
someone-made : (own m : ℕ) → (make own m).answer ≡ done → no_address own ≡ false
unfolding make
someone-made own m = choose P (no_address own) _ _ none (λ t e. t)
  where
    P : Changed → Type 0
    P r = r.answer ≡ done → no_address own ≡ false

    none : no_address own ≡ true → declined 14 ≡ done → no_address own ≡ false
    none t e = let never : ◌≡◌ {A = ℕ} 0 1 = cc in absurd (omega arith)

-- it starts at its mark
fresh-mark : (own m : ℕ) → no_address own ≡ false → (make own m).board.mark ≡ m
unfolding make
fresh-mark own m someone = rw someone refl

module _ (z : Settings) (n own found : ℕ) (wide : own < 2 ^ 64) (someone : no_address own ≡ false) (low : found ≤ top) where
  abbrev events : List (Deed Call) → List Event
  events ds = story z (log (replies z n own found) ds)

  abbrev sealed-so-far : List (Deed Call) → List Reading
  sealed-so-far ds = readings z (sent_in (events ds))

  abbrev now : List (Deed Call) → Board
  now ds = (run z n own found ds).board

  record Holds (ds : List (Deed Call)) : Type 0 where
    pub sends : Sends own (now ds) (sealed-so-far ds)
    pub keeps : Keeps (now ds).mark (stored found ds) (log (replies z n own found) ds)

  sends : (ds : List (Deed Call)) → SealsOctets ds → writes_answered (log (replies z n own found) ds) ≡ true
      → tells_stored found (log (replies z n own found) ds) ≡ true → Holds ds
  sends [] o ws ts =
      record {
        sends = sends-fresh own found [] someone low refl refl;
        keeps = rw (fresh-mark own found someone) (keeps-found found low);
      }
  sends (called c ∷ ds) o ws ts =
      let t = both-parts (tells c (stored found (log (replies z n own found) ds))) (tells_stored found (log (replies z n own found) ds)) ts in
      let before = sends ds o.1 ws t.1 in
      record {
        sends = sends_step z own wide someone (run z n own found ds) (events ds) before.sends before.keeps.low c o.0;
        keeps = keeps-step z (run z n own found ds) before.keeps c
            (ap (tells c) (sym (stored-log (replies z n own found) found ds)) ∙ t.0);
      }
  sends (wrote m ∷ ds) o ws ts =
      let t = both-parts (answered_last (log (replies z n own found) ds) m) (writes_answered (log (replies z n own found) ds)) ws in
      let before = sends ds o t.1 ts in
      record { sends = before.sends; keeps = keeps-wrote before.keeps m t.0 }
  sends (cut ∷ ds) o ws ts =
      let before = sends ds o ws ts in
      let above = lower-more (sealed-so-far ds) (now ds).mark (stored found ds) before.keeps.behind before.sends.marked in
      record {
        sends = sends-fresh own (stored found ds) (sealed-so-far ds) someone (store_low before.keeps) above before.sends.rises;
        keeps = rw (fresh-mark own (stored found ds) someone) (keeps_cut before.keeps);
      }

-- whatever the lists' length
pub first : (z : Settings) (n own found : ℕ) → own < 2 ^ 64 → found < 2 ^ 32 → (make own found).answer ≡ done
    → First z found (replies z n own found)
first z n own found wide low made ds o ws ts =
    (sends z n own found wide (someone-made own found made) (omega (arith, low)) ds o ws ts).sends.rises
