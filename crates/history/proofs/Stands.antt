-- What the state and the lists mean after any deeds: the slots, the rows and the link entries are what calls and answers tell.
-- Assumes nothing.
use Rattle.std.proofs.Common.{Option, Some, None}
use mathlib.Core.Path.{◌≡◌, refl, sym, subst, ap, ◌∙◌}
use mathlib.Core.Bool.{Bool, true, false, not}
use mathlib.Core.List.{List, [], ◌∷◌, ◌++◌}
use Prim.Native.Nat.{ℕ, ◌+◌, ◌-◌, ◌*◌, ◌/◌, ◌<◌, ◌≤◌}
use native.Mathlib.Omega.{arith}
use lib.Dec.{eqb, ltb}
use lib.ListN.{length, set, take}
use borrow.Author.Tests.{eqb-true, eqb-false, ltb-false}
use Rattle.octets.specs.Keys.{Key, the_key}
use Rattle.settings.specs.Settings.{Settings}
use Rattle.octets.proofs.Choices.{choose}
use Rattle.octets.specs.Addresses.{no_address}
use Rattle.std.specs.Prelude.{if◌then◌else◌}
use Rattle.octets.specs.Choice.{both}
use Rattle.history.specs.Calls.{Call, install, switch, add_link, remove_link, forget, opening, sealing, looking, writing, routing, next_mark, marked, sent_on}
use Rattle.history.specs.Deeds.{Deed, called, wrote, cut, log, stored}
use Rattle.history.specs.Events.{Event, lost, Installation, HeardFrame, slot, link, keyed, key, none, key_in, same_key, slot_for, without, heard_in}
use Rattle.history.specs.Story.{installing, hearing, events_of, story}
use Rattle.history.specs.Running.{Held, held, Step, by_lists, by_board, by_rows, by_network, by_frame, step, start, run, replies}
use Rattle.history.proofs.Searches.{clash}
use Rattle.history.proofs.Counters.{bound, bound-more, counters, less, names, names-without, counters-gone, counters-other}
use Rattle.history.proofs.Rows.{Rows, zeroes, rows_ext, rows-fresh}
use Rattle.history.proofs.Senders.{row-there, hear-rows, lose-rows, clear-rows}
use Rattle.history.proofs.Slots.{Slots, slots-fresh, keeps_same, slot-told, install-slot}
use Rattle.history.proofs.Links.{Links, Tells, pairs_at, links-fresh, links-ext, pair-mine, pair-other, pair-free, Mine, mine, free, entry-put, entry_gone}
use Rattle.history.proofs.Ways.{network-seals, aps-seals, writes}
use Rattle.answers.specs.Numbers.{done, ProtectionTold}
use Rattle.frames.specs.declared.Layer.{Layer}
use Rattle.frames.specs.declared.Layer.TheVariants.{Network, Aps}
use Rattle.frames.specs.declared.Secured.{Secured}
use Rattle.frames.specs.Reading.{Header, unfit, header, read_header, secured, read_behind, reading}
use Rattle.frames.proofs.Found.{secured-frame}
use Rattle.board.specs.declared.Board.{Board}
use Rattle.board.specs.declared.Link.{Link}
use Rattle.board.specs.Rows.{lists, legal, lists_fit, half, find_row}
use Rattle.board.specs.State.{slot_at, link_at, carries, pairs, no_link, fresh, with_slot, with_link}
use Rattle.board.specs.Sending.{Framed, spent}
use Rattle.board.specs.Requests.{Left, Changed, Freed, slot_of, link_of, free_link, holds, added, make}
use Rattle.board.proofs.Found.{slot-place}
use Rattle.board.proofs.Halves.{legal-twice}
use Rattle.network.specs.Opening.{floor_at, floor_of, row_for}
use Rattle.aps.specs.Opening.{with_floor}
use Rattle.commands.specs.declared.Command.{Command}
use Rattle.commands.specs.Writing.{aps_raised}
use Rattle.router.specs.declared.Portion.TheVariants.{Whole}
use Rattle.router.specs.Routing.{RouteTold, onward, halted, route, handed_on}
use Rattle.board.specs.Requests as requests
use Rattle.board.specs.Mark as marks
use Rattle.board.specs.Mark.{with_mark, move_mark}
use Rattle.network.specs.Opening.{Lent, Opening}
use Rattle.network.proofs.Ways as network
use Rattle.seals.specs.Sealing.{plain_frame}
use Rattle.octets.specs.Lists.{onto, eq_list}
use Rattle.aps.proofs.Ways as aps

-- with m rows a slot
pub record Stands (m : ℕ) (x : Held) (h : List Event) : Type 0 where
  pub slots : Slots x.board.slots (λ i. key_in h (slot i))
  pub rows : Rows m x.lists.addrs x.lists.floors (λ i a. counters a (heard_in h (slot i))) (λ i. names (heard_in h (slot i)))
  pub links : Links x.board.links (λ a. key_in h (link a)) (λ a. counters a (heard_in h (link a)))

pub stands-fresh : (m n own k : ℕ) → n ≡ 2 * m → Stands m (start n own k) []
unfolding make
stands-fresh m n own k e = rw e (choose P (no_address own) _ _ (λ _. fresh-so 0 0) (λ _. fresh-so own k))
  where
    P : Changed → Type 0
    P r = Stands m (held r.board (lists (zeroes (2 * m)) (zeroes (2 * m)))) []

    fresh-so : (a j : ℕ) → Stands m (held (fresh a j) (lists (zeroes (2 * m)) (zeroes (2 * m)))) []
    fresh-so a j = record { slots = slots-fresh a j; rows = rows-fresh m; links = links-fresh a j }

-- whatever was before a cut
stands-again : (m : ℕ) (x : Held) (h : List Event) → Stands m x [] → Stands m x (lost ∷ h)
stands-again m x h w = record { slots = w.slots; rows = w.rows; links = w.links }

-- a function of a choice
pick-over : {A B : Type 0} (f : A → B) (t : Bool) (x y : A) → (if t then f x else f y) ≡ f (if t then x else y)
pick-over f true x y = refl
pick-over f false x y = refl

-- the network layer looks at no sender that the caller gives
pub given-none : (z : Settings) (f : List ℕ) (g : ℕ) → reading z Network f g ≡ reading z Network f 0
unfolding reading
given-none z f g = go (read_header Network f)
  where
    go : (x : Header) → read_behind z Network f g x ≡ read_behind z Network f 0 x
    go (unfit n) = refl
    go (header n true) = refl
    go (header n false) = refl

-- nobody's address is no sender's
pub sender-some : (z : Settings) (l : Layer) (f : List ℕ) (g : ℕ) (s : Secured) → reading z l f g ≡ secured s → s.sender ≡ 0 → ⊥
unfolding no_address
sender-some z Network f g s e u = clash (ap no_address u) (secured-frame z Network f g s e).someone
sender-some z Aps f g s e u = clash (ap no_address u) (secured-frame z Aps f g s e).someone

-- ---- one call

module _ (z : Settings) (m : ℕ) (x : Held) (h : List Event) (w : Stands m x h) where
  abbrev b : Board
  b = x.board

  -- the number that is taken from the lists is the slots'
  pub half_is : half x.lists ≡ m
  half_is = let long = w.rows.addrs in omega arith

  -- call c may end in y: what y leaves means what the call and y's reply tell
  abbrev Ends : Call → Step → Type 0
  Ends c y = Stands m y.after (events_of z h c y.reply ++ h)

  abbrev After : Call → Type 0
  After c = Ends c (step z c x)

  -- ---- network keys

  pub stands-install : (i n : ℕ) (k : Key) → After (install i n k)
  unfolding requests.install
  stands-install i n k =
      choose P (not (lists_fit x.lists)) _ _ (λ _. w) λ _.
      choose P (ltb 1 i) _ _ (λ _. w) λ e.
      choose P (carries (slot_at b.slots (1 - i)) n) _ _ (λ _. w) λ _.
      choose P (holds (slot_at b.slots i) n k) _ _ (λ f. again (ltb-false 1 i e) f) (λ f. anew (ltb-false 1 i e) f)
    where
      P : Left → Type 0
      P r = Ends (install i n k) (by_lists r)

      new : Held
      new = held (with_slot b i (requests.installed n k)) (requests.rows_freed (half x.lists) x.lists i)

      told : i ≤ 1 → holds (slot_at b.slots i) n k ≡ same_key (key_in h (slot i)) (key n k)
      told l = keeps_same (slot_at b.slots i) (key_in h (slot i)) n k (w.slots.keeps i (omega arith))

      again : i ≤ 1 → holds (slot_at b.slots i) n k ≡ true → Stands m x (installing h (slot i) (key n k) ++ h)
      again l f = rw (sym (told l) ∙ f) w

      put : i < 2 → Stands m new (keyed (slot i) (key n k) ∷ h)
      put l =
          rw half_is
          record {
            slots = install-slot w.slots i n k l;
            rows = rows_ext (clear-rows m w.rows i l) (λ j b. pick-over (counters b) (eqb i j) [] (heard_in h (slot j)))
                (λ j. pick-over names (eqb i j) [] (heard_in h (slot j)));
            links = w.links;
          }

      anew : i ≤ 1 → holds (slot_at b.slots i) n k ≡ false → Stands m new (installing h (slot i) (key n k) ++ h)
      anew l f = rw (sym (told l) ∙ f) (put (omega arith))

  pub stands-switch : (n : ℕ) → After (switch n)
  unfolding requests.switch
  stands-switch n = go (slot_of b.slots n)
    where
      go : (p : Option ℕ) → Ends (switch n) (by_board x (requests.switch_to b p))
      go (Some i) = record { slots = w.slots; rows = w.rows; links = w.links }
      go None = w

  pub stands-forget : (i a : ℕ) → After (forget i a)
  unfolding requests.forget
  stands-forget i a =
      choose P (not (lists_fit x.lists)) _ _ (λ _. w) λ _.
      choose P (ltb 1 i) _ _ (λ _. w) λ e.
      choose P (eqb a 0) _ _ (λ _. w) λ f.
      go (ltb-false 1 i e) (eqb-false a 0 f) (find_row x.lists.addrs (i * half x.lists) (half x.lists) a) refl
    where
      lost : (j c : ℕ) → (if both (eqb i j) (eqb a c) then [] else counters c (heard_in h (slot j)))
          ≡ counters c (if eqb i j then without a (heard_in h (slot j)) else heard_in h (slot j))
      lost j c = by (eqb i j) (eqb a c) refl
        where
          by : (t u : Bool) → eqb a c ≡ u → (if both t u then [] else counters c (heard_in h (slot j)))
              ≡ counters c (if t then without a (heard_in h (slot j)) else heard_in h (slot j))
          by true true f =
              sym (ap (λ (y : ℕ). counters y (without a (heard_in h (slot j)))) (sym (eqb-true a c f))
              ∙ counters-gone a (heard_in h (slot j)))
          by true false f = sym (counters-other a c (heard_in h (slot j)) (eqb-false a c f))
          by false u f = refl

      gone : (j : ℕ) → (if eqb i j then less a (names (heard_in h (slot j))) else names (heard_in h (slot j)))
          ≡ names (if eqb i j then without a (heard_in h (slot j)) else heard_in h (slot j))
      gone j = by (eqb i j)
        where
          by : (t : Bool) → (if t then less a (names (heard_in h (slot j))) else names (heard_in h (slot j)))
              ≡ names (if t then without a (heard_in h (slot j)) else heard_in h (slot j))
          by true = sym (names-without a (heard_in h (slot j)))
          by false = refl

      P : Freed → Type 0
      P r = Ends (forget i a) (by_rows x r)

      go : i ≤ 1 → (a ≡ 0 → ⊥) → (p : Option ℕ) → find_row x.lists.addrs (i * half x.lists) (half x.lists) a ≡ p → P (requests.forget_at x.lists p)
      go l az (Some r) e =
          let i< : i < 2 = omega arith in
          let at-half = ap (λ (y : ℕ). find_row x.lists.addrs (i * y) y a) (sym half_is) in
          record {
            slots = w.slots;
            rows = rows_ext (lose-rows m w.rows i i< a az r (sym (row-there m w.rows i i< a) ∙ at-half ∙ e)) lost gone;
            links = w.links;
          }
      go l az None e = w

  -- ---- link keys

  pub stands-add : (a : ℕ) (k : Key) → After (add_link a k)
  unfolding requests.add_link
  stands-add a k = choose P (no_address a) _ _ (λ _. w) λ _. place (link_of b.links a) refl (w.links.tells a)
    where
      P : Changed → Type 0
      P r = Ends (add_link a k) (by_board x r)

      now : pairs (added a k) a ≡ true
      now = pair-mine (added a k) a refl refl

      -- entry i is for the partner now
      put : (i : ℕ) → i < 8 → ((c : ℕ) → (c ≡ a → ⊥) → pairs_at b.links c i ≡ false)
          → ((j : ℕ) → j < 8 → (j ≡ i → ⊥) → pairs_at b.links a j ≡ false) → same_key (key_in h (link a)) (key 0 k) ≡ false
          → P (requests.changed done (with_link b i (added a k)))
      put i i< was others e =
          rw e
          (record {
            slots = w.slots;
            rows = w.rows;
            links = links-ext
                (entry-put w.links i a (added a k) i< was (λ c ne. pair-other (added a k) a c now ne) others k [] now refl refl)
                (λ c. refl) (λ c. pick-over (counters c) (eqb a c) [] (heard_in h (link c)));
          })

      new : (p : Option ℕ) → free_link b.links ≡ p → link_of b.links a ≡ None → key_in h (link a) ≡ none → P (requests.add_new b a k p)
      new (Some i) e f t =
          let g = free w.links a i f e in
          put i g.0 g.1 g.2 (ap (λ (y : Installation). same_key y (key 0 k)) t)
      new None e f t = w

      place : (p : Option ℕ) → link_of b.links a ≡ p → Tells b.links p (key_in h (link a)) (counters a (heard_in h (link a)))
          → P (requests.add_to b a k p)
      place (Some i) e t =
          let same : Bool = eq_list (link_at b.links i).key k.octets in
          let told : same_key (key_in h (link a)) (key 0 k) ≡ same = ap (λ (y : Installation). same_key y (key 0 k)) t.0 in
          let g = mine w.links a i e in
          choose P same _ _ (λ f. rw (told ∙ f) w)
          (λ f. put i g.low g.was g.others (told ∙ f))
      place None e t = new (free_link b.links) refl e t

  pub stands-remove : (a : ℕ) → After (remove_link a)
  unfolding requests.remove_link
  stands-remove a = choose P (eqb a 0) _ _ (λ _. w) λ _. place (link_of b.links a) refl
    where
      P : Changed → Type 0
      P r = Ends (remove_link a) (by_board x r)

      place : (p : Option ℕ) → link_of b.links a ≡ p → P (requests.remove_at b p)
      place (Some i) e =
          let g = mine w.links a i e in
          record {
            slots = w.slots;
            rows = w.rows;
            links = links-ext
                (entry_gone w.links i a no_link g.low g.was (λ c ne. pair-free no_link c refl) g.others (pair-free no_link a refl))
                (λ c. refl) (λ c. pick-over (counters c) (eqb a c) [] (heard_in h (link c)));
          }
      place None e = w

  -- ---- opening

  pub slot-for : (n : ℕ) → slot_for h n ≡ slot_of b.slots n
  unfolding slot_for
  slot-for n = sym (slot-told w.slots n)

  pub stands-network : (f : List ℕ) (g : ℕ) (o : List ℕ) → After (opening Network f g o)
  unfolding floor_of
  stands-network f g o = network.open-ways z b f lent P (λ n. w) (λ n p e. rw (given-none z f g ∙ e) w) passed
    where
      lent : Lent
      lent = record { lists = x.lists; out = o }

      P : Opening → Type 0
      P r = Ends (opening Network f g o) (by_network x r)

      left : Secured → ℕ → Held
      left s r = held b (lists (set x.lists.addrs r s.sender) (set x.lists.floors r (s.counter + 1)))

      passed : (s : Secured) (i r n : ℕ) (p : List ℕ) → network.Passed z b f lent s i r
          → Stands m (left s r) (hearing h Network f (take n p) (reading z Network f g) ++ h)
      passed s i r n p t =
          rw (given-none z f g ∙ t.read, slot-for s.sequence, t.found)
          (record {
            slots = w.slots;
            rows = rows_ext (hear-rows m w.rows i i< s.sender az r s.counter row least) (λ j c. more (eqb i j) j c)
                (λ j. pick-over names (eqb i j) (new ∷ heard_in h (slot j)) (heard_in h (slot j)));
            links = w.links;
          })
        where
          new : HeardFrame
          new = record { sender = s.sender; counter = s.counter; octets = f; plain = take n p }

          more : (t : Bool) (j c : ℕ)
              → (if both t (eqb s.sender c) then s.counter ∷ counters c (heard_in h (slot j)) else counters c (heard_in h (slot j)))
              ≡ counters c (if t then new ∷ heard_in h (slot j) else heard_in h (slot j))
          more true j c = refl
          more false j c = refl

          i< : i < 2
          i< = slot-place b.slots s.sequence i t.found

          az : s.sender ≡ 0 → ⊥
          az = sender-some z Network f 0 s t.read

          row : row_for m x.lists i s.sender ≡ Some r
          row = ap (λ (y : ℕ). row_for y x.lists i s.sender) (sym half_is) ∙ t.row

          least : bound (counters s.sender (heard_in h (slot i))) ≤ s.counter
          least =
              let there = ap (floor_at x.lists.floors) (row-there m w.rows i i< s.sender) in
              let halves = ap (λ (y : ℕ). floor_of y x.lists i s.sender) half_is in
              omega (arith, t.least, w.rows.floor i s.sender i< az, there, halves)

  pub stands-aps : (f : List ℕ) (g : ℕ) (o : List ℕ) → After (opening Aps f g o)
  unfolding pairs
  stands-aps f g o = aps.open-ways z b f g o P (λ n. w) (λ n e. rw e w)
      (λ s i t. passed s i (s.header + length t.message) (onto (plain_frame Aps f s t.message) o) t)
    where
      P : Framed → Type 0
      P r = Ends (opening Aps f g o) (by_frame x r)

      passed : (s : Secured) (i n : ℕ) (p : List ℕ) → aps.Passed z b f g s i
          → Stands m (held (with_floor b i (s.counter + 1)) x.lists) (hearing h Aps f (take n p) (reading z Aps f g) ++ h)
      passed s i n p t = rw t.read (record { slots = w.slots; rows = w.rows; links = links-ext put keys-so opened-so })
        where
          a : ℕ
          a = s.sender

          new : HeardFrame
          new = record { sender = s.sender; counter = s.counter; octets = f; plain = take n p }

          entry : Link
          entry =
              record {
                present = (link_at b.links i).present;
                partner = (link_at b.links i).partner;
                key = (link_at b.links i).key;
                floor = s.counter + 1;
              }

          g' : Mine w.links a i
          g' = mine w.links a i t.found

          told : Tells b.links (Some i) (key_in h (link a)) (counters a (heard_in h (link a)))
          told =
              subst (λ (p : Option ℕ). Tells b.links p (key_in h (link a)) (counters a (heard_in h (link a)))) t.found
              (w.links.tells a)

          pairing : pairs entry a ≡ true
          pairing = g'.pairing

          put : Links (set b.links i entry) (λ c. if eqb a c then key 0 (the_key (link_at b.links i).key) else key_in h (link c))
              (λ c. if eqb a c then s.counter ∷ counters a (heard_in h (link a)) else counters c (heard_in h (link c)))
          put =
              entry-put w.links i a entry g'.low g'.was (λ c ne. pair-other entry a c pairing ne) g'.others
              (the_key (link_at b.links i).key) (s.counter ∷ counters a (heard_in h (link a))) pairing refl
              (sym (bound-more s.counter (counters a (heard_in h (link a))) (omega (arith, t.least, told.1))))

          keys-so : (c : ℕ) → (if eqb a c then key 0 (the_key (link_at b.links i).key) else key_in h (link c)) ≡ key_in h (link c)
          keys-so c = go (eqb a c) refl
            where
              go : (u : Bool) → eqb a c ≡ u → (if u then key 0 (the_key (link_at b.links i).key) else key_in h (link c)) ≡ key_in h (link c)
              go true e = sym told.0 ∙ ap (λ (y : ℕ). key_in h (link y)) (eqb-true a c e)
              go false e = refl

          opened-so : (c : ℕ) → (if eqb a c then s.counter ∷ counters a (heard_in h (link a)) else counters c (heard_in h (link c)))
              ≡ counters c (if eqb a c then new ∷ heard_in h (link c) else heard_in h (link c))
          opened-so c = go (eqb a c) refl
            where
              go : (u : Bool) → eqb a c ≡ u → (if u then s.counter ∷ counters a (heard_in h (link a)) else counters c (heard_in h (link c)))
                  ≡ counters c (if u then new ∷ heard_in h (link c) else heard_in h (link c))
              go true e = rw e (ap (λ (y : ℕ). s.counter ∷ counters y (heard_in h (link y))) (eqb-true a c e))
              go false e = refl

  -- ---- sealing

  pub stands-seal : (l : Layer) (f : List ℕ) (a k : ℕ) (o : List ℕ) → After (sealing l f a k o)
  unfolding spent
  stands-seal Network f a k o =
      network-seals z b f o (λ (r : Framed). Ends (sealing Network f a k o) (by_frame x r)) (λ n. w)
      (λ n p t. record { slots = w.slots; rows = w.rows; links = w.links })
  stands-seal Aps f a k o =
      aps-seals z b f o (λ (r : Framed). Ends (sealing Aps f a k o) (by_frame x r)) (λ n. w) a k
      (λ n p t. record { slots = w.slots; rows = w.rows; links = w.links })

  -- the writer moves the APS counter, and nothing else
  pub stands-write : (a : Bool) (c : Command) (k r o : List ℕ) → After (writing a c k r o)
  unfolding aps_raised
  stands-write a c k r o =
      writes z b a c k r o (λ (y : Framed). Ends (writing a c k r o) (by_frame x y)) (λ n. w)
      (λ n p. record { slots = w.slots; rows = w.rows; links = w.links })

  -- the router moves nothing
  pub stands-route : (f : List ℕ) (p : ProtectionTold) → After (routing f p)
  stands-route f p = go (route z f p)
    where
      go : (t : RouteTold) → Stands m x (events_of z h (routing f p) (sent_on t (handed_on z Whole f p)) ++ h)
      go (onward a) = w
      go (halted n) = w

  -- the mark is no part of what is told
  pub stands-mark : (k : ℕ) → After (marked k)
  unfolding move_mark
  stands-mark k = choose P (eqb k (marks.next_mark b.mark)) _ _ (λ _. moved) (λ _. w)
    where
      P : Changed → Type 0
      P r = Ends (marked k) (by_board x r)

      moved : Stands m (held (with_mark b k) x.lists) h
      moved = record { slots = w.slots; rows = w.rows; links = w.links }

  -- ---- any call

  pub stands-step : (c : Call) → After c
  stands-step (install i n k) = stands-install i n k
  stands-step (switch n) = stands-switch n
  stands-step (add_link a k) = stands-add a k
  stands-step (remove_link a) = stands-remove a
  stands-step (forget i a) = stands-forget i a
  stands-step (opening Network f g o) = stands-network f g o
  stands-step (opening Aps f g o) = stands-aps f g o
  stands-step (sealing l f a k o) = stands-seal l f a k o
  stands-step (looking Network f g) = w
  stands-step (looking Aps f g) = w
  stands-step (writing a c k r o) = stands-write a c k r o
  stands-step (routing f p) = stands-route f p
  stands-step next_mark = w
  stands-step (marked k) = stands-mark k

-- after any deeds
pub stands : (z : Settings) (n own found : ℕ) → legal n ≡ true → (ds : List (Deed Call))
    → Stands (n / 2) (run z n own found ds) (story z (log (replies z n own found) ds))
stands z n own found fit [] = stands-fresh (n / 2) n own found (legal-twice n fit)
stands z n own found fit (called c ∷ ds) =
    stands-step z (n / 2) (run z n own found ds) (story z (log (replies z n own found) ds)) (stands z n own found fit ds) c
stands z n own found fit (wrote m ∷ ds) = stands z n own found fit ds
stands z n own found fit (cut ∷ ds) =
    stands-again (n / 2) (start n own (stored found ds)) (story z (log (replies z n own found) ds))
    (stands-fresh (n / 2) n own (stored found ds) (legal-twice n fit))
