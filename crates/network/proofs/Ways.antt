-- The ways in which opening and sealing end, each once: what holds of every way out holds of the request.
-- Assumes nothing.
use Rattle.std.proofs.Common.{Option, Some, None}
use mathlib.Core.Path.{◌≡◌, refl}
use mathlib.Core.Bool.{true, not}
use mathlib.Core.List.{List}
use Prim.Native.Nat.{ℕ, ◌+◌, ◌<◌, ◌≤◌}
use lib.Dec.{eqb, leb, ltb}
use lib.ListN.{length}
use borrow.Author.Tests.{ltb-false, leb-true}
use Rattle.settings.specs.Settings.{Settings, longest, longest_plain, top}
use Rattle.octets.proofs.Choices.{choose, both-parts}
use Rattle.octets.specs.Choice.{both}
use Rattle.octets.specs.Keys.{the_key}
use Rattle.octets.specs.Lists.{onto}
use Rattle.network.specs.Sealing.{identifier, sealed_under, sealed_by, sealed_read, seal_network}
use Rattle.network.specs.Opening.{Lent, Opening, leaving, floor_of, row_for, with_row}
use Rattle.network.specs.Opening.{admitted, opened_under, opened_keyed, opened_read, open_network}
use Rattle.answers.specs.Numbers.{clear, under, opened, sealed, turned_down}
use Rattle.cipher.specs.Ccm.{Verdict, valid, invalid}
use Rattle.frames.specs.declared.Layer.TheVariants.{Network}
use Rattle.frames.specs.declared.Secured.{Secured}
use Rattle.frames.specs.Reading.{Reading, refused, plain, secured, reading, PlainReading, unread, headed, reading_plain}
use Rattle.frames.proofs.Found.{plain-to-seal}
use Rattle.board.specs.declared.Board.{Board}
use Rattle.board.specs.Rows.{lists_fit, half}
use Rattle.board.specs.State.{slot_at}
use Rattle.board.specs.Requests.{slot_of}
use Rattle.board.specs.Sending.{spent, Framed, framed}
use Rattle.board.proofs.Sends.{by-sending}
use Rattle.seals.specs.Sealing.{message_of, sent_octets, sealed_frame}
use Rattle.seals.proofs.Securing.{sealed-length}

-- ---- opening

module _ (z : Settings) (b : Board) (f : List ℕ) (w : Lent) where
  -- a secured frame that passed every check, under slot i and with row r
  pub record Passed (s : Secured) (i r : ℕ) : Type 0 where
    pub read : reading z Network f 0 ≡ secured s
    pub found : slot_of b.slots s.sequence ≡ Some i
    pub least : floor_of (half w.lists) w.lists i s.sender ≤ s.counter
    pub row : row_for (half w.lists) w.lists i s.sender ≡ Some r

  pub open-ways : (P : Opening → Type 0) → ((n : ℕ) → P (leaving (turned_down n) w))
      → ((n : ℕ) (p : List ℕ) → reading z Network f 0 ≡ plain n
      → P (leaving (opened (length f) 0 clear) (record { lists = w.lists; out = p })))
      → ((s : Secured) (i r n : ℕ) (p : List ℕ) → Passed s i r
      → P (leaving (opened n s.sender (under 1)) (record { lists = with_row w.lists r s.sender (s.counter + 1); out = p })))
      → P (open_network z b f w)
  unfolding open_network opened_read opened_keyed opened_under admitted
  open-ways P down unsecured passed =
      choose P (not (both (leb longest (length w.out)) (lists_fit w.lists))) _ _ (λ _. down 1) λ _.
      choose P (ltb longest (length f)) _ _ (λ _. down 2) λ _.
      read (reading z Network f 0) refl
    where
      admit : (s : Secured) (i : ℕ) → reading z Network f 0 ≡ secured s → slot_of b.slots s.sequence ≡ Some i
          → floor_of (half w.lists) w.lists i s.sender ≤ s.counter → (v : Verdict) (p : Option ℕ) → row_for (half w.lists) w.lists i s.sender ≡ p
          → P (admitted f s w v p)
      admit s i e g h invalid p q = down 9
      admit s i e g h (valid d) None q = down 10
      admit s i e g h (valid d) (Some r) q = passed s i r _ _ (record { read = e; found = g; least = h; row = q })

      keyed : (s : Secured) → reading z Network f 0 ≡ secured s → (p : Option ℕ) → slot_of b.slots s.sequence ≡ p
          → P (opened_keyed z (half w.lists) b.slots f s w p)
      keyed s e None g = down 6
      keyed s e (Some i) g =
          choose P (eqb s.counter top) _ _ (λ _. down 7) λ _.
          choose P (ltb s.counter (floor_of (half w.lists) w.lists i s.sender)) _ _ (λ _. down 8) λ h.
          admit s i e g (ltb-false _ _ h) (message_of z (the_key (slot_at b.slots i).key) f s) (row_for (half w.lists) w.lists i s.sender) refl

      read : (r : Reading) → reading z Network f 0 ≡ r → P (opened_read z (half w.lists) b.slots f w r)
      read (refused n) e = down n
      read (plain n) e = unsecured n _ e
      read (secured s) e = keyed s e (slot_of b.slots s.sequence) refl

-- ---- sealing

module _ (z : Settings) (b : Board) (f : List ℕ) where
  -- a plain frame that passed every check: the slot that is active is one of the two and present, the header's length, and a
  -- counter that is not the top and is below the mark
  pub record Sealing : Type 0 where
    pub slot : ℕ
    pub active : b.active ≡ Some slot
    pub among : slot ≤ 1
    pub present : (slot_at b.slots slot).present ≡ true
    pub header : ℕ
    pub unsecured : reading_plain Network f ≡ headed header
    pub short : length f ≤ longest_plain z
    pub below : b.outgoing ≡ top → ⊥
    pub marked : b.outgoing < b.mark

  -- the frame that it makes: under that slot's key, with that slot's sequence number
  abbrev pub frame_sent : Sealing → List ℕ
  frame_sent s =
      sealed_frame z (the_key (slot_at b.slots s.slot).key) Network identifier b.outgoing b.own
      (slot_at b.slots s.slot).seq f s.header

  pub frame-length : (s : Sealing) → length (frame_sent s) ≡ length f + sent_octets identifier + z.tag
  frame-length s = sealed-length z _ Network identifier _ _ _ f s.header (plain-to-seal Network f s.header s.unsecured).within

  pub seal-ways : (o : List ℕ) (P : Framed → Type 0) → ((n : ℕ) → P (framed (turned_down n) b o))
      → ((s : Sealing) → P (framed (sealed (length (frame_sent s))) (spent b) (onto (frame_sent s) o))) → P (seal_network z b f o)
  unfolding seal_network sealed_read sealed_by sealed_under
  seal-ways o P down made =
      choose P (ltb (length o) longest) _ _ (λ _. down 1) λ _.
      choose P (ltb (longest_plain z) (length f)) _ _ (λ _. down 2) λ q.
      read (ltb-false _ _ q) (reading_plain Network f) refl
    where
      by : (h : ℕ) → reading_plain Network f ≡ headed h → length f ≤ longest_plain z → (x : Option ℕ) → b.active ≡ x → P (sealed_by z b f o h x)
      by h e k None a = down 6
      by h e k (Some i) a =
          choose P (both (leb i 1) (slot_at b.slots i).present) _ _
          (λ t. let w = both-parts (leb i 1) (slot_at b.slots i).present t in
          by-sending P b _ o down
          λ d u. made
          (record {
            slot = i;
            active = a;
            among = leb-true i 1 w.0;
            present = w.1;
            header = h;
            unsecured = e;
            short = k;
            below = d;
            marked = u;
          }))
          (λ _. down 6)

      read : length f ≤ longest_plain z → (r : PlainReading) → reading_plain Network f ≡ r → P (sealed_read z b f o r)
      read k (unread n) e = down n
      read k (headed h) e = by h e k b.active refl
