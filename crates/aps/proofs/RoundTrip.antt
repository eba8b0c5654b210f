-- Demand 2 at the APS layer: what was sealed under identifier 0, 2 or 3 opens, at any board that finds the same key for it and
-- has no other cause to refuse, to the same plain frame, with the sender, counter and protection of the seal. The causes are
-- document 01's checks. So it is over any fair settings.
-- Assumes nothing.
use Rattle.std.proofs.Common.{Some}
use mathlib.Core.Path.{◌≡◌, sym, ap, ap₂, subst, ◌∙◌}
use mathlib.Core.Bool.{true, false}
use mathlib.Core.List.{List}
use Prim.Native.Nat.{ℕ, ◌+◌, ◌≤◌, ◌<◌, ◌^◌}
use native.Mathlib.Omega.{arith}
use lib.ListN.{length, take, drop, length-drop}
use lib.Seq.{take_at}
use borrow.Author.Tests.{ne_eqb, le-ltb}
use Rattle.settings.specs.Settings.{Settings, longest, longest_aps, aps_aux, top, longest_aps_plain}
use Rattle.octets.specs.Addresses.{no_address}
use Rattle.octets.specs.Keys.{Key, the_key}
use Rattle.octets.specs.Lists.{onto, Octets}
use Rattle.answers.specs.Numbers.{under, opened, sealed, turned_down}
use Rattle.cipher.specs.Ccm.{valid}
use Rattle.frames.specs.declared.Layer.TheVariants.{Aps}
use Rattle.frames.specs.declared.Secured.{Secured}
use Rattle.frames.specs.Security.{identifier_of, wire_control}
use Rattle.frames.proofs.Controls.{wire-identifier}
use Rattle.frames.proofs.Found.{plain-to-seal}
use Rattle.board.specs.declared.Board.{Board}
use Rattle.board.specs.State.{link_at}
use Rattle.board.specs.Requests.{link_of}
use Rattle.board.specs.Sending.{spent, Framed, framed}
use Rattle.seals.specs.Sealing.{Fair, message_of, plain_frame, sealed_frame}
use Rattle.seals.proofs.Again.{ToSeal, announcing, read_again, message-again, plain-again, length-again}
use Rattle.aps.specs.Keys.{key_for}
use Rattle.aps.specs.Opening.{with_floor, admitted, opened_under, opened_keyed, opened_read, open_aps}
use Rattle.aps.specs.Sealing.{named, seal_aps}
use Rattle.aps.proofs.Sends.{named-most, suited-named, sent-named}
use Rattle.aps.proofs.Ways.{Sealing, frame_by, frame-length, seal-ways}

-- a board c and an output that have no cause to refuse the frame: 1; the link key that is found for its sender (6); its counter
-- is not below the floor (8). That it is not the top (7) the seal tells.
pub record Opens (link : Key) (n a : ℕ) (c : Board) (o : List ℕ) (i : ℕ) : Type 0 where
  pub room : longest ≤ length o
  pub found : link_of c.links a ≡ Some i
  pub same : the_key (link_at c.links i).key ≡ link
  pub fresh : (link_at c.links i).floor ≤ n

module _ (z : Settings) (fair : Fair z) (link : Key) (f : List ℕ) (h k n a : ℕ) (p : ToSeal Aps f h k n a) (nk : named k ≡ true)
    (short : length f ≤ longest_aps_plain z) (below : n ≡ top → ⊥) where
  abbrev g : List ℕ
  g = sealed_frame z (key_for link k) Aps k n a 0 f h

  abbrev s : Secured
  s = announcing h k n a 0

  g-length : length g ≤ longest_aps
  g-length =
      let w = plain-to-seal Aps f h p.unsecured in
      omega (arith, w.least, w.within, length-again z (key_for link k) 0 p, sent-named k nk)

  plain-count : h + length (drop h f) ≡ length f
  plain-count = let w = (plain-to-seal Aps f h p.unsecured).within in omega (arith, length-drop h f)

  named-so : identifier_of (wire_control k) ≡ k
  named-so = let b = named-most k nk in wire-identifier k (omega arith)

  module _ (c : Board) (o : List ℕ) (i : ℕ) (w : Opens link n a c o i) where
    opened-entry : admitted c g s o i (valid (drop h f)) ≡ framed (opened (length f) a (under k)) (with_floor c i (n + 1)) (onto f o)
    unfolding admitted
    opened-entry =
        ap₂ (λ (x y : ℕ). framed (opened x a (under y)) (with_floor c i (n + 1)) (onto (plain_frame Aps g s (drop h f)) o))
        plain-count named-so
        ∙ ap (λ (x : List ℕ). framed (opened (length f) a (under k)) (with_floor c i (n + 1)) (onto x o))
        (plain-again z (key_for link k) 0 p)

    key-found : key_for (the_key (link_at c.links i).key) (identifier_of (wire_control k)) ≡ key_for link k
    key-found = ap₂ key_for w.same named-so

    unsealed : opened_under z c g s o i ≡ framed (opened (length f) a (under k)) (with_floor c i (n + 1)) (onto f o)
    unfolding opened_under
    unsealed =
        simp (ne_eqb _ _ below, le-ltb _ _ w.fresh)
        (ap (λ (x : Key). admitted c g s o i (message_of z x g s)) key-found
        ∙ ap (admitted c g s o i) (message-again z (key_for link k) 0 p fair) ∙ opened-entry)

    pub opens-again : (given : ℕ) → open_aps z c g given o ≡ framed (opened (length f) a (under k)) (with_floor c i (n + 1)) (onto f o)
    unfolding open_aps opened_read opened_keyed
    opens-again given =
        simp (le-ltb _ _ w.room, le-ltb _ _ g-length)
        (ap (opened_read z c g o) (read_again z (key_for link k) 0 p given) ∙ ap (opened_keyed z c g s o) w.found ∙ unsealed)

-- ---- two boards

module _ (z : Settings) (b : Board) (f : List ℕ) (a k : ℕ) (o : List ℕ) (m : ℕ) where
  -- what a seal that answered m octets tells: the checks that the frame passed, by which entry and header; that the secured
  -- frame is longer by auxiliary header and tag; and what is left, the counter spent and the frame in the output
  pub record Tells (r : Framed) : Type 0 where
    pub seal : Sealing z b f a k
    pub count : m ≡ length f + (aps_aux + z.tag)
    pub left : r ≡ framed (sealed m) (spent b) (onto (frame_by seal) o)

  down-seal : {A : Type 0} (n : ℕ) → turned_down n ≡ sealed m → A
  down-seal n e = let never : ◌≡◌ {A = ℕ} 0 1 = cc in absurd (omega arith)

  pub seal-tells : (seal_aps z b f a k o).answer ≡ sealed m → Tells (seal_aps z b f a k o)
  seal-tells =
      seal-ways z b f a k o (λ (r : Framed). r.answer ≡ sealed m → Tells r) (λ n e. down-seal n e)
      λ s e.
      let d : length (frame_by s) ≡ m = cc in
      record {
        seal = s;
        count = sym d ∙ frame-length s;
        left = ap (λ (x : ℕ). framed (sealed x) (spent b) (onto (frame_by s) o)) d;
      }

-- the frame that b sealed for partner a, whose entry is x, opened by c, whatever sender c's caller gives
pub round_trip : (z : Settings) → Fair z → (b : Board) (f : List ℕ) (a k : ℕ) (o : List ℕ) (m x : ℕ) → Octets f → b.outgoing < 2 ^ 32
    → b.own < 2 ^ 64 → no_address b.own ≡ false → (seal_aps z b f a k o).answer ≡ sealed m → link_of b.links a ≡ Some x
    → (c : Board) (given : ℕ) (p : List ℕ) (i : ℕ) → Opens (the_key (link_at b.links x).key) b.outgoing b.own c p i
    → open_aps z c (take m (seal_aps z b f a k o).out) given p
    ≡ framed (opened (length f) b.own (under k)) (with_floor c i (b.outgoing + 1)) (onto f p)
round_trip z fair b f a k o m x of hn ha ho e ex c given p i w =
    ap (λ (y : List ℕ). open_aps z c y given p) front
    ∙ opens-again z fair link f t.header k b.outgoing b.own sealed_so t.identified t.short t.below c p i found given
  where
    told : Tells z b f a k o m (seal_aps z b f a k o)
    told = seal-tells z b f a k o m e

    t : Sealing z b f a k
    t = told.seal

    link : Key
    link = the_key (link_at b.links t.entry).key

    this : x ≡ t.entry
    this = let d = sym ex ∙ t.partner in cc

    found : Opens link b.outgoing b.own c p i
    found = subst (λ (y : ℕ). Opens (the_key (link_at b.links y).key) b.outgoing b.own c p i) this w

    sealed_so : ToSeal Aps f t.header k b.outgoing b.own
    sealed_so =
        record {
          unsecured = t.unsecured;
          octets = of;
          suited = suited-named k t.identified;
          counter = hn;
          sender = ha;
          someone = ho;
        }

    front : take m (seal_aps z b f a k o).out ≡ frame_by t
    front =
        ap (λ (r : Framed). take m r.out) told.left
        ∙ take_at (frame_by t) (drop (length (frame_by t)) o) m (frame-length t ∙ sym told.count)
