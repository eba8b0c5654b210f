-- Demand 2 at the network layer: what was sealed opens, at any board that finds the same key for it and has no other cause to
-- refuse, to the same plain frame, with the sender, counter and protection of the seal. The causes are document 01's checks.
-- Assumes nothing.
use Rattle.std.proofs.Common.{Option, Some}
use mathlib.Core.Path.{◌≡◌, refl, sym, ap, ap₂, subst, ◌∙◌}
use mathlib.Core.Bool.{true, false}
use mathlib.Core.List.{List}
use Prim.Native.Nat.{ℕ, ◌+◌, ◌≤◌, ◌<◌, ◌^◌}
use native.Mathlib.Omega.{arith}
use lib.ListN.{length, take, drop, length-drop}
use lib.Seq.{take_at}
use borrow.Author.Tests.{ne_eqb, le-ltb, le-leb}
use Rattle.settings.specs.Settings.{Settings, longest, longest_plain, network_aux, top}
use Rattle.octets.specs.Addresses.{no_address}
use Rattle.octets.specs.Keys.{Key, the_key}
use Rattle.octets.specs.Lists.{onto, Octets}
use Rattle.network.specs.Sealing.{identifier, seal_network}
use Rattle.network.specs.Opening.{Lent, Opening, leaving, floor_of, row_for, with_row}
use Rattle.network.specs.Opening.{admitted, opened_under, opened_keyed, opened_read, open_network}
use Rattle.answers.specs.Numbers.{under, opened, sealed}
use Rattle.cipher.specs.Ccm.{Verdict, valid}
use Rattle.cipher.proofs.Opens.{tag-most}
use Rattle.frames.specs.declared.Layer.TheVariants.{Network}
use Rattle.frames.specs.declared.Secured.{Secured}
use Rattle.frames.proofs.Found.{plain-to-seal}
use Rattle.board.specs.declared.Board.{Board}
use Rattle.board.specs.Sending.{spent, Framed}
use Rattle.board.specs.Rows.{lists_fit, half}
use Rattle.board.specs.State.{slot_at}
use Rattle.board.specs.Requests.{slot_of}
use Rattle.seals.specs.Sealing.{Fair, sent_octets, sealed_frame}
use Rattle.seals.proofs.Again.{ToSeal, announcing, read_again, message-again, plain-again, length-again}
use Rattle.network.proofs.Ways.{Sealing, frame_sent, frame-length, seal-ways}

-- ---- one frame

-- a board c, lists and an output that have no cause to refuse the frame: 1; the key that is found for its number (6); its
-- counter is not below the floor (8); and there is a row r for its sender (10). That it is not the top (7) the seal tells.
pub record Opens (z : Settings) (key : Key) (n a q : ℕ) (c : Board) (w : Lent) (j r : ℕ) : Type 0 where
  pub lists : lists_fit w.lists ≡ true
  pub room : longest ≤ length w.out
  pub found : slot_of c.slots q ≡ Some j
  pub same : the_key (slot_at c.slots j).key ≡ key
  pub fresh : floor_of (half w.lists) w.lists j a ≤ n
  pub row : row_for (half w.lists) w.lists j a ≡ Some r

-- the plain frame f opened, and row r has the sender a and the floor behind counter n
abbrev pub opened_with : List ℕ → ℕ → ℕ → Lent → ℕ → Opening
opened_with f n a w r =
    leaving (opened (length f) a (under identifier)) (record { lists = with_row w.lists r a (n + 1); out = onto f w.out })

module _ (z : Settings) (fair : Fair z) (key : Key) (f : List ℕ) (h n a q : ℕ) (p : ToSeal Network f h identifier n a)
    (short : length f ≤ longest_plain z) (below : n ≡ top → ⊥) where
  abbrev g : List ℕ
  g = sealed_frame z key Network identifier n a q f h

  abbrev s : Secured
  s = announcing h identifier n a q

  g-length : length g ≤ longest
  unfolding sent_octets
  g-length = omega (arith, length-again z key q p, tag-most z.tag fair.tag)

  plain-count : h + length (drop h f) ≡ length f
  plain-count = let w = (plain-to-seal Network f h p.unsecured).within in omega (arith, length-drop h f)

  module _ (c : Board) (w : Lent) (j r : ℕ) (t : Opens z key n a q c w j r) where
    opened-row : admitted g s w (valid (drop h f)) (Some r) ≡ opened_with f n a w r
    unfolding admitted
    opened-row =
        ap₂ (λ (x : ℕ) (y : List ℕ).
        leaving (opened x a (under identifier)) (record { lists = with_row w.lists r a (n + 1); out = onto y w.out }))
        plain-count (plain-again z key q p)

    unsealed : opened_under z (half w.lists) key j g s w ≡ opened_with f n a w r
    unfolding opened_under
    unsealed =
        simp (ne_eqb _ _ below, le-ltb _ _ t.fresh)
        (ap₂ (λ (x : Verdict) (y : Option ℕ). admitted g s w x y) (message-again z key q p fair) t.row ∙ opened-row)

    keyed : opened_keyed z (half w.lists) c.slots g s w (Some j) ≡ opened_with f n a w r
    unfolding opened_keyed
    keyed = ap (λ (x : Key). opened_under z (half w.lists) x j g s w) t.same ∙ unsealed

    pub opens-again : open_network z c g w ≡ opened_with f n a w r
    unfolding open_network opened_read
    opens-again =
        simp (le-leb _ _ t.room, t.lists, le-ltb _ _ g-length)
        (ap (opened_read z (half w.lists) c.slots g w) (read_again z key q p 0)
        ∙ ap (opened_keyed z (half w.lists) c.slots g s w) t.found ∙ keyed)

-- ---- two boards

-- what a seal that succeeded tells: that the frame passed every check, the length answered, the board left, and in the output
-- the frame that it makes
pub record SealTells (z : Settings) (b : Board) (f o : List ℕ) (m : ℕ) (r : Framed) : Type 0 where
  pub by : Sealing z b f
  pub count : m ≡ length f + network_aux + z.tag
  pub board : r.board ≡ spent b
  pub out : r.out ≡ onto (frame_sent z b f by) o

pub seal-tells : (z : Settings) (b : Board) (f o : List ℕ) (m : ℕ) → (seal_network z b f o).answer ≡ sealed m
    → SealTells z b f o m (seal_network z b f o)
unfolding sent_octets
seal-tells z b f o m =
    seal-ways z b f o (λ (r : Framed). r.answer ≡ sealed m → SealTells z b f o m r)
    (λ n e. let never : ◌≡◌ {A = ℕ} 0 1 = cc in absurd (omega arith))
    λ s e. let u : length (frame_sent z b f s) ≡ m = cc in record { by = s; count = sym u ∙ frame-length z b f s; board = refl; out = refl }

-- the frame that b sealed under its active slot i, opened by c
pub round_trip : (z : Settings) → Fair z → (b : Board) (f o : List ℕ) (m i : ℕ) → Octets f → b.outgoing < 2 ^ 32 → b.own < 2 ^ 64
    → no_address b.own ≡ false → (seal_network z b f o).answer ≡ sealed m → b.active ≡ Some i
    → (c : Board) (w : Lent) (j r : ℕ)
    → Opens z (the_key (slot_at b.slots i).key) b.outgoing b.own (slot_at b.slots i).seq c w j r
    → open_network z c (take m (seal_network z b f o).out) w ≡ opened_with f b.outgoing b.own w r
unfolding sent_octets
round_trip z fair b f o m i of hn ha ho e ea c w j r opens =
    ap (λ (x : List ℕ). open_network z c x w) front
    ∙ opens-again z fair (the_key (slot_at b.slots t.slot).key) f t.header b.outgoing b.own (slot_at b.slots t.slot).seq
    sealed_so t.short t.below c w j r found
  where
    tells : SealTells z b f o m (seal_network z b f o)
    tells = seal-tells z b f o m e

    t : Sealing z b f
    t = tells.by

    this : i ≡ t.slot
    this = let d = sym ea ∙ t.active in cc

    found : Opens z (the_key (slot_at b.slots t.slot).key) b.outgoing b.own (slot_at b.slots t.slot).seq c w j r
    found =
        subst (λ (x : ℕ). Opens z (the_key (slot_at b.slots x).key) b.outgoing b.own (slot_at b.slots x).seq c w j r) this opens

    sealed_so : ToSeal Network f t.header identifier b.outgoing b.own
    sealed_so = record { unsecured = t.unsecured; octets = of; suited = refl; counter = hn; sender = ha; someone = ho }

    counted : length (frame_sent z b f t) ≡ m
    counted = frame-length z b f t ∙ sym tells.count

    front : take m (seal_network z b f o).out ≡ frame_sent z b f t
    front = ap (take m) tells.out ∙ take_at (frame_sent z b f t) (drop (length (frame_sent z b f t)) o) m counted
