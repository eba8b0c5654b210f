-- Opening under a key, of what its calls answered.
-- Assumes nothing.
use Rattle.std.proofs.Common.{Option, Some, None}
use mathlib.Core.Path.{◌≡◌, refl, sym, ap, ap₂, ◌∙◌}
use mathlib.Core.Bool.{true}
use mathlib.Core.List.{List}
use Prim.Native.Nat.{ℕ, ◌+◌, ◌*◌, ◌≤◌, ◌<◌}
use native.Mathlib.Omega.{arith}
use lib.ListN.{length}
use borrow.Author.Tests.{ne_eqb, le-ltb}
use Rattle.settings.specs.Settings.{Settings, longest, top}
use Rattle.octets.specs.Keys.{Key}
use Rattle.network.specs.Opening.{Lent, leaving, row_of, or_free, row_for, with_row, admitted, floor_of, opened_under}
use Rattle.network.specs.Code.{opened_heard}
use Rattle.answers.specs.Numbers.{under, opened, turned_down}
use Rattle.cipher.specs.Answers.{product}
use Rattle.cipher.specs.Ccm.{Verdict}
use Rattle.frames.specs.declared.Layer.TheVariants.{Network}
use Rattle.frames.specs.declared.Secured.{Secured}
use Rattle.frames.specs.Reading.{secured, reading}
use Rattle.frames.proofs.Found.{secured-frame}
use Rattle.board.specs.Rows.{Lists}
use Rattle.board.proofs.Found.{row-place}
use Rattle.seals.specs.Sealing.{Fair, message_of, told_unsealed, sound, unsealing}
use Rattle.seals.proofs.Opened.{tells-sound}
use Rattle.seals.proofs.Tells.{plain-tells, forged-tells}

-- a frame that was read as secured is what it announces
pub read-sound : (z : Settings) (f : List ℕ) (s : Secured) → reading z Network f 0 ≡ secured s → length f ≤ longest → sound z f s ≡ true
read-sound z f s e h =
    let w = secured-frame z Network f 0 s e in
    tells-sound z f s (record { headed = let a = w.least in omega arith; whole = w.whole; short = h })

module _ (z : Settings) (k : Key) (f : List ℕ) (s : Secured) where
  -- ---- 9 and 10

  module _ (fair : Fair z) (w : Lent) (t : sound z f s ≡ true) (room : longest ≤ length w.out) where
    -- the tag fits, and row r was put
    pub admit-plain : (u : Option ℕ) (n r : ℕ) (p : List ℕ) → u ≡ Some n
        → product (told_unsealed u) p ≡ unsealing z k Network f s w.out
        → leaving (opened n s.sender (under 1)) (record { lists = with_row w.lists r s.sender (s.counter + 1); out = p })
        ≡ admitted f s w (message_of z k f s) (Some r)
    unfolding admitted
    admit-plain u n r p eu e =
        let m = plain-tells z fair k Network f s w.out t room u n p eu e in
        ap₂ (λ (x : ℕ) (y : List ℕ).
        leaving (opened x s.sender (under 1)) (record { lists = with_row w.lists r s.sender (s.counter + 1); out = y }))
        m.count m.laid
        ∙ sym (ap (λ (x : Verdict). admitted f s w x (Some r)) m.fits)

    -- the tag does not fit
    pub admit-forged : (u : Option ℕ) (q : Option ℕ) (p : List ℕ) → u ≡ None
        → product (told_unsealed u) p ≡ unsealing z k Network f s w.out
        → leaving (turned_down 9) (record { lists = w.lists; out = p }) ≡ admitted f s w (message_of z k f s) q
    unfolding admitted
    admit-forged u q p eu e =
        let m = forged-tells z fair k Network f s w.out t room u p eu e in
        ap (λ (x : List ℕ). leaving (turned_down 9) (record { lists = w.lists; out = x })) m.1
        ∙ sym (ap (λ (x : Verdict). admitted f s w x q) m.0)

  -- ---- 8: the sender's row is looked for once, and floor and row go by it

  module _ (m i : ℕ) (w : Lent) (below : s.counter ≡ top → ⊥) where
    pub under-heard : (r : ℕ) → row_of m w.lists i s.sender ≡ Some r → opened_heard z k r f s w ≡ opened_under z m k i f s w
    unfolding opened_heard opened_under floor_of row_for
    under-heard r e = simp (ne_eqb _ _ below, e)

    pub under-new : row_of m w.lists i s.sender ≡ None
        → admitted f s w (message_of z k f s) (row_of m w.lists i 0) ≡ opened_under z m k i f s w
    unfolding opened_under floor_of row_for
    under-new e = simp (ne_eqb _ _ below, e, le-ltb s.counter 0 (omega arith))

-- the row that was found is one that the list has
pub row-there : (m : ℕ) (w : Lists) (i a r : ℕ) → row_for m w i a ≡ Some r → r < length w.addrs
unfolding row_for
row-there m w i a r e = go (row_of m w i a) refl e
  where
    go : (p : Option ℕ) → row_of m w i a ≡ p → or_free m w i p ≡ Some r → r < length w.addrs
    go (Some q) d e = row-place w.addrs (i * m) m a r (d ∙ e)
    go None d e = row-place w.addrs (i * m) m 0 r e
