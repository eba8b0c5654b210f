-- Opening under a link key, of what its calls answered.
-- Assumes nothing.
use Rattle.std.proofs.Common.{Option, Some, None}
use mathlib.Core.Path.{◌≡◌, sym, ap, ap₂, ◌∙◌}
use mathlib.Core.Bool.{true}
use mathlib.Core.List.{List}
use Prim.Native.Nat.{ℕ, ◌+◌, ◌≤◌}
use native.Mathlib.Omega.{arith}
use lib.ListN.{length}
use Rattle.settings.specs.Settings.{Settings, longest, longest_aps}
use Rattle.octets.specs.Keys.{Key}
use Rattle.answers.specs.Numbers.{under, opened, turned_down}
use Rattle.cipher.specs.Answers.{product}
use Rattle.frames.specs.declared.Layer.TheVariants.{Aps}
use Rattle.frames.specs.declared.Secured.{Secured}
use Rattle.frames.specs.Security.{identifier_of}
use Rattle.frames.specs.Reading.{secured, reading}
use Rattle.frames.proofs.Found.{secured-frame}
use Rattle.board.specs.declared.Board.{Board}
use Rattle.board.specs.Sending.{framed}
use Rattle.seals.specs.Sealing.{Fair, message_of, told_unsealed, sound, unsealing}
use Rattle.seals.proofs.Opened.{tells-sound}
use Rattle.seals.proofs.Tells.{plain-tells, forged-tells}
use Rattle.aps.specs.Opening.{with_floor, admitted}

module _ (z : Settings) (fair : Fair z) (k : Key) (f : List ℕ) (s : Secured) (o : List ℕ) (i : ℕ) (t : sound z f s ≡ true)
    (room : longest ≤ length o) where
  pub admit-plain : (w : Option ℕ) (n g : ℕ) (p : List ℕ) → w ≡ Some n
      → product (told_unsealed w) p ≡ unsealing z k Aps f s o → g ≡ identifier_of s.control → (b : Board)
      → framed (opened n s.sender (under g)) (with_floor b i (s.counter + 1)) p ≡ admitted b f s o i (message_of z k f s)
  unfolding admitted
  admit-plain w n g p ew e eg b =
      let m = plain-tells z fair k Aps f s o t room w n p ew e in
      ap₂ (λ (x y : ℕ). framed (opened x s.sender (under y)) (with_floor b i (s.counter + 1)) p) m.count eg
      ∙ ap
      (framed (opened (s.header + length m.message) s.sender (under (identifier_of s.control))) (with_floor b i (s.counter + 1)))
      m.laid
      ∙ sym (ap (admitted b f s o i) m.fits)

  pub admit-forged : (w : Option ℕ) (p : List ℕ) → w ≡ None → product (told_unsealed w) p ≡ unsealing z k Aps f s o → (b : Board)
      → framed (turned_down 9) b p ≡ admitted b f s o i (message_of z k f s)
  unfolding admitted
  admit-forged w p ew e b =
      let m = forged-tells z fair k Aps f s o t room w p ew e in
      ap (framed (turned_down 9) b) m.1 ∙ sym (ap (admitted b f s o i) m.0)

-- a frame that was read as secured is what it announces
pub read-sound : (z : Settings) (f : List ℕ) (given : ℕ) (s : Secured) → reading z Aps f given ≡ secured s → length f ≤ longest_aps
    → sound z f s ≡ true
read-sound z f given s e h =
    let w = secured-frame z Aps f given s e in
    tells-sound z f s (record { headed = w.least; whole = w.whole; short = omega arith })
