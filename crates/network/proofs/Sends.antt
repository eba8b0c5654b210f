-- Sealing under a slot's key, of what its calls answered.
-- Assumes nothing.
use Rattle.std.proofs.Common.{Option, Some, None, refl}
use Rattle.std.specs.Option.{ok_or}
use Rattle.answers.specs.declared.Refusal.TheVariants.{Room}
use mathlib.Core.Path.{◌≡◌, sym, ap, ◌∙◌}
use mathlib.Core.List.{List}
use Prim.Native.Nat.{ℕ, ◌≤◌}
use native.Mathlib.Omega.{arith}
use lib.ListN.{length}
use Rattle.settings.specs.Settings.{Settings, longest, longest_plain}
use Rattle.octets.specs.Keys.{the_key}
use Rattle.network.specs.Sealing.{identifier, sealed_under}
use Rattle.answers.specs.Numbers.{done, refused, sealed, turned_down}
use Rattle.cipher.specs.Answers.{product}
use Rattle.cipher.proofs.Opens.{tag-most}
use Rattle.frames.specs.declared.Layer.TheVariants.{Network}
use Rattle.frames.specs.Reading.{headed, reading_plain}
use Rattle.frames.proofs.Found.{plain-to-seal}
use Rattle.board.specs.declared.Board.{Board}
use Rattle.board.specs.declared.Sending.{Sending}
use Rattle.board.specs.declared.Slot.{Slot}
use Rattle.board.specs.Sending.{raised, with_outgoing, spent, framed, sending_of, may_send, send}
use Rattle.board.specs.Code.{sent}
use Rattle.board.proofs.Sends.{send-refused, send-done}
use Rattle.seals.specs.Sealing.{Fair, sent_octets, sealed_frame, sealing, told_enclosed}
use Rattle.seals.proofs.Securing.{Sealable, sealed-length}
use Rattle.seals.proofs.Tells.{sealed-tells, never-nothing}

pub sealable-net : (z : Settings) → Fair z → (f : List ℕ) (h : ℕ) → 2 ≤ h → h ≤ length f → length f ≤ longest_plain z
    → Sealable z identifier f h
unfolding sent_octets
sealable-net z fair f h a b c =
    record { headed = a; within = b; short = let m = tag-most z.tag fair.tag in omega arith }

-- a board that has this counter and this address, whatever else
module _ (z : Settings) (n : Sending) (s : Slot) (f : List ℕ) (h : ℕ) (o : List ℕ) where
  abbrev frame : List ℕ
  frame = sealed_frame z (the_key s.key) Network identifier n.counter n.own s.seq f h

  sends : (b : Board) → sending_of b ≡ n → send b frame o ≡ sealed_under z b f o h s
  unfolding sealed_under
  sends b e =
      ap (λ (x : Sending). send b (sealed_frame z (the_key s.key) Network identifier x.counter x.own s.seq f h) o) (sym e)

  pub refused-slot : (m : ℕ) → may_send n ≡ refused m → (b : Board) → sending_of b ≡ n → framed (turned_down m) b o ≡ sealed_under z b f o h s
  refused-slot m q b e = send-refused n b e frame o m q ∙ sends b e

  pub sealed-slot : Sealable z identifier f h → longest ≤ length o → may_send n ≡ done → (w : Option ℕ) (m : ℕ) (p : List ℕ) → w ≡ Some m
      → product (told_enclosed w) p ≡ sealing z (the_key s.key) Network identifier n.counter n.own s.seq f h o
      → (b : Board) → sending_of b ≡ n → framed (sealed m) (with_outgoing b (raised b.outgoing)) p ≡ sealed_under z b f o h s
  unfolding spent
  sealed-slot x room q w m p ew d b e =
      let t = sealed-tells z (the_key s.key) Network identifier n.counter n.own s.seq f h o (omega arith) x room w m p ew d in
      let c = sealed-length z (the_key s.key) Network identifier n.counter n.own s.seq f h x.within in
      ap (λ (u : ℕ). framed (sealed u) (spent b) p) (t.0 ∙ sym c)
      ∙ ap (framed (sealed (length frame)) (spent b)) t.1
      ∙ send-done n b e frame o q
      ∙ sends b e

  -- what `seal` answers, and is told by
  pub sent-slot : Fair z → Sealable z identifier f h → longest ≤ length o → may_send n ≡ done → (w : Option ℕ) (p : List ℕ)
      → product (told_enclosed w) p ≡ sealing z (the_key s.key) Network identifier n.counter n.own s.seq f h o
      → (b : Board) → sending_of b ≡ n
      → sent b (ok_or w Room) p ≡ sealed_under z b f o h s
  sent-slot fair x room q (Some m) p d b e = sealed-slot x room q (Some m) m p refl d b e
  sent-slot fair x room q None p d b e =
      never-nothing z (the_key s.key) Network identifier n.counter n.own s.seq f h o (omega arith) x room None p refl d

-- a plain frame has its header, and more than the control field in it
pub plain-bounds : (f : List ℕ) (h : ℕ) → reading_plain Network f ≡ headed h → (2 ≤ h) × (h ≤ length f)
plain-bounds f h e = let w = plain-to-seal Network f h e in (let a = w.least in omega arith, w.within)
