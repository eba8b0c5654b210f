-- Sealing under a link key, of what its calls answered.
-- Assumes nothing.
use Rattle.std.proofs.Common.{Option, Some, None, refl}
use Rattle.std.specs.Option.{ok_or}
use Rattle.answers.specs.declared.Refusal.TheVariants.{Room}
use mathlib.Core.Path.{◌≡◌, refl, sym, ap, ap₂, ◌∙◌}
use mathlib.Core.Bool.{true, not}
use mathlib.Core.List.{List}
use Prim.Native.Nat.{ℕ, ◌≤◌}
use native.Mathlib.Omega.{arith}
use lib.Dec.{eqb, leb}
use lib.ListN.{length}
use borrow.Author.Tests.{leb-true, eqb-false, not-true}
use Rattle.settings.specs.Settings.{Settings, longest, aps_aux, longest_aps_plain}
use Rattle.octets.specs.Keys.{Key}
use Rattle.octets.proofs.Choices.{both-parts}
use Rattle.answers.specs.Numbers.{done, refused, sealed, turned_down}
use Rattle.cipher.specs.Answers.{product}
use Rattle.frames.specs.declared.Layer.TheVariants.{Aps}
use Rattle.frames.specs.Reading.{headed, reading_plain}
use Rattle.frames.proofs.Found.{plain-to-seal}
use Rattle.board.specs.declared.Board.{Board}
use Rattle.board.specs.declared.Sending.{Sending}
use Rattle.board.specs.Sending.{raised, with_outgoing, spent, framed, sending_of, may_send, send}
use Rattle.board.specs.Code.{sent}
use Rattle.board.proofs.Sends.{send-refused, send-done}
use Rattle.seals.specs.Sealing.{sent_octets, sealed_frame, sealing, told_enclosed}
use Rattle.seals.proofs.Again.{Suited}
use Rattle.seals.proofs.Securing.{Sealable, sealed-length}
use Rattle.seals.proofs.Tells.{sealed-tells, never-nothing}
use Rattle.aps.specs.Keys.{key_for}
use Rattle.aps.specs.Sealing.{named, sealed_under}

pub named-most : (k : ℕ) → named k ≡ true → k ≤ 3
unfolding named
named-most k e = leb-true k 3 (both-parts (leb k 3) (not (eqb k 1)) e).0

pub suited-named : (k : ℕ) → named k ≡ true → Suited Aps k
unfolding named
suited-named k e =
    let b = named-most k e in
    (omega arith, eqb-false k 1 (not-true (eqb k 1) (both-parts (leb k 3) (not (eqb k 1)) e).1))

pub sent-named : (k : ℕ) → named k ≡ true → sent_octets k ≡ aps_aux
unfolding named sent_octets
sent-named k e = rw (not-true (eqb k 1) (both-parts (leb k 3) (not (eqb k 1)) e).1) refl

pub sealable-aps : (z : Settings) (k : ℕ) (f : List ℕ) (h : ℕ) → named k ≡ true → 2 ≤ h → h ≤ length f → length f ≤ longest_aps_plain z
    → Sealable z k f h
sealable-aps z k f h e a b c = record { headed = a; within = b; short = omega (arith, sent-named k e) }

-- a board with this counter and this address, whatever else
module _ (z : Settings) (s : Sending) (key : Key) (k : ℕ) (f : List ℕ) (h : ℕ) (o : List ℕ) where
  pub refused-link : (n : ℕ) → may_send s ≡ refused n → (b : Board) → sending_of b ≡ s
      → framed (turned_down n) b o ≡ sealed_under z b f o h k key
  unfolding sealed_under
  refused-link n m b e = send-refused s b e (sealed_frame z (key_for key k) Aps k b.outgoing b.own 0 f h) o n m

  pub sealed-link : k ≤ 3 → Sealable z k f h → longest ≤ length o → may_send s ≡ done
      → (x : Key) (w : Option ℕ) (m : ℕ) (p : List ℕ) → x ≡ key_for key k → w ≡ Some m
      → product (told_enclosed w) p ≡ sealing z x Aps k s.counter s.own 0 f h o → (b : Board) → sending_of b ≡ s
      → framed (sealed m) (with_outgoing b (raised b.outgoing)) p ≡ sealed_under z b f o h k key
  unfolding sealed_under spent
  sealed-link low fits room may x w m p ex ew e b eb =
      let d = e ∙ sym (ap (λ (y : Sending). sealing z x Aps k y.counter y.own 0 f h o) eb) in
      let t = sealed-tells z x Aps k b.outgoing b.own 0 f h o low fits room w m p ew d in
      let n = sealed-length z x Aps k b.outgoing b.own 0 f h fits.within in
      ap₂ (λ (y : ℕ) (q : List ℕ). framed (sealed y) (spent b) q) (t.0 ∙ sym n) t.1
      ∙ send-done s b eb (sealed_frame z x Aps k b.outgoing b.own 0 f h) o may
      ∙ ap (λ (y : Key). send b (sealed_frame z y Aps k b.outgoing b.own 0 f h) o) ex

  -- what `seal` answers, and is told by
  pub sent-link : k ≤ 3 → Sealable z k f h → longest ≤ length o → may_send s ≡ done
      → (x : Key) (w : Option ℕ) (p : List ℕ) → x ≡ key_for key k
      → product (told_enclosed w) p ≡ sealing z x Aps k s.counter s.own 0 f h o → (b : Board) → sending_of b ≡ s
      → sent b (ok_or w Room) p
      ≡ sealed_under z b f o h k key
  sent-link low fits room may x (Some m) p ex e b eb = sealed-link low fits room may x (Some m) m p ex refl e b eb
  sent-link low fits room may x None p ex e b eb =
      never-nothing z x Aps k s.counter s.own 0 f h o low fits room None p refl e

-- a plain frame has its header, and more than the control field in it
pub plain-bounds : (f : List ℕ) (h : ℕ) → reading_plain Aps f ≡ headed h → (2 ≤ h) × (h ≤ length f)
plain-bounds f h e = let w = plain-to-seal Aps f h e in (w.least, w.within)
