-- The ways in which a call that seals or writes a frame ends, at either layer: a refusal that changes nothing, or a frame. Those
-- of opening are in network/proofs/Ways and aps/proofs/Ways.
-- Assumes nothing.
use mathlib.Core.Path.{◌≡◌, refl}
use mathlib.Core.Bool.{Bool, not}
use mathlib.Core.List.{List}
use Prim.Native.Nat.{ℕ, ◌<◌}
use lib.Dec.{ltb}
use lib.ListN.{length}
use Rattle.settings.specs.Settings.{Settings, longest_aps, top}
use Rattle.octets.proofs.Choices.{choose}
use Rattle.octets.specs.Keys.{Key, the_key}
use Rattle.octets.specs.Lists.{onto}
use Rattle.answers.specs.Numbers.{sealed, written, turned_down}
use Rattle.frames.specs.declared.Layer.{Layer}
use Rattle.frames.specs.declared.Layer.TheVariants.{Network, Aps}
use Rattle.frames.specs.Reading.{headed, reading_plain}
use Rattle.board.specs.declared.Board.{Board}
use Rattle.board.specs.State.{slot_at, link_at}
use Rattle.board.specs.Sending.{spent, Framed, framed}
use Rattle.seals.specs.Sealing.{sealed_frame}
use Rattle.seals.proofs.Again.{Suited}
use Rattle.network.specs.Sealing.{seal_network}
use Rattle.aps.specs.Keys.{key_for}
use Rattle.aps.specs.Sealing.{seal_aps}
use Rattle.aps.proofs.Sends.{suited-named}
use Rattle.commands.specs.declared.Command.{Command}
use Rattle.commands.specs.Kinds.{kind_of}
use Rattle.commands.specs.Table.{rule_of}
use Rattle.commands.specs.Writing.{frame_of, whole, aps_raised, write_command}
use Rattle.network.proofs.Ways as network
use Rattle.aps.proofs.Ways as aps

-- ---- sealing, at either layer

-- a frame of n octets was sealed with the board's counter, and p is the output that this left
pub record Made (z : Settings) (l : Layer) (b : Board) (f o : List ℕ) (n : ℕ) (p : List ℕ) : Type 0 where
  pub key : Key
  pub named : ℕ
  pub number : ℕ
  pub header : ℕ
  pub unsecured : reading_plain l f ≡ headed header
  pub suited : Suited l named
  pub count : n ≡ length (sealed_frame z key l named b.outgoing b.own number f header)
  pub below : b.outgoing ≡ top → ⊥
  pub marked : b.outgoing < b.mark
  pub out : p ≡ onto (sealed_frame z key l named b.outgoing b.own number f header) o

module _ (z : Settings) (b : Board) (f o : List ℕ) (P : Framed → Type 0) (down : (n : ℕ) → P (framed (turned_down n) b o)) where
  pub network-seals : ((n : ℕ) (p : List ℕ) → Made z Network b f o n p → P (framed (sealed n) (spent b) p)) → P (seal_network z b f o)
  network-seals made =
      network.seal-ways z b f o P down λ s. made _ _
      (record {
        key = the_key (slot_at b.slots s.slot).key;
        named = 1;
        number = (slot_at b.slots s.slot).seq;
        header = s.header;
        unsecured = s.unsecured;
        suited = refl;
        count = refl;
        below = s.below;
        marked = s.marked;
        out = refl;
      })

  pub aps-seals : (a k : ℕ) → ((n : ℕ) (p : List ℕ) → Made z Aps b f o n p → P (framed (sealed n) (spent b) p)) → P (seal_aps z b f a k o)
  aps-seals a k made =
      aps.seal-ways z b f a k o P down λ s. made _ _
      (record {
        key = key_for (the_key (link_at b.links s.entry).key) k;
        named = k;
        number = 0;
        header = s.header;
        unsecured = s.unsecured;
        suited = suited-named k s.identified;
        count = refl;
        below = s.below;
        marked = s.marked;
        out = refl;
      })

-- ---- the writer: a refusal, or a frame and the APS counter raised

pub writes : (z : Settings) (b : Board) (a : Bool) (c : Command) (k r o : List ℕ) (P : Framed → Type 0)
    → ((n : ℕ) → P (framed (turned_down n) b o)) → ((n : ℕ) (p : List ℕ) → P (framed (written n) (aps_raised b) p))
    → P (write_command z b a c k r o)
unfolding write_command
writes z b a c k r o P down made =
    choose P (ltb (length o) longest_aps) _ _ (λ _. down 1) λ _.
    choose P (not (whole z (rule_of (kind_of c)) k r)) _ _ (λ _. down 11) λ _.
    choose P (ltb longest_aps (length (frame_of b a c k r))) _ _ (λ _. down 2) (λ _. made _ _)
