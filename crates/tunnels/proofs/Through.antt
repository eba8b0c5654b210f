-- From end to end (document 02 (i)): a plain command that asks for no acknowledgement, sealed at one board under identifier 0, 2 or 3,
-- wrapped by any board's writer, handed on by a router, opens at a board that finds the same key for it and has no other cause
-- to refuse, to the same plain command. It is over any fair settings, as the round trip is on which it stands; at our settings
-- the command has 3 to 80 octets.
-- Assumes nothing.
use Rattle.std.proofs.Common.{Some}
use mathlib.Core.Path.{◌≡◌, refl, sym, ap, subst, ◌∙◌}
use mathlib.Core.Bool.{Bool, true, false}
use mathlib.Core.List.{List, [], append_assoc}
use Prim.Native.Nat.{ℕ, ◌+◌, ◌≤◌, ◌<◌, ◌^◌}
use native.Mathlib.Omega.{arith}
use lib.ListN.{length, take, drop}
use lib.Seq.{take_at}
use borrow.Author.Tests.{le-leb, lt-ltb}
use Rattle.settings.specs.Settings.{Settings, ours, longest_aps, aps_aux}
use Rattle.octets.specs.Addresses.{no_address}
use Rattle.octets.specs.Keys.{the_key}
use Rattle.octets.specs.Lists.{at, onto, Octets}
use Rattle.answers.specs.Numbers.{clear, under, opened, sealed, written}
use Rattle.frames.specs.declared.Layer.TheVariants.{Aps}
use Rattle.frames.specs.Aps.{aps_type, ack_request}
use Rattle.frames.specs.Security.{auxiliary}
use Rattle.frames.specs.Making.{secured_header}
use Rattle.frames.specs.Tunnelling.{may_tunnel}
use Rattle.frames.proofs.MayTunnel.{sealed-may-tunnel}
use Rattle.board.specs.declared.Board.{Board}
use Rattle.board.specs.State.{link_at}
use Rattle.board.specs.Requests.{link_of}
use Rattle.board.specs.Sending.{spent, Framed, framed}
use Rattle.seals.specs.Sealing.{Fair, sealed_with, sealed_frame}
use Rattle.seals.proofs.Fairly.{ours-fair}
use Rattle.aps.specs.Opening.{with_floor, open_aps}
use Rattle.aps.specs.Sealing.{seal_aps}
use Rattle.aps.proofs.Sends.{suited-named}
use Rattle.aps.proofs.Ways.{Sealing, frame_by, frame-length}
use Rattle.aps.proofs.RoundTrip.{Opens, Tells, seal-tells, round_trip}
use Rattle.commands.specs.declared.Command.TheVariants.{Tunnel}
use Rattle.commands.specs.Table.{rule_of, least_inner, fits, allows}
use Rattle.commands.specs.Kinds.{kind_of}
use Rattle.commands.specs.Writing.{frame_of, whole, aps_raised, write_command}
use Rattle.commands.specs.Reverse.{GivesBack}
use Rattle.commands.proofs.Laid.{frame-length as command-length}
use Rattle.commands.proofs.ReadBack.{read_back}
use Rattle.commands.proofs.WriteBack.{writes-frame}
use Rattle.router.specs.declared.Portion.TheVariants.{Whole}
use Rattle.router.specs.Routing.{tunnel_to, route_of, route, handed_on}
use Rattle.tunnels.specs.Wrapping.{tunnel_octets, longest_wrapped, tunnel_in, Wrapped}
use Rattle.router.proofs.Portions.{whole-on, four-joined}

-- ---- wrapped and handed on

module _ (z : Settings) (w : Board) (ack : Bool) (d : ℕ) (g o : List ℕ) (long : least_inner z ≤ length g)
    (most : tunnel_octets + length g ≤ longest_aps) (may : may_tunnel g ≡ true) (room : longest_aps ≤ length o) where
  abbrev frame : List ℕ
  frame = frame_of w ack (Tunnel d) [] g

  parts : whole z (rule_of (kind_of (Tunnel d))) [] g ≡ true
  unfolding whole rule_of fits
  parts = simp (le-leb (least_inner z) (length g) long, may)

  count : length frame ≡ tunnel_octets + length g
  unfolding rule_of
  count = command-length z w ack (Tunnel d) [] g o parts

  writes : write_command z w ack (Tunnel d) [] g o ≡ framed (written (tunnel_octets + length g)) (aps_raised w) (onto frame o)
  writes =
      writes-frame z w ack (Tunnel d) [] g o frame parts refl (omega (arith, count)) room
      ∙ ap (λ (n : ℕ). framed (written n) (aps_raised w) (onto frame o)) count

  -- the Tunnel as a router reads it
  reads : d < 2 ^ 64 → GivesBack z (tunnel_in z w ack d g o) clear (Tunnel d) [] g
  unfolding rule_of allows
  reads h =
      subst (λ (r : Framed). GivesBack z (take (tunnel_octets + length g) r.out) clear (Tunnel d) [] g) (sym writes)
      (read_back z w ack (Tunnel d) [] g o (tunnel_octets + length g) (aps_raised w) (onto frame o) writes (lt-ltb d (2 ^ 64) h) clear refl)

  pub wraps : d < 2 ^ 64 → Wrapped z w ack d g o
  unfolding route route_of tunnel_to rule_of
  wraps h =
      let back = reads h in
      let on : handed_on z Whole (tunnel_in z w ack d g o) clear ≡ g = whole-on z (tunnel_in z w ack d g o) clear ∙ back.inner in
      record {
        taken = ap (λ (r : Framed). r.answer) writes;
        raised = ap (λ (r : Framed). r.board) writes;
        routed = ap route_of back.command;
        unchanged = on;
        four = four-joined z (tunnel_in z w ack d g o) clear ∙ on;
      }

-- ---- what was sealed may be wrapped

module _ (z : Settings) (b : Board) (f : List ℕ) (a k : ℕ) (s : Sealing z b f a k) (o : Octets f)
    (command : aps_type (at f 0) ≡ 1) (quiet : ack_request (at f 0) ≡ 0) where
  sealed-may : may_tunnel (frame_by s) ≡ true
  unfolding sealed_frame sealed_with
  sealed-may =
      let u = suited-named k s.identified in
      ap may_tunnel (append_assoc (secured_header Aps f s.header) (auxiliary k b.outgoing b.own 0) _)
      ∙ sealed-may-tunnel f s.header s.unsecured o command quiet k b.outgoing b.own 0 _ u.0 u.1

-- ---- all together

-- what comes of the command f that b sealed for partner a, whose entry is x, under k, wrapped by w for d
pub record Through (z : Settings) (b : Board) (f : List ℕ) (a k : ℕ) (o : List ℕ) (m x : ℕ) (w : Board) (ack : Bool) (d : ℕ)
    (p : List ℕ) : Type 0 where
  -- the seal: one outgoing counter is spent, and the frame is longer by auxiliary header and tag
  pub spends : (seal_aps z b f a k o).board ≡ spent b
  pub longer : m ≡ length f + (aps_aux + z.tag)
  -- the writer and the router
  pub wrapped : Wrapped z w ack d (take m (seal_aps z b f a k o).out) p
  -- the joiner c, whatever sender its caller gives
  pub opens : (c : Board) (given : ℕ) (q : List ℕ) (i : ℕ) → Opens (the_key (link_at b.links x).key) b.outgoing b.own c q i
      → open_aps z c (handed_on z Whole (tunnel_in z w ack d (take m (seal_aps z b f a k o).out) p) clear) given q
      ≡ framed (opened (length f) b.own (under k)) (with_floor c i (b.outgoing + 1)) (onto f q)

pub through : (z : Settings) → Fair z → (b : Board) (f : List ℕ) (a k : ℕ) (o : List ℕ) (m x : ℕ) → Octets f → b.outgoing < 2 ^ 32
    → b.own < 2 ^ 64 → no_address b.own ≡ false
    → aps_type (at f 0) ≡ 1 → ack_request (at f 0) ≡ 0 → 3 ≤ length f → length f ≤ longest_wrapped z
    → (seal_aps z b f a k o).answer ≡ sealed m → link_of b.links a ≡ Some x
    → (w : Board) (ack : Bool) (d : ℕ) (p : List ℕ) → d < 2 ^ 64 → longest_aps ≤ length p → Through z b f a k o m x w ack d p
through z fair b f a k o m x of hn ha ho command quiet least most e ex w ack d p hd room =
    record {
      spends = ap (λ (r : Framed). r.board) told.left;
      longer = told.count;
      wrapped = wrapped;
      opens = λ c given q i t.
          ap (λ (s : List ℕ). open_aps z c s given q) wrapped.unchanged
          ∙ round_trip z fair b f a k o m x of hn ha ho e ex c given q i t;
    }
  where
    told : Tells z b f a k o m (seal_aps z b f a k o)
    told = seal-tells z b f a k o m e

    g : List ℕ
    g = take m (seal_aps z b f a k o).out

    front : g ≡ frame_by told.seal
    front =
        ap (λ (r : Framed). take m r.out) told.left
        ∙ take_at (frame_by told.seal) (drop (length (frame_by told.seal)) o) m (frame-length told.seal ∙ sym told.count)

    size : length g ≡ length f + (aps_aux + z.tag)
    size = ap length front ∙ frame-length told.seal

    wrapped : Wrapped z w ack d g p
    wrapped =
        wraps z w ack d g p (omega (arith, size)) (omega (arith, size))
        (ap may_tunnel front ∙ sealed-may z b f a k told.seal of command quiet) room hd

-- the same of the routines: the contracts are at our settings
pub our-through : (b : Board) (f : List ℕ) (a k : ℕ) (o : List ℕ) (m x : ℕ) → Octets f → b.outgoing < 2 ^ 32
    → b.own < 2 ^ 64 → no_address b.own ≡ false
    → aps_type (at f 0) ≡ 1 → ack_request (at f 0) ≡ 0 → 3 ≤ length f → length f ≤ 80
    → (seal_aps ours b f a k o).answer ≡ sealed m → link_of b.links a ≡ Some x
    → (w : Board) (ack : Bool) (d : ℕ) (p : List ℕ) → d < 2 ^ 64 → longest_aps ≤ length p → Through ours b f a k o m x w ack d p
our-through = through ours ours-fair
