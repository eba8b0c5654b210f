-- Document 02 (i) (RULES 9.8): "The trust centre must write tunnels around a frame that it sealed. Sealing and wrapping are two requests:
-- the inner seal spends one outgoing counter and the tunnel none." The words in which it is said that a frame is wrapped at one
-- board and handed on unchanged by another.
-- Assumes nothing.
use Rattle.std.specs.Prelude.{◌≡◌, Bool, List, [], ℕ, ◌+◌, ◌-◌, length, take}
use Rattle.settings.specs.Settings.{Settings, longest_aps, aps_aux}
use Rattle.answers.specs.Numbers.{clear, written}
use Rattle.board.specs.declared.Board.{Board}
use Rattle.board.specs.Sending.{Framed}
use Rattle.commands.specs.declared.Command.TheVariants.{Tunnel}
use Rattle.commands.specs.Writing.{aps_raised, write_command}
use Rattle.router.specs.declared.Portion.TheVariants.{Whole}
use Rattle.router.specs.Routing.{onward, route, handed_on, joined}

-- a Tunnel's own octets: header, identifier and destination
abbrev pub tunnel_octets : ℕ
tunnel_octets = 2 + 1 + 8

-- the octets of the longest plain frame that a Tunnel can hold once it is sealed: 80
abbrev pub longest_wrapped : Settings → ℕ
longest_wrapped z = longest_aps - (tunnel_octets + aps_aux + z.tag)

-- the frame g wrapped for d by board w, into the output o, and the Tunnel that then stands there
abbrev pub wrapping : Settings → Board → Bool → ℕ → List ℕ → List ℕ → Framed
wrapping z w ack d g o = write_command z w ack (Tunnel d) [] g o

abbrev pub tunnel_in : Settings → Board → Bool → ℕ → List ℕ → List ℕ → List ℕ
tunnel_in z w ack d g o = take (tunnel_octets + length g) (wrapping z w ack d g o).out

-- It is taken: the APS counter is raised, as for any command, and no outgoing counter is spent. Told protection none, a router
-- hands on, octet for octet, the frame that was wrapped.
pub record Wrapped (z : Settings) (w : Board) (ack : Bool) (d : ℕ) (g o : List ℕ) : Type 0 where
  pub taken : (wrapping z w ack d g o).answer ≡ written (tunnel_octets + length g)
  pub raised : (wrapping z w ack d g o).board ≡ aps_raised w
  pub routed : route z (tunnel_in z w ack d g o) clear ≡ onward d
  pub unchanged : handed_on z Whole (tunnel_in z w ack d g o) clear ≡ g
  pub four : joined z (tunnel_in z w ack d g o) clear ≡ g
