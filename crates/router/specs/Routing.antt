-- Document 02 (i) (RULES 9.8): "Our mains router must take a Tunnel command, .. and send the inner frame on unchanged." It reads the frame
-- as the reader does; another command than Tunnel is 11. Document 01, "How to write each place": "the inner frame, a part that
-- starts in the tunnel's middle, is handed on; so are header, auxiliary header, payload and tag."
-- Assumes nothing.
use Rattle.answers.specs.declared.Refusal.{Refusal}
use Rattle.std.specs.Prelude.{List, ◌++◌, ℕ, ◌+◌, ◌-◌, length, ◌==◌, Result, Ok, Err}
use Rattle.settings.specs.Settings.{Settings, aps_aux}
use Rattle.std.specs.Prelude.{if◌then◌else◌}
use Rattle.octets.specs.Lists.{at}
use Rattle.answers.specs.Numbers.{number_of, ProtectionTold}
use Rattle.commands.specs.declared.Span.{Span}
use Rattle.commands.specs.Numbers.{CommandTold, untyped, typed}
use Rattle.commands.specs.Reading.{ReadTold, read, unread, judge, read_command}
use Rattle.commands.specs.Parts.{octets_at, span, nowhere, inner_span}
use Rattle.router.specs.declared.Portion.{Portion}
use Rattle.router.specs.declared.Portion.TheVariants.{Whole, Header, Auxiliary, Payload, Tag}

-- ---- the answer

-- what the router tells: the destination, or a refusal's number
pub data RouteTold : Type 0 where
  onward : ℕ → RouteTold
  halted : ℕ → RouteTold

abbrev pub told_routed : Result ℕ Refusal → RouteTold
told_routed (Ok a) = onward a
told_routed (Err r) = halted (number_of r)

-- 0E is Tunnel, whose one number is the destination
unfoldable pub tunnel_to : CommandTold → RouteTold
tunnel_to (untyped i xs) = if i == 0x0e then onward (at xs 0) else halted 11
tunnel_to (typed i t xs) = halted 11

-- the reader's refusals, then 11
unfoldable pub route_of : ReadTold → RouteTold
route_of (unread n) = halted n
route_of (read c) = tunnel_to c

unfoldable pub route : Settings → List ℕ → ProtectionTold → RouteTold
route z f p = route_of (read_command z f p)

-- ---- what is handed on

-- Figure 4-17 of source document 000: "Octets: 2, 13, Variable, 4" for "Tunneled APS header", "Tunneled auxiliary frame",
-- "Tunneled command", "Tunneled APS MIC", of an inner frame of n octets
abbrev pub size_of : Settings → Portion → ℕ → ℕ
size_of z Whole n = n
size_of z Header n = 2
size_of z Auxiliary n = aps_aux
size_of z Payload n = n - (2 + aps_aux + z.tag)
size_of z Tag n = z.tag

-- each stands behind those before it
abbrev pub start_of : Settings → Portion → ℕ → ℕ
start_of z Whole n = 0
start_of z Header n = 0
start_of z Auxiliary n = size_of z Header n
start_of z Payload n = size_of z Header n + size_of z Auxiliary n
start_of z Tag n = size_of z Header n + size_of z Auxiliary n + size_of z Payload n

-- the span of a portion of the inner frame whose own span is q: "empty if refused or missing"
unfoldable pub portion_in : Settings → Portion → Span → Span
portion_in z w q =
    if q.count == 0 then nowhere else span (q.from + start_of z w q.count) (size_of z w q.count)

-- its span in the frame f that came under p
unfoldable pub portion_span : Settings → Portion → List ℕ → ProtectionTold → Span
portion_span z w f p = portion_in z w (inner_span (length f) (judge z f p))

-- the octets that are handed on, and those of the four joined
abbrev pub handed_on : Settings → Portion → List ℕ → ProtectionTold → List ℕ
handed_on z w f p = octets_at f (portion_span z w f p)

abbrev pub joined : Settings → List ℕ → ProtectionTold → List ℕ
joined z f p = handed_on z Header f p ++ handed_on z Auxiliary f p ++ handed_on z Payload f p ++ handed_on z Tag f p
