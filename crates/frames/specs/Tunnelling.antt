-- Document 02 (i) (RULES 9.7): what may stand inside a Tunnel. "Check that the inner header is 2 octets for a command, secured, without
-- acknowledgement, that the inner security control names identifier 0, 2 or 3 with extended nonce." Nothing else of it is judged:
-- a router has no key. Source document 000, 4.4.11.6.
-- Assumes nothing.
use Rattle.std.specs.Prelude.{Bool, List, ℕ, ◌==◌}
use Rattle.octets.specs.Choice.{both}
use Rattle.octets.specs.Lists.{at}
use Rattle.frames.specs.Aps.{aps_type, ack_request, aps_form, aps_secured, aps_keyed}
use Rattle.frames.specs.Security.{identifier_of, extended_of}

-- "for a command, secured, without acknowledgement"; a command of document 01's form has delivery 0 or 2 and bits 4 and 7 clear
unfoldable pub inner_control : ℕ → Bool
inner_control c = both (aps_form c) (both (aps_type c == 1) (both (aps_secured c) (ack_request c == 0)))

-- "names identifier 0, 2 or 3 with extended nonce"
unfoldable pub inner_security : ℕ → Bool
inner_security c = both (aps_keyed (identifier_of c)) (extended_of c == 1)

-- a header of 2 octets, so that the security control is octet 2; what is past the end reads as 0, which is no command
unfoldable pub may_tunnel : List ℕ → Bool
may_tunnel f = both (inner_control (at f 0)) (inner_security (at f 2))
