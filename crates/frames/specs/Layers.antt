-- The two layers side by side, so that what both share is said once: a layer's control field, form, security bit, header and
-- key identifiers (document 01, "Layout of a network frame", "Layout of an APS frame", "The auxiliary header and the nonce";
-- RULES 4, 5, 6).
-- Assumes nothing.
use Rattle.std.specs.Prelude.{Bool, List, ℕ}
use Rattle.octets.specs.Lists.{at}
use Rattle.frames.specs.declared.Layer.{Layer}
use Rattle.frames.specs.declared.Layer.TheVariants.{Network, Aps}
use Rattle.frames.specs.Security.{identifier_of, extended_of}
use Rattle.frames.specs.Network.{network_control, network_form, network_secured, network_header, network_keyed}
use Rattle.frames.specs.Aps.{aps_form, aps_secured, aps_header, aps_keyed}

-- the octets of the control field, and the number that they spell
abbrev pub control_octets : Layer → ℕ
control_octets Network = 2
control_octets Aps = 1

abbrev pub control_of : Layer → List ℕ → ℕ
control_of Network f = network_control f
control_of Aps f = at f 0

-- of a control field: its form, its security bit, and the length of the header that it begins
abbrev pub form_of : Layer → ℕ → Bool
form_of Network c = network_form c
form_of Aps c = aps_form c

abbrev pub secured_bit : Layer → ℕ → Bool
secured_bit Network c = network_secured c
secured_bit Aps c = aps_secured c

abbrev pub header_of : Layer → List ℕ → ℕ → ℕ
header_of Network f c = network_header f c
header_of Aps f c = aps_header c

-- whether a security control has a key identifier and a nonce bit of the layer
abbrev pub suits : Layer → ℕ → Bool
suits Network c = network_keyed (identifier_of c) (extended_of c)
suits Aps c = aps_keyed (identifier_of c)

-- the sender that the caller gives: the network layer looks at none
abbrev pub given_to : Layer → ℕ → ℕ
given_to Network a = 0
given_to Aps a = a
