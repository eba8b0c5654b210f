-- Document 01, "Layout of an APS frame" (RULES 5): "Control: bits 0-1 type (0 data, 1 command, 2 ack), 2-3 delivery, 4 ack format,
-- 5 security, 6 ack request, 7 extended header. Data header: 8 octets (delivery 0 or 2) or 9 (3, group). Command header:
-- control and counter (delivery 0 or 2). Ack header: delivery 0; 2 octets with bit 4 set, else 8. Bit 4 on other types,
-- bit 7, type 3 and every other delivery are form 4."
-- Assumes nothing.
use Rattle.std.specs.Prelude.{Bool, not, ℕ, ◌/◌, ◌%◌, ◌==◌, nat_lt}
use Rattle.std.specs.Prelude.{if◌then◌else◌}
use Rattle.octets.specs.Choice.{both}

unfoldable pub aps_type : ℕ → ℕ
aps_type c = c % 4

unfoldable pub delivery : ℕ → ℕ
delivery c = c / 4 % 4

unfoldable pub ack_format : ℕ → ℕ
ack_format c = c / 16 % 2

unfoldable pub ack_request : ℕ → ℕ
ack_request c = c / 64 % 2

unfoldable pub aps_form : ℕ → Bool
aps_form c =
    both (nat_lt c 128)
    (if aps_type c == 0 then both (ack_format c == 0) (not (delivery c == 1))
    else (if aps_type c == 1 then both (ack_format c == 0) ((delivery c % 2) == 0)
    else both (aps_type c == 2) (delivery c == 0)))

unfoldable pub aps_secured : ℕ → Bool
aps_secured c = (c / 32 % 2) == 1

unfoldable pub aps_header : ℕ → ℕ
aps_header c =
    if aps_type c == 0 then (if delivery c == 3 then 9 else 8)
    else (if aps_type c == 1 then 2
    else (if ack_format c == 1 then 2 else 8))

-- "APS: identifier 0, 2 or 3; identifier 1 refused (ours)", with extended nonce or without
unfoldable pub aps_keyed : ℕ → Bool
aps_keyed k = not (k == 1)
