-- Document 01, "The state and the lists" (RULES 2): "Own address; one outgoing 32-bit counter for all keys, never lowered (ours); an
-- 8-bit APS counter; two network slots (present, sequence number, 16 octets); which slot is active, if any; eight link
-- entries (present, partner, key, floor). Fresh: both counters 0, nothing present, the rest zero." And document 02 (vi): "Keep one saved
-- number, the mark, in the host's store."
-- Assumes nothing.
use Rattle.std.specs.Prelude.{Bool, false, List, [], ℕ, get_or, set, ◌==◌, Some, None}
use Rattle.octets.specs.Choice.{both}
use Rattle.octets.specs.Lists.{tab}
use Rattle.board.specs.declared.Slot.{Slot}
use Rattle.board.specs.declared.Link.{Link}
use Rattle.board.specs.declared.Board.{Board}

-- ---- reading

abbrev pub slot_at : List Slot → ℕ → Slot
slot_at ss i = get_or ss i (record { present = false; seq = 0; key = [] })

abbrev pub link_at : List Link → ℕ → Link
link_at ls i = get_or ls i (record { present = false; partner = 0; key = []; floor = 0 })

-- a present slot with that sequence number
unfoldable pub carries : Slot → ℕ → Bool
carries s n = both s.present (s.seq == n)

-- a present entry for that partner
unfoldable pub pairs : Link → ℕ → Bool
pairs l a = both l.present (l.partner == a)

-- ---- making

abbrev pub zero_key : List ℕ
zero_key = tab 16 (λ i. 0)

abbrev pub no_slot : Slot
no_slot = record { present = false; seq = 0; key = zero_key }

abbrev pub no_link : Link
no_link = record { present = false; partner = 0; key = zero_key; floor = 0 }

-- with the address a, at the mark m: "After a cut at any moment, the board starts, otherwise fresh, at the mark it finds (0 on a new
-- board)"
abbrev pub fresh : ℕ → ℕ → Board
fresh a m =
    record {
      own = a;
      outgoing = m;
      mark = m;
      aps = 0;
      slots = tab 2 (λ i. no_slot);
      active = None;
      links = tab 8 (λ i. no_link);
    }

-- ---- one part changed, all else as it was

abbrev pub with_slot : Board → ℕ → Slot → Board
with_slot b i s =
    record {
      own = b.own;
      outgoing = b.outgoing;
      mark = b.mark;
      aps = b.aps;
      slots = set b.slots i s;
      active = b.active;
      links = b.links;
    }

abbrev pub with_active : Board → ℕ → Board
with_active b i =
    record {
      own = b.own;
      outgoing = b.outgoing;
      mark = b.mark;
      aps = b.aps;
      slots = b.slots;
      active = Some i;
      links = b.links;
    }

abbrev pub with_link : Board → ℕ → Link → Board
with_link b i l =
    record {
      own = b.own;
      outgoing = b.outgoing;
      mark = b.mark;
      aps = b.aps;
      slots = b.slots;
      active = b.active;
      links = set b.links i l;
    }
