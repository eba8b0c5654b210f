-- The two controls that a frame inside a Tunnel may have. What sealing makes of a plain command that asks for no acknowledgement may
-- stand there.
-- Assumes nothing.
use mathlib.Core.Path.{◌≡◌, refl, ap, ap₂, ◌∙◌}
use mathlib.Core.Bool.{Bool, true}
use mathlib.Core.List.{List, ◌++◌}
use Prim.Native.Nat.{ℕ, ◌+◌, ◌%◌, ◌<◌}
use native.Mathlib.Nat.{add-mul-mod_self_left}
use native.Mathlib.Omega.{arith}
use lib.Dec.{eqb}
use lib.Seq.{get_or_at}
use borrow.Author.Tests.{ne_eqb}
use Rattle.octets.proofs.Tabs.{tab-agree}
use Rattle.std.specs.Prelude.{if◌then◌else◌}
use Rattle.octets.specs.Choice.{both}
use Rattle.octets.specs.Lists.{at, tab, Octets}
use Rattle.frames.specs.declared.Layer.TheVariants.{Aps}
use Rattle.frames.specs.Aps.{aps_type, delivery, ack_format, ack_request, aps_form, aps_secured, aps_header, aps_keyed}
use Rattle.frames.specs.Security.{wire_control, auxiliary}
use Rattle.frames.specs.Making.{secured_header}
use Rattle.frames.specs.Reading.{headed, reading_plain}
use Rattle.frames.specs.Tunnelling.{inner_control, inner_security, may_tunnel}
use Rattle.frames.proofs.Controls.{wire-identifier, wire-extended}
use Rattle.frames.proofs.Found.{PlainFrame, plain-to-seal}
use Rattle.frames.proofs.Marks.{above, bit-clear, marked-bit, marked-form, control-marked, secured-length}

-- ---- the control: of all octets, 0x21 and 0x29

abbrev either : ℕ → Bool
either c = if eqb c 0x21 then true else eqb c 0x29

tried : tab 256 inner_control ≡ tab 256 either
unfolding inner_control aps_form aps_type delivery ack_format aps_secured ack_request
tried = refl

pub inner-controls : (c : ℕ) → c < 256 → inner_control c ≡ either c
inner-controls c h = tab-agree 256 inner_control either tried c h

-- ---- as sealed

-- the security control that sealing sends
wire-inner : (k : ℕ) → k < 4 → (k ≡ 1 → ⊥) → inner_security (wire_control k) ≡ true
unfolding inner_security aps_keyed
wire-inner k l n = simp (wire-identifier k l, wire-extended k l, ne_eqb k 1 n)

module _ (f : List ℕ) (h : ℕ) (e : reading_plain Aps f ≡ headed h) (o : Octets f) (command : aps_type (at f 0) ≡ 1)
    (quiet : ack_request (at f 0) ≡ 0) where
  p : PlainFrame Aps f h
  p = plain-to-seal Aps f h e

  two : h ≡ 2
  unfolding aps_header
  two = p.head ∙ simp command

  -- the control with the security bit set
  marked-inner : inner_control (at f 0 + 32) ≡ true
  unfolding inner_control aps_type ack_request
  marked-inner =
      simp (
        marked-form Aps (at f 0) p.unmarked ∙ p.formed,
        add-mul-mod_self_left (at f 0) 4 8 ∙ command,
        marked-bit Aps (at f 0) p.unmarked,
        ap (λ (x : ℕ). x % 2) (above (at f 0) 32 1 (omega arith) (bit-clear Aps (at f 0) p.unmarked)) ∙ quiet,
      )

  pub sealed-may-tunnel : (k n s q : ℕ) (c : List ℕ) → k < 4 → (k ≡ 1 → ⊥)
      → may_tunnel (secured_header Aps f h ++ (auxiliary k n s q ++ c)) ≡ true
  unfolding may_tunnel auxiliary
  sealed-may-tunnel k n s q c l d =
      ap₂ (λ (x y : ℕ). both (inner_control x) (inner_security y))
      (control-marked Aps f h p o (auxiliary k n s q ++ c))
      (get_or_at (secured_header Aps f h) (wire_control k) _ 0 2 (secured-length Aps f h p ∙ two))
      ∙ ap₂ both marked-inner (wire-inner k l d)
