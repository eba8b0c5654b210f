-- Each way of reading, by what its tests answer, at either layer.
-- Assumes nothing.
use mathlib.Core.Path.{◌≡◌, refl}
use mathlib.Core.Bool.{Bool, true, false, not}
use mathlib.Core.List.{List}
use Prim.Native.Nat.{ℕ}
use lib.Dec.{ltb}
use lib.ListN.{length}
use Rattle.settings.specs.Settings.{Settings}
use Rattle.std.specs.Prelude.{if◌then◌else◌}
use Rattle.octets.specs.Choice.{both}
use Rattle.frames.specs.declared.Layer.{Layer}
use Rattle.frames.specs.declared.Layer.TheVariants.{Network, Aps}
use Rattle.frames.specs.Layers.{control_octets, control_of, form_of, secured_bit, header_of, given_to}
use Rattle.frames.specs.Reading.{Header, unfit, header, read_header, Reading, refused, read_secured, read_plain, read_behind, reading, PlainReading, unread, headed, plain_behind, reading_plain}

abbrev pub least_header : Layer → ℕ
least_header Network = 8
least_header Aps = 2

abbrev pub opening : Settings → Bool → Bool → Bool → Layer → List ℕ → ℕ → ℕ → Reading
opening z short form bit l f h a =
    if short then refused 3
    else (if not form then refused 4
    else (if bit then read_secured z l f h a else read_plain f h))

abbrev pub sealing : Bool → Bool → Bool → List ℕ → ℕ → PlainReading
sealing short form bit f h =
    if short then unread 3
    else (if both form (not bit) then (if ltb (length f) h then unread 3 else headed h) else unread 4)

module _ (l : Layer) (f : List ℕ) where
  abbrev pub short_in : Bool
  short_in = ltb (length f) (control_octets l)

  abbrev pub form_in : Bool
  form_in = form_of l (control_of l f)

  abbrev pub bit_in : Bool
  bit_in = secured_bit l (control_of l f)

  abbrev pub header_in : ℕ
  header_in = header_of l f (control_of l f)

-- the header, of what its tests answer
abbrev heading : Bool → Bool → Bool → ℕ → Header
heading short form bit h = if short then unfit 3 else (if not form then unfit 4 else header h bit)

pub reading-is : (z : Settings) (l : Layer) (f : List ℕ) (a : ℕ)
    → reading z l f a ≡ opening z (short_in l f) (form_in l f) (bit_in l f) l f (header_in l f) (given_to l a)
unfolding reading read_header
reading-is z l f a = go (short_in l f) (form_in l f) (bit_in l f)
  where
    go : (p q u : Bool) → read_behind z l f a (heading p q u (header_in l f)) ≡ opening z p q u l f (header_in l f) (given_to l a)
    go true q u = refl
    go false false u = refl
    go false true true = refl
    go false true false = refl

pub reading_plain-is : (l : Layer) (f : List ℕ) → reading_plain l f ≡ sealing (short_in l f) (form_in l f) (bit_in l f) f (header_in l f)
unfolding reading_plain read_header
reading_plain-is l f = go (short_in l f) (form_in l f) (bit_in l f)
  where
    go : (p q u : Bool) → plain_behind f (heading p q u (header_in l f)) ≡ sealing p q u f (header_in l f)
    go true q u = refl
    go false false u = refl
    go false true true = refl
    go false true false = refl
