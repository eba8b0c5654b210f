-- Whether unsealing makes a frame is what `looking` says, whatever the layer and whatever the output, if it has room.
-- Assumes nothing.
use Rattle.std.proofs.Common.{Option, Some, None}
use Rattle.std.specs.Option.{is_some}
use mathlib.Core.Path.{◌≡◌, refl, ap, ◌∙◌}
use mathlib.Core.Bool.{Bool, true, false}
use mathlib.Core.List.{List}
use Prim.Native.Nat.{ℕ, ◌≤◌}
use lib.Dec.{leb}
use lib.ListN.{length}
use borrow.Author.Tests.{le-leb}
use Rattle.settings.specs.Settings.{Settings, longest}
use Rattle.octets.specs.Keys.{Key}
use Rattle.octets.proofs.Choices.{both_true}
use Rattle.std.specs.Prelude.{if◌then◌else◌}
use Rattle.octets.specs.Choice.{both}
use Rattle.seals.specs.Sealing.{message_of, is_valid, genuine, told_unsealed, sound, unsealed_onto, unsealing, looking}
use Rattle.cipher.specs.Answers.{Count, made, refused, Product, product}
use Rattle.cipher.specs.Ccm.{Verdict, valid, invalid}
use Rattle.frames.specs.declared.Layer.{Layer}
use Rattle.frames.specs.declared.Secured.{Secured}

-- whether something was made
abbrev pub is_made : Count → Bool
is_made (made n) = true
is_made (refused n) = false

pub made-some : (u : Option ℕ) → is_some u ≡ is_made (told_unsealed u)
made-some (Some n) = refl
made-some None = refl

module _ (z : Settings) (k : Key) (l : Layer) (f : List ℕ) (s : Secured) (o : List ℕ) (room : longest ≤ length o) where
  pub looking-is : is_made (unsealing z k l f s o).answer ≡ looking z k f s
  unfolding unsealing looking genuine
  looking-is =
      ap (λ (t : Bool). is_made (if t then unsealed_onto l f s o (message_of z k f s) else product (refused 9) o).answer) fitting
      ∙ go (sound z f s) (message_of z k f s)
    where
      fitting : both (sound z f s) (leb longest (length o)) ≡ sound z f s
      fitting = ap (both (sound z f s)) (le-leb longest (length o) room) ∙ both_true (sound z f s)

      go : (t : Bool) (r : Verdict) → is_made (if t then unsealed_onto l f s o r else product (refused 9) o).answer ≡ both t (is_valid r)
      go true (valid m) = refl
      go true invalid = refl
      go false r = refl

  -- of the answer that the call gave
  pub looked : (r : Option ℕ) (p : List ℕ) → product (told_unsealed r) p ≡ unsealing z k l f s o → is_made (told_unsealed r) ≡ looking z k f s
  looked r p e = ap (λ (x : Product). is_made x.answer) e ∙ looking-is
