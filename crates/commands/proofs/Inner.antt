-- What the reader tells of a frame, and the span of the frame inside it, go together: a Tunnel has an inner frame of the least size
-- or more, and what is refused or is another command has none.
-- Assumes nothing.
use Rattle.std.proofs.Common.{◌≡◌, ℕ, ◌+◌, ◌≤◌, true, false, eqb, leb, ◌⊎◌, List, [], ◌∷◌, length, drop, refl, inl, inr, arith, length-drop, leb-true}
use Rattle.octets.specs.Least.{number_at}
use Rattle.octets.proofs.Choices.{both-parts}
use Rattle.settings.specs.Settings.{Settings}
use Rattle.answers.specs.Numbers.{ProtectionTold}
use Rattle.frames.specs.Tunnelling.{may_tunnel}
use Rattle.commands.specs.declared.Kind.{Kind}
use Rattle.commands.specs.declared.Kind.TheVariants.{Transport1, Transport4, Transport2, Transport3, Update, Remove, Request2, Request4, Switch, Tunnel, Verify, Confirm, Down, Up}
use Rattle.commands.specs.declared.Span.{Span}
use Rattle.commands.specs.Table.{rule_of, least_inner, fits}
use Rattle.commands.specs.Numbers.{CommandTold, untyped, typed}
use Rattle.commands.specs.Reading.{Judgement, refused, sound, judge, command_in, ReadTold, read, unread, answered, read_command}
use Rattle.commands.specs.Parts.{nowhere, rest_span, inner_in, inner_span}
use Rattle.commands.proofs.Bounds.{Holds, asked-holds}
use Rattle.commands.specs.declared.Asked.TheVariants as asks
use Rattle.commands.proofs.Judging.{Meets, judge-told}

-- the identifier of a command
abbrev pub id_of : CommandTold → ℕ
id_of (untyped i xs) = i
id_of (typed i t xs) = i

module _ (z : Settings) (f : List ℕ) (p : ProtectionTold) where
  least : fits z (rule_of Tunnel).rest (drop (2 + (rule_of Tunnel).size) f) ≡ true → least_inner z ≤ (rest_span (length f) 11).count
  unfolding fits rule_of rest_span
  least e =
      let b = both-parts (leb (least_inner z) (length (drop 11 f))) (may_tunnel (drop 11 f)) e in
      omega (arith, leb-true (least_inner z) (length (drop 11 f)) b.0, length-drop 11 f)

  -- what holds of a refusal, of another command and of a Tunnel, holds of every frame
  pub inner-ways : (P : ReadTold → Span → Type 0) → ((n : ℕ) → P (unread n) nowhere)
      → ((c : CommandTold) → eqb (id_of c) 0x0e ≡ false → P (read c) nowhere)
      → (least_inner z ≤ (rest_span (length f) 11).count → P (read (untyped 0x0e (number_at 8 f 3 ∷ []))) (rest_span (length f) 11))
      → P (read_command z f p) (inner_span (length f) (judge z f p))
  unfolding read_command inner_span inner_in rule_of command_in
  inner-ways P down other tunnel = go (judge z f p) refl
    where
      kinds : (k : Kind) → Meets z f p k → P (answered f (sound k)) (inner_span (length f) (sound k))
      kinds Transport1 m = other _ refl
      kinds Transport4 m = other _ refl
      kinds Transport2 m = other _ refl
      kinds Transport3 m = other _ refl
      kinds Update m = other _ refl
      kinds Remove m = other _ refl
      kinds Request2 m = other _ refl
      kinds Request4 m = other _ refl
      kinds Switch m = other _ refl
      kinds Tunnel m = tunnel (least m.fitting)
      kinds Verify m = other _ refl
      kinds Confirm m = other _ refl
      kinds Down m = other _ refl
      kinds Up m = other _ refl

      go : (v : Judgement) → judge z f p ≡ v → P (answered f v) (inner_span (length f) v)
      go (refused n) e = down n
      go (sound k) e = kinds k (judge-told z f p k e).meets

  -- none, or one that is long enough; in any case inside the frame
  pub inner-least : (inner_span (length f) (judge z f p) ≡ nowhere) ⊎ (least_inner z ≤ (inner_span (length f) (judge z f p)).count)
  inner-least = inner-ways (λ _ (q : Span). (q ≡ nowhere) ⊎ (least_inner z ≤ q.count)) (λ _. inl refl) (λ _ _. inl refl) inr

  pub inner-within : Holds f (inner_span (length f) (judge z f p))
  inner-within = asked-holds f z p asks.Inner (judge z f p) (inner_span (length f) (judge z f p)) refl refl
