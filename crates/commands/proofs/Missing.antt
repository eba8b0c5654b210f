-- The value of a tag is empty if the frame is refused or has no TLV of that tag, and only then.
-- Assumes nothing.
use Rattle.std.proofs.Common.{Option, Some, None, Result, Ok, Err, ◌≡◌, ℕ, ◌+◌, not, eqb, List, length, drop, refl, ap, ◌∙◌, arith, length-drop, length-take, ne_eqb}
use Rattle.answers.specs.Numbers.{ProtectionTold}
use Rattle.settings.specs.Settings.{Settings}
use Rattle.tlvs.proofs.Walks.{Inside, walked-inside, walked-tagged, none-tagged}
use Rattle.tlvs.specs.declared.Value.{Value}
use Rattle.tlvs.specs.declared.Ill.{Ill}
use Rattle.tlvs.specs.declared.Wanted.TheVariants.{Tag}
use Rattle.tlvs.specs.Looking.{walked, found, tagged}
use Rattle.commands.specs.declared.Span.{Span}
use Rattle.commands.specs.Table.{rule_of}
use Rattle.commands.specs.Reading.{Judgement, refused, sound, judge}
use Rattle.commands.specs.Parts.{octets_at, nowhere, tlvs_span, within, value_span}
use Rattle.commands.specs.Missing.{is_there}
use Rattle.commands.proofs.ReadBack.{tlvs-cut}

module _ (f : List ℕ) (tag : ℕ) where
  within-empty : (q : Span) (x : Result (Option Value) Ill) → Inside (length (octets_at f q)) x
      → eqb (length (octets_at f (within q.from x))) 0 ≡ not (found x)
  within-empty q (Err e) h = refl
  within-empty q (Ok None) h = refl
  within-empty q (Ok (Some v)) h =
      ne_eqb _ _ (λ (e : length (octets_at f (within q.from (Ok (Some v)))) ≡ 0).
      omega (
        arith,
        h.0,
        h.1,
        e,
        length-take v.size (drop (q.from + v.start) f),
        length-drop (q.from + v.start) f,
        length-take q.count (drop q.from f),
        length-drop q.from f,
      ))

  -- in TLVs that stand in a span
  span-empty : (q : Span) → eqb (length (octets_at f (value_span f tag q))) 0 ≡ not (tagged tag (octets_at f q))
  unfolding value_span
  span-empty q =
      within-empty q (walked (Tag tag) (octets_at f q)) (walked-inside (Tag tag) (octets_at f q))
      ∙ ap not (walked-tagged tag (octets_at f q))

  judged-empty : (v : Judgement) → eqb (length (octets_at f (value_span f tag (tlvs_span (length f) v)))) 0 ≡ not (is_there f tag v)
  unfolding tlvs_span is_there
  judged-empty (refused n) = span-empty nowhere ∙ ap not (none-tagged tag)
  judged-empty (sound k) =
      span-empty _ ∙ ap (λ (s : List ℕ). not (tagged tag s))
      (tlvs-cut f (2 + (rule_of k).size) (drop (2 + (rule_of k).size) f) refl (rule_of k).rest)

  pub value-empty : (z : Settings) (p : ProtectionTold)
      → let v = judge z f p in
      eqb (length (octets_at f (value_span f tag (tlvs_span (length f) v)))) 0 ≡ not (is_there f tag v)
  value-empty z p = judged-empty (judge z f p)
