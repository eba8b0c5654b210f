-- Document 01, "The commands" (RULES 9.5): "A key, hash, inner frame, all TLVs or the value of the first TLV of a named tag is asked
-- for alone and handed back as that part of the caller's own frame (empty if refused or missing)." A tag's value is empty then and
-- only then (Missing), since no value is empty (document 02 (iv)); all TLVs together are empty where a command comes without any, too.
-- Assumes nothing.
use Rattle.std.specs.Prelude.{ℕ, ◌+◌, ◌-◌, List, Option, Some, None, Result, Ok, Err}
use Rattle.std.specs.Borrow.{Bor}
use Rattle.octets.specs.Parts.{Part, octets_from, cut}
use Rattle.tlvs.specs.declared.Value.{Value}
use Rattle.tlvs.specs.declared.Ill.{Ill}
use Rattle.tlvs.specs.declared.Wanted.TheVariants.{Tag}
use Rattle.tlvs.specs.Looking.{walked}
use Rattle.commands.specs.declared.Secret.{Secret}
use Rattle.commands.specs.declared.Secret.TheVariants.{NoSecret, Key, Hash}
use Rattle.commands.specs.declared.Rest.{Rest}
use Rattle.commands.specs.declared.Rest.TheVariants.{End, Tlvs, Relay, Inner}
use Rattle.commands.specs.declared.Span.{Span}
use Rattle.commands.specs.Table.{rule_of, secret_size}
use Rattle.commands.specs.Reading.{Judgement, refused, sound}

-- ---- a part of the frame

abbrev pub octets_at : List ℕ → Span → List ℕ
octets_at s p = octets_from s p.from p.count

abbrev pub cut_at : Bor (List ℕ) → Span → Part
cut_at f p = cut f p.from p.count

-- ---- the spans

abbrev pub span : ℕ → ℕ → Span
span i n = record { from = i; count = n }

-- "empty if refused or missing"
abbrev pub nowhere : Span
nowhere = span 0 0

-- a key stands behind identifier and type, a hash behind identifier, type and source
unfoldable pub key_in : Secret → Span
key_in NoSecret = nowhere
key_in Key = span 4 (secret_size Key)
key_in Hash = nowhere

unfoldable pub hash_in : Secret → Span
hash_in NoSecret = nowhere
hash_in Key = nowhere
hash_in Hash = span 12 (secret_size Hash)

unfoldable pub key_span : Judgement → Span
key_span (refused n) = nowhere
key_span (sound k) = key_in (rule_of k).secret

unfoldable pub hash_span : Judgement → Span
hash_span (refused n) = nowhere
hash_span (sound k) = hash_in (rule_of k).secret

-- all from place i on of a frame of n octets
unfoldable pub rest_span : ℕ → ℕ → Span
rest_span n i = span i (n - i)

unfoldable pub tlvs_in : Rest → Span → Span
tlvs_in End p = nowhere
tlvs_in Tlvs p = p
tlvs_in Relay p = p
tlvs_in Inner p = nowhere

unfoldable pub inner_in : Rest → Span → Span
inner_in End p = nowhere
inner_in Tlvs p = nowhere
inner_in Relay p = nowhere
inner_in Inner p = p

unfoldable pub tlvs_span : ℕ → Judgement → Span
tlvs_span n (refused m) = nowhere
tlvs_span n (sound k) = tlvs_in (rule_of k).rest (rest_span n (2 + (rule_of k).size))

unfoldable pub inner_span : ℕ → Judgement → Span
inner_span n (refused m) = nowhere
inner_span n (sound k) = inner_in (rule_of k).rest (rest_span n (2 + (rule_of k).size))

-- what was found in the TLVs that stand at place i
abbrev pub within : ℕ → Result (Option Value) Ill → Span
within i (Err e) = nowhere
within i (Ok None) = nowhere
within i (Ok (Some v)) = span (i + v.start) v.size

unfoldable pub value_span : List ℕ → ℕ → Span → Span
value_span f tag p = within p.from (walked (Tag tag) (octets_at f p))
