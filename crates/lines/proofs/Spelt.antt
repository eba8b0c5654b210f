-- Laws of reading hex into an array of zeros: nothing is read, or the octets at its front are those that were spelt.
-- Assumes nothing.
use Rattle.std.proofs.Common.{◌≡◌, ℕ, ◌/◌, Bool, true, false, List, Some, None, length, take, drop, refl, ap, ◌∙◌, arith}
use lib.Seq.{take-length}
use Rattle.std.proofs.lemmas.List.{take-append-le}
use Rattle.std.specs.Prelude.{if◌then◌else◌}
use Rattle.octets.specs.Lists.{onto}
use Rattle.text.specs.Hex.{octets_of, is_hex, Unhexed, read_into, unhexed}
use Rattle.text.proofs.Hexed.{length-octets}
use Rattle.lines.specs.Answer.{hexed}

module _ (l z o : List ℕ) (n : ℕ) (e : length z ≡ n) where
  pub none-spelt : read_into None o ≡ unhexed l z → None ≡ hexed n l
  unfolding unhexed hexed is_hex
  none-spelt h = rw (← e) (go (is_hex l (length z)) (ap (λ (u : Unhexed). u.answer) h))
    where
      go : (t : Bool) → None ≡ (if t then read_into (Some (length l / 2)) (onto (octets_of l) z) else read_into None z).answer
          → None ≡ (if t then Some (octets_of l) else None)
      go true k = cc
      go false k = refl

  front-spelt : take (length l / 2) (onto (octets_of l) z) ≡ octets_of l
  front-spelt =
      let s = octets_of l in
      rw (← length-octets l) (take-append-le (length s) s (drop (length s) z) (omega arith) ∙ take-length s)

  pub some_spelt : (k : ℕ) → read_into (Some k) o ≡ unhexed l z → Some (take k o) ≡ hexed n l
  unfolding unhexed hexed is_hex
  some_spelt k h = rw (← e) (go (is_hex l (length z)) refl (ap (λ (u : Unhexed). u.answer) h) (ap (λ (u : Unhexed). u.out) h))
    where
      go : (t : Bool) → is_hex l (length z) ≡ t
          → Some k ≡ (if t then read_into (Some (length l / 2)) (onto (octets_of l) z) else read_into None z).answer
          → o ≡ (if t then read_into (Some (length l / 2)) (onto (octets_of l) z) else read_into None z).out
          → Some (take k o) ≡ (if t then Some (octets_of l) else None)
      go true q a b =
          let half : k ≡ length l / 2 = cc in
          rw (half, b) (ap (λ (s : List ℕ). Some s) front-spelt)
      go false q a b = cc
