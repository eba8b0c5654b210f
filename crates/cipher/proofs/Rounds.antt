-- The recursions of FIPS 197's definitions, as its loops take them: one turn more.
-- Assumes nothing.
use mathlib.Core.Path.{◌≡◌}
use mathlib.Core.List.{List}
use Prim.Native.Nat.{ℕ, ◌+◌}
use native.Mathlib.Numerals.{add-one}
use Rattle.cipher.specs.Aes.{round_of, round_key, rounds, next_key, rcon, key_at}

pub rounds-more : (w : List (List ℕ)) (s : List ℕ) (n : ℕ) → rounds w s (n + 1) ≡ round_of (rounds w s n) (round_key w (n + 1))
unfolding rounds
rounds-more w s n = rw (add-one n)

pub key_more : (k : List ℕ) (n : ℕ) → key_at k (n + 1) ≡ next_key (rcon n) (key_at k n)
unfolding key_at
key_more k n = rw (add-one n)
