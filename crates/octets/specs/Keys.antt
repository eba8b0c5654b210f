-- A key: 16 octets, as a type of its own in the definitions, so that a key and a frame can't change places unseen.
-- Assumes nothing.
use Rattle.std.specs.Prelude.{List, ℕ}

pub record Key : Type 0 where
  pub octets : List ℕ

abbrev pub the_key : List ℕ → Key
the_key k = record { octets = k }
