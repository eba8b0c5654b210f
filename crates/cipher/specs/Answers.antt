-- What the callable routines answer, in document 01's numbers (RULES 10.2 to 10.4), and what they leave.
-- Assumes nothing.
use Rattle.std.specs.Prelude.{Bool, true, List, ℕ, ◌+◌, ◌-◌, ◌%◌, length, ◌==◌, nat_le, Result, Ok, Err}
use Rattle.std.specs.Prelude.{if◌then◌else◌}
use Rattle.octets.specs.Choice.{both}
use Rattle.octets.specs.Lists.{onto}
use Rattle.cipher.specs.Aes.{aes128}
use Rattle.cipher.specs.Blocks.{zero_block}
use Rattle.cipher.specs.Ccm.{ccm_seal, ccm_open, Verdict, valid, invalid}
use Rattle.cipher.specs.Hash.{hash_of, keyed_hash}
use Rattle.cipher.specs.declared.Fault.{Fault}
use Rattle.cipher.specs.declared.Fault.TheVariants.{Room, Long, Short, Forged, Argument}

-- the number of a refusal in 01's table
abbrev pub number : Fault → ℕ
number Room = 1
number Long = 2
number Short = 3
number Forged = 9
number Argument = 14

-- what an answer says: how many octets were made, or the number of the refusal
pub data Count : Type 0 where
  made : ℕ → Count
  refused : ℕ → Count

abbrev pub counted : Result ℕ Fault → Count
counted (Ok n) = made n
counted (Err f) = refused (number f)

-- an answer, and the octets that go with it
pub record Product : Type 0 where
  pub answer : Count
  pub octets : List ℕ

abbrev pub product : Count → List ℕ → Product
product t o = record { answer = t; octets = o }

-- a hash with its 16 octets, or a refusal with zeros for them
abbrev pub hashed : Result (List ℕ) Fault → Product
hashed (Ok h) = product (made 16) h
hashed (Err f) = product (refused (number f)) zero_block

-- Annex A, prerequisite 4: "valid values for M are the integers 0, 4, 6, 8, 10, 12, 14, and 16"
unfoldable pub tag_length : ℕ → Bool
tag_length M = if M == 0 then true else both (nat_le 4 M) (both (nat_le M 16) ((M % 2) == 0))

-- the most octets, authenticated or payload, that are taken: above every frame's, which has no more than 116
abbrev pub most : ℕ
most = 128

-- a message sealed, and laid at the start of the output o
unfoldable pub sealing : ℕ → List ℕ → List ℕ → List ℕ → List ℕ → List ℕ → Product
sealing M k n a m o =
    if tag_length M then
    if both (nat_le (length a) most) (nat_le (length m) most) then
    if nat_le (length m + M) (length o)
    then product (made (length m + M)) (onto (ccm_seal (aes128 k) M n a m) o)
    else product (refused 1) o
    else product (refused 2) o
    else product (refused 14) o

-- what opening tells, and what it leaves in the output: only a message whose tag fits is laid there
abbrev pub opened_onto : Verdict → List ℕ → Product
opened_onto (valid m) o = product (made (length m)) (onto m o)
opened_onto invalid o = product (refused 9) o

unfoldable pub opening : ℕ → List ℕ → List ℕ → List ℕ → List ℕ → List ℕ → Product
opening M k n a c o =
    if tag_length M then
    if both (nat_le (length a) most) (nat_le (length c) (most + M)) then
    if nat_le M (length c) then
    if nat_le (length c - M) (length o)
    then opened_onto (ccm_open (aes128 k) M n a c) o
    else product (refused 1) o
    else product (refused 3) o
    else product (refused 2) o
    else product (refused 14) o

-- 01, "Hash": input up to 256 octets, keyed hash 240, else 2; a refusal's octets are zero
unfoldable pub hashing : List ℕ → Product
hashing d = if nat_le (length d) 256 then product (made 16) (hash_of d) else product (refused 2) zero_block

unfoldable pub keyed_hashing : List ℕ → List ℕ → Product
keyed_hashing k d = if nat_le (length d) 240 then product (made 16) (keyed_hash k d) else product (refused 2) zero_block
