-- The hash's padding: what stands at each place, how long it is, and that a first block of 16 octets can be taken in before the rest.
-- Assumes nothing.
use mathlib.Core.Path.{◌≡◌, refl, sym, ap, ap₂, ◌∙◌}
use mathlib.Core.Bool.{Bool, true, false}
use mathlib.Core.List.{List, ◌∷◌, ◌++◌}
use Prim.Native.Nat.{ℕ, suc, ◌+◌, ◌-◌, ◌*◌, ◌/◌, ◌%◌, ◌<◌, ◌≤◌}
use native.Mathlib.Nat.{add-zero, zero-add}
use native.Mathlib.Omega.{arith}
use lib.Bits.{bit_xor}
use lib.Dec.{ltb}
use lib.ListN.{length, replicate, length-append, length-replicate, get_or-replicate, get_or-append, get_or-eq_default}
use lib.Seq.{get_or-append-add}
use borrow.Author.Tests.{ltb-true, ltb-false}
use Rattle.octets.specs.Lists.{at, tab}
use Rattle.cipher.specs.Blocks.{two_octets, block_from, blocks, zero_block, over}
use Rattle.cipher.specs.Code.{padded_after}
use Rattle.cipher.specs.Hash.{padded, hashed_in, hash_of, plus_each}
use Rattle.cipher.proofs.Parsed.{blocks-first}

module _ (b : ℕ) (d : List ℕ) where
  -- the zeros between the mark and the count, and where the whole ends
  abbrev gap : ℕ
  gap = (29 - length d % 16) % 16

  abbrev pub end : ℕ
  end = (length d + 18) / 16 * 16

  seam : length d + (suc gap + 2) ≡ end
  seam = omega arith

  abbrev tail : List ℕ
  tail = replicate gap 0 ++ two_octets (8 * (b + length d))

  pub pad-length : length (padded_after b d) ≡ end
  unfolding padded_after
  pad-length = length-append d (0x80 ∷ tail) ∙ simp (length-append, length-replicate) (omega arith)

  pub pad-plain : (i : ℕ) → i < length d → at (padded_after b d) i ≡ at d i
  unfolding padded_after
  pad-plain i h = get_or-append d (0x80 ∷ tail) 0 i h

  pub pad-mark : at (padded_after b d) (length d) ≡ 128
  unfolding padded_after
  pad-mark = ap (at (d ++ (0x80 ∷ tail))) (sym (add-zero (length d))) ∙ get_or-append-add d (0x80 ∷ tail) 0 0

  behind : (k : ℕ) → at (padded_after b d) (length d + suc k) ≡ at tail k
  unfolding padded_after
  behind k = get_or-append-add d (0x80 ∷ tail) (suc k) 0

  counted : (k : ℕ) → at tail (gap + k) ≡ at (two_octets (8 * (b + length d))) k
  counted k =
      ap (λ (n : ℕ). at tail (n + k)) (sym (length-replicate gap 0))
      ∙ get_or-append-add (replicate gap 0) (two_octets (8 * (b + length d))) k 0

  pub pad-high : (i : ℕ) → i + 2 ≡ end → at (padded_after b d) i ≡ 8 * (b + length d) / 256 % 256
  pad-high i h =
      let e : i ≡ length d + suc (gap + 0) = omega (arith, seam) in
      ap (at (padded_after b d)) e ∙ behind (gap + 0) ∙ counted 0

  pub pad-low : (i : ℕ) → i + 1 ≡ end → at (padded_after b d) i ≡ 8 * (b + length d) % 256
  pad-low i h =
      let e : i ≡ length d + suc (gap + 1) = omega (arith, seam) in
      ap (at (padded_after b d)) e ∙ behind (gap + 1) ∙ counted 1

  -- between the mark and the count
  pub pad-zero : (i : ℕ) → length d < i → i + 2 < end → at (padded_after b d) i ≡ 0
  pad-zero i h k =
      let e : i ≡ length d + suc (i - length d - 1) = omega arith in
      let r : i - length d - 1 < gap = omega (arith, seam) in
      ap (at (padded_after b d)) e ∙ behind (i - length d - 1)
      ∙ get_or-append (replicate gap 0) (two_octets (8 * (b + length d))) 0 (i - length d - 1) (rw (length-replicate {A = ℕ} gap 0) r)
      ∙ get_or-replicate gap (i - length d - 1) 0 0 r

  pub pad-out : (i : ℕ) → end ≤ i → at (padded_after b d) i ≡ 0
  pad-out i h = get_or-eq_default (padded_after b d) 0 (rw pad-length h)

  -- neither plain, nor the mark, nor the count
  pub pad-else : (i : ℕ) → length d < i → (i + 2 ≡ end → ⊥) → (i + 1 ≡ end → ⊥) → at (padded_after b d) i ≡ 0
  pad-else i h p q = go (ltb (i + 2) end) refl
    where
      go : (t : Bool) → ltb (i + 2) end ≡ t → at (padded_after b d) i ≡ 0
      go true e = pad-zero i h (ltb-true (i + 2) end e)
      go false e = let f = ltb-false (i + 2) end e in pad-out i (omega arith)

-- nothing went before
pub pad-none : (d : List ℕ) → padded_after 0 d ≡ padded d
unfolding padded padded_after
pad-none d =
    ap (λ (k : ℕ). d ++ (0x80 ∷ replicate ((29 - length d % 16) % 16) 0 ++ two_octets (8 * k))) (zero-add (length d))

-- a first block, and then d: the blocks that a hash takes in behind it
pub pad-behind : (g : ℕ → ℕ) (d : List ℕ) → blocks (padded (tab 16 g ++ d)) ≡ tab 16 g ∷ blocks (padded_after 16 d)
unfolding padded padded_after block_from
pad-behind g d =
    blocks-first (padded (tab 16 g ++ d)) (omega arith)
    ∙ ap (λ (l : List (List ℕ)). tab 16 g ∷ l)
    (ap₂ (λ (n k : ℕ). blocks (d ++ (0x80 ∷ replicate ((29 - n) % 16) 0 ++ two_octets (8 * k)))) turned count)
  where
    turned : length (tab 16 g ++ d) % 16 ≡ length d % 16
    turned = omega arith

    count : length (tab 16 g ++ d) ≡ 16 + length d
    count = omega arith

-- the same, of what the calls answered
pub hash-behind : (k d p h r : List ℕ) (x : ℕ) → p ≡ plus_each k x → h ≡ hashed_in zero_block p
    → r ≡ over hashed_in h (blocks (padded_after 16 d)) → r ≡ hash_of (plus_each k x ++ d)
unfolding hash_of over
hash-behind k d p h r x ep eh er =
    er ∙ ap (λ (z : List ℕ). over hashed_in z (blocks (padded_after 16 d))) (eh ∙ ap (hashed_in zero_block) ep)
    ∙ sym (ap (over hashed_in zero_block) (pad-behind (λ i. bit_xor (at k i) x) d))
