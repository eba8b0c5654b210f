-- A string parsed into blocks of 16 is the block at its start and the blocks of what is behind it; an empty one has none.
-- Assumes nothing.
use mathlib.Core.Path.{◌≡◌, refl, sym, ap, ap₂, ◌∙◌}
use mathlib.Core.Bool.{Bool, true, false}
use mathlib.Core.List.{List, [], ◌∷◌}
use Prim.Native.Nat.{ℕ, suc, ◌+◌, ◌-◌, ◌*◌, ◌≤◌, ◌<◌, min}
use native.Mathlib.Nat.{add_assoc, add-zero}
use native.Mathlib.Omega.{arith}
use lib.Dec.{ltb}
use lib.ListN.{length, take, drop, length-take, length-drop, drop_of_length-le, get_or-eq_default}
use lib.Seq.{get_or-take, get_or-drop, drop-drop}
use borrow.Author.Tests.{ltb-true, ltb-false}
use Rattle.octets.proofs.Pasted.{pasted-onto}
use Rattle.octets.proofs.Tabs.{tab-ext, get_or-tab, onto-zeros}
use Rattle.octets.specs.Lists.{at, tab, pasted}
use Rattle.cipher.specs.Blocks.{block_from, block_count, blocks, zero_block}

pub block_at : (d : List ℕ) (i j : ℕ) → j < 16 → at (block_from d i) j ≡ at d (i + j)
unfolding block_from
block_at d i j h = get_or-tab 16 (λ j. at d (i + j)) j 0 h

pub block-drop : (d : List ℕ) (n i : ℕ) → block_from (drop n d) i ≡ block_from d (n + i)
unfolding block_from
block-drop d n i =
    tab-ext 16 (λ j. at (drop n d) (i + j)) (λ j. at d (n + i + j))
    (λ j h. get_or-drop n d (i + j) 0 ∙ ap (at d) (sym (add_assoc n i j)))

-- the first m octets from place i on, laid onto zeros, where m is 16 or all that there are
pub block-laid : (l d : List ℕ) (i m : ℕ) → l ≡ pasted zero_block 0 (take m (drop i d)) → m ≤ 16 → min 16 (length d - i) ≤ m
    → l ≡ block_from d i
unfolding block_from
block-laid l d i m e h k =
    pasted-onto l zero_block p e short ∙ onto-zeros 16 p short ∙ tab-ext 16 (at p) (λ j. at d (i + j)) (λ j b. octet j b (ltb j m) refl)
  where
    p : List ℕ
    p = take m (drop i d)

    short : length p ≤ 16
    short = rw (length-take m (drop i d)) (omega arith)

    octet : (j : ℕ) → j < 16 → (t : Bool) → ltb j m ≡ t → at p j ≡ at d (i + j)
    octet j b true g = get_or-take m (drop i d) j 0 (ltb-true j m g) ∙ get_or-drop i d j 0
    octet j b false g =
        get_or-eq_default p 0 (rw (length-take m (drop i d)) (omega (arith, ltb-false j m g)))
        ∙ sym (get_or-eq_default d 0 (omega (arith, ltb-false j m g)))

pub blocks-none : blocks [] ≡ []
unfolding blocks
blocks-none = refl

pub blocks-first : (d : List ℕ) → 0 < length d → blocks d ≡ block_from d 0 ∷ blocks (drop 16 d)
unfolding blocks
blocks-first d h =
    ap (λ (n : ℕ). tab n (λ k. block_from d (16 * k))) count
    ∙ ap (λ (l : List (List ℕ)). block_from d 0 ∷ l) (tab-ext _ (λ k. block_from d (16 * suc k)) (λ k. block_from (drop 16 d) (16 * k)) step)
  where
    count : block_count (length d) ≡ suc (block_count (length (drop 16 d)))
    count = rw (length-drop 16 d) (omega arith)

    step : (k : ℕ) → k < block_count (length (drop 16 d)) → block_from d (16 * suc k) ≡ block_from (drop 16 d) (16 * k)
    step k _ = let e : 16 * suc k ≡ 16 + 16 * k = omega arith in ap (block_from d) e ∙ sym (block-drop d 16 (16 * k))

-- what is left from place i on: a block, and what is left behind it
pub blocks-next : (d : List ℕ) (i : ℕ) → i < length d → blocks (drop i d) ≡ block_from d i ∷ blocks (drop (i + 16) d)
blocks-next d i h =
    blocks-first (drop i d) (rw (length-drop i d) (omega arith))
    ∙ ap₂ (λ (b : List ℕ) (l : List (List ℕ)). b ∷ l) (block-drop d i 0 ∙ ap (block_from d) (add-zero i)) (ap blocks (drop-drop 16 i d))

pub blocks_end : (d : List ℕ) (i : ℕ) → length d ≤ i → blocks (drop i d) ≡ []
blocks_end d i h = ap blocks (drop_of_length-le d h) ∙ blocks-none
