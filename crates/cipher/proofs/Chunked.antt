-- A string taken 16 octets at a time: the chunk at its front, padded, is its first block; what stays behind has the others.
-- Assumes nothing.
use mathlib.Core.Path.{◌≡◌, refl, sym, ap, ap₂, ◌∙◌}
use mathlib.Core.Bool.{Bool, true, false}
use mathlib.Core.List.{List, [], ◌∷◌, ◌++◌}
use Prim.Native.Nat.{ℕ, ◌+◌, ◌-◌, ◌≤◌, ◌<◌, min}
use native.Mathlib.Nat.{zero-add, le_refl}
use native.Mathlib.Omega.{arith}
use lib.Dec.{ltb}
use lib.ListN.{length, take, drop, replicate, length-append, length-drop, get_or-append, get_or-eq_default, drop_of_length-le}
use lib.Seq.{get_or-take, drop_at, take_all, length-take-le}
use borrow.Author.Tests.{ltb-true, ltb-false}
use Rattle.octets.proofs.Tabs.{tab-ext, onto-zeros}
use Rattle.octets.specs.Lists.{at, onto}
use Rattle.cipher.specs.Blocks.{block_from, blocks, over}
use Rattle.cipher.proofs.Made.{tab-made}
use Rattle.cipher.proofs.Parsed.{blocks-first}

-- the first 16 octets
pub block-whole : (l d : List ℕ) → 16 ≤ length d → l ≡ take 16 d → l ≡ block_from d 0
unfolding block_from
block-whole l d h e =
    tab-made 16 l (λ j. at d (0 + j)) (ap length e ∙ length-take-le 16 d h)
    (λ k b. ap (λ (x : List ℕ). at x k) e ∙ get_or-take 16 d k 0 b ∙ ap (at d) (sym (zero-add k)))

-- fewer, laid onto zeros
pub block-short : (d : List ℕ) → length d < 16 → onto d (replicate 16 0) ≡ block_from d 0
unfolding block_from
block-short d h =
    onto-zeros 16 d (omega arith) ∙ tab-ext 16 (at d) (λ j. at d (0 + j)) (λ j _. ap (at d) (sym (zero-add j)))

module _ (s b t : List ℕ) (e : s ≡ b ++ t) (long : length b ≡ min 16 (length s)) where
  whole : length s ≡ length b + length t
  whole = ap length e ∙ length-append b t

  pub chunk-first : block_from b 0 ≡ block_from s 0
  unfolding block_from
  chunk-first =
      tab-ext 16 (λ j. at b (0 + j)) (λ j. at s (0 + j))
      (λ j h. same (0 + j) (ltb (0 + j) (length b)) refl (omega arith))
    where
      same : (i : ℕ) (u : Bool) → ltb i (length b) ≡ u → i < 16 → at b i ≡ at s i
      same i true p h = sym (ap (λ (x : List ℕ). at x i) e ∙ get_or-append b t 0 i (ltb-true i (length b) p))
      same i false p h =
          let k = ltb-false i (length b) p in
          get_or-eq_default b 0 k ∙ sym (get_or-eq_default s 0 (omega (arith, whole)))

  pub chunk-rest : drop 16 s ≡ t
  chunk-rest = go (ltb (length s) 16) refl
    where
      empty : (l : List ℕ) → length l ≡ 0 → [] ≡ l
      empty [] h = refl
      empty (x ∷ l) h = absurd (omega arith)

      go : (u : Bool) → ltb (length s) 16 ≡ u → drop 16 s ≡ t
      go true p =
          let k = ltb-true (length s) 16 p in
          let f : length s ≤ 16 = omega arith in
          drop_of_length-le s f ∙ empty t (omega (arith, whole))
      go false p =
          let k = ltb-false (length s) 16 p in
          ap (drop 16) e ∙ drop_at b t 16 (omega arith)

  -- a turn of the chain over the blocks of s
  pub over-chunk : (f : List ℕ → List ℕ → List ℕ) (x : List ℕ) → 0 < length s
      → over f x (blocks s) ≡ over f (f x (block_from b 0)) (blocks t)
  unfolding over
  over-chunk f x h =
      ap (over f x) (blocks-first s h)
      ∙ ap₂ (λ (u v : List ℕ). over f (f x u) (blocks v)) (sym chunk-first) chunk-rest

-- what a slice from place n on leaves, where n is k or the string's end
pub slice-rest : (d : List ℕ) (k n : ℕ) → n ≡ min (length d) k → take (length d - n) (drop n d) ≡ drop k d
slice-rest d k n e =
    take_all (length d - n) (drop n d) (rw (length-drop n d) (le_refl (length d - n)))
    ∙ go (ltb (length d) k) refl
  where
    go : (u : Bool) → ltb (length d) k ≡ u → drop n d ≡ drop k d
    go true p =
        let h = ltb-true (length d) k p in
        let f : length d ≤ n = omega arith in
        let g : length d ≤ k = omega arith in
        drop_of_length-le d f ∙ sym (drop_of_length-le d g)
    go false p =
        let h = ltb-false (length d) k p in
        let f : n ≡ k = omega arith in
        ap (λ (i : ℕ). drop i d) f
