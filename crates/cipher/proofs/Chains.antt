-- A chain over a string takes in its first block and then the rest; so the calls of CCM*'s loops, in their order, make the CBC-MAC.
-- Assumes nothing.
use mathlib.Core.Path.{◌≡◌, refl, sym, ap, ◌∙◌}
use mathlib.Core.List.{List, [], ◌∷◌, ◌++◌}
use Prim.Native.Nat.{ℕ, ◌+◌, ◌<◌, ◌≤◌}
use native.Mathlib.Omega.{arith}
use lib.ListN.{length, drop}
use Rattle.octets.specs.Lists.{at, tab}
use Rattle.cipher.specs.Blocks.{two_octets, block_from, blocks, over}
use Rattle.cipher.specs.Ccm.{led, auth_data, field, flags, first_block, absorbed, mac_of}
use Rattle.cipher.proofs.Parsed.{blocks-first, blocks-next, blocks_end, blocks-none}

module _ (f : List ℕ → List ℕ → List ℕ) where
  pub over-append : (x : List ℕ) (bs cs : List (List ℕ)) → over f x (bs ++ cs) ≡ over f (over f x bs) cs
  unfolding over
  over-append x [] cs = refl
  over-append x (b ∷ bs) cs = over-append (f x b) bs cs

  -- a turn of the loop over the blocks from place i on
  pub over-next : (x d : List ℕ) (i : ℕ) → i < length d
      → over f x (blocks (drop i d)) ≡ over f (f x (block_from d i)) (blocks (drop (i + 16) d))
  unfolding over
  over-next x d i h = ap (over f x) (blocks-next d i h)

  pub over-end : (x d : List ℕ) (i : ℕ) → length d ≤ i → over f x (blocks (drop i d)) ≡ x
  unfolding over
  over-end x d i h = ap (over f x) (blocks_end d i h)

  -- L(a) || a: its first block has the count and 14 octets of a, and the others go on from there
  pub over-led : (x a : List ℕ) → 0 < length a
      → over f x (blocks (led a)) ≡ over f (f x (two_octets (length a) ++ tab 14 (at (block_from a 0)))) (blocks (drop 14 a))
  unfolding over led block_from
  over-led x [] h = absurd (omega arith)
  over-led x (y ∷ a) h = ap (over f x) (blocks-first (led (y ∷ a)) (omega arith))

  -- the same, of what the calls answered
  pub led-by : (x a b e y r : List ℕ) → 0 < length a → b ≡ block_from a 0 → e ≡ two_octets (length a) ++ tab 14 (at b)
      → y ≡ f x e → r ≡ over f y (blocks (drop 14 a)) → r ≡ over f x (blocks (led a))
  led-by x a b e y r h eb ee ey er =
      er ∙ ap (λ (z : List ℕ). over f z (blocks (drop 14 a)))
      (ey ∙ ap (f x) (ee ∙ ap (λ (z : List ℕ). two_octets (length a) ++ tab 14 (at z)) eb))
      ∙ sym (over-led x a h)

  pub over-empty : (x a : List ℕ) → length a ≡ 0 → over f x (blocks (led a)) ≡ x
  unfolding over led
  over-empty x [] h = ap (over f x) blocks-none
  over-empty x (y ∷ a) h = absurd (omega arith)

-- the CBC-MAC, in the order in which it is made
pub mac-by : (E : List ℕ → List ℕ) (M : ℕ) (n a m : List ℕ)
    → over (absorbed E) (over (absorbed E) (E (first_block M n a m)) (blocks (led a))) (blocks m) ≡ mac_of E M n a m
unfolding mac_of auth_data over absorbed
mac-by E M n a m = sym (over-append (absorbed E) (E (first_block M n a m)) (blocks (led a)) (blocks m))

-- the same, of what the calls answered
pub mac-of-calls : (E : List ℕ → List ℕ) (M : ℕ) (n a m b x y r : List ℕ) (f : ℕ) → f ≡ flags M a → b ≡ field f n (length m)
    → x ≡ E b → y ≡ over (absorbed E) x (blocks (led a)) → r ≡ over (absorbed E) y (blocks m) → r ≡ mac_of E M n a m
mac-of-calls E M n a m b x y r f ef eb ex ey er =
    er ∙ ap (λ (z : List ℕ). over (absorbed E) z (blocks m))
    (ey ∙ ap (λ (z : List ℕ). over (absorbed E) z (blocks (led a))) (ex ∙ ap E (eb ∙ ap (λ (z : ℕ). field z n (length m)) ef)))
    ∙ mac-by E M n a m
