use mathlib.Core.Path.{◌≡◌, refl, ap, ◌∙◌}
use mathlib.Core.List.{List, []}
use Prim.Native.Nat.{ℕ, ◌+◌, ◌<◌, min}
use native.Mathlib.Omega.{arith}
use lib.ListN.{length, get_or, take, drop, length-take, length-drop}
use lib.Seq.{get_or-take, get_or-drop}
use Rattle.std.proofs.Common.{rules}
use Rattle.cipher.specs.Aes.{round_key, rounds, cipher}
use Rattle.cipher.specs.Code.{block_of}
use Rattle.cipher.proofs.Rounds.{rounds-more}
use Rattle.cipher.proofs.aes.Keyed.encipher.Goals as goal

-- the keys from the second to the last but one
middle : List (List ℕ) → List (List ℕ)
middle w = take 9 (drop 1 w)

count : (w : List (List ℕ)) → length w ≡ 11 → length (middle w) ≡ 9
unfolding middle
count w e = length-take 9 (drop 1 w) ∙ ap (min 9) (length-drop 1 w) ∙ omega (arith, e)

nth : (w : List (List ℕ)) (i : ℕ) → i < 9 → get_or (middle w) i [] ≡ round_key w (i + 1)
unfolding middle
nth w i h =
    let e : 1 + i ≡ i + 1 = omega arith in
    get_or-take 9 (drop 1 w) i [] h ∙ get_or-drop 1 w i [] ∙ ap (round_key w) e

pub loop-k-init : goal.loop-k-init
unfolding rounds
loop-k-init c = refl

pub loop-k-preserved : goal.loop-k-preserved
unfolding middle
loop-k-preserved c =
    let w = c.args.self.now.keys in
    let i = c.loop-k.k-index in
    let h : i < 9 = omega (arith, count w (search rules), c.loop-k-test.true) in
    cc (nth w i h, rounds-more w (block_of c.add_round_key-s.result) i)

pub returns : goal.returns
unfolding cipher middle
returns c =
    let e : c.loop-k.k-index ≡ 9 = omega (arith, count c.args.self.now.keys (search rules)) in
    cc
