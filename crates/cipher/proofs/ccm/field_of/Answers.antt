-- Behind the flags stands the nonce, and behind it the two octets of the number.
use mathlib.Core.Path.{◌≡◌, sym, ap, ap₂, ◌∙◌}
use mathlib.Core.List.{List, [], ◌∷◌, ◌++◌}
use Prim.Native.Nat.{ℕ}
use lib.ListN.{length}
use Rattle.std.proofs.Common.{rules}
use Rattle.octets.proofs.Tabs.{tab-at}
use Rattle.octets.specs.Lists.{at, tab}
use Rattle.cipher.proofs.ccm.field_of.Goals as goal

pub returns : goal.returns
returns c =
    let n = c.args.n in
    let long : length n ≡ 13 = search rules in
    ap₂ (λ (s t : List ℕ). c.args.f ∷ (s ++ (t ++ [])))
    (c.copy_from_slice-2.ensures.after ∙ sym (tab-at n) ∙ ap (λ (k : ℕ). tab k (at n)) long)
    (c.copy_from_slice.ensures.after ∙ c.two_octets.ensures)
