use mathlib.Core.Path.{◌≡◌, refl, ap, ◌∙◌}
use mathlib.Core.List.{List}
use Prim.Native.Nat.{ℕ}
use Rattle.std.proofs.Common.{rules}
use Rattle.octets.proofs.Filled.{one, more, all}
use Rattle.octets.proofs.Tabs.{get_or-tab}
use Rattle.octets.specs.Lists.{at}
use Rattle.cipher.specs.Aes.{key_at, rcon, key_expansion}
use Rattle.cipher.proofs.Rounds.{key_more}
use Rattle.cipher.proofs.aes.Tables.expand.Goals as goal

pub loop-i-init : goal.loop-i-init
unfolding key_at
loop-i-init c = (refl, one _ _ _ _ refl (search rules) refl)

pub loop-i-preserved : goal.loop-i-preserved
loop-i-preserved c =
    let l = c.loop-i in
    let constant : at c.args.self.now.constants l.i ≡ rcon l.i
    = ap (λ (t : List ℕ). at t l.i) c.args.self.now.doubling ∙ get_or-tab 10 rcon l.i 0 (search rules) in
    let next = key_more c.args.key l.i in
    (cc (constant, next), more _ _ _ _ _ _ l.invariant.1 (search rules) (cc (constant, next)))

pub returns : goal.returns
unfolding key_expansion
returns c = all _ _ _ _ _ c.loop-i.invariant.1 (search rules)
