-- Each part is laid right behind the last, so together they stand at the start of the output.
use Rattle.std.proofs.Common.{List, ℕ, ◌≡◌, ◌∷◌, ◌++◌, refl, subst}
use Rattle.octets.specs.Lists.{onto}
use Rattle.commands.proofs.Laid.{laid-all}
use Rattle.commands.proofs.writer.lay.Goals as goal

pub returns-clause-laid : goal.returns-clause-laid
returns-clause-laid c =
    let x = c.args in
    let e = c.as_slice-own.ensures in
    subst (λ (s : List ℕ). c.paste_at-3.new.out ≡ onto (x.control ∷ x.counter ∷ (s ++ x.rest.now)) x.out.now) e
    (laid-all x.out.now _ _ _ _ _ c.as_slice-own.result.now _ _ refl c.paste_at.ensures c.paste_at-2.ensures
    c.paste_at-3.ensures (rw e c.requires))
