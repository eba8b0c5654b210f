use mathlib.Core.List.{[]}
use mathlib.Core.Path.{◌≡◌, refl, sym, ap, ◌∙◌}
use denote.Enum.Bare.{sameb}
use lib.ListN.{drop_of_length-le}
use Rattle.labels.specs.contracts.spelling.Next.{the_type}
use Rattle.labels.specs.declared.spelling.Next.{Next}
use Rattle.labels.specs.declared.spelling.Next.TheVariants.{Octet, Digit, Behind}
use Rattle.labels.specs.Code.{spells_on}
use Rattle.labels.proofs.Texts.{spells-on}
use Rattle.labels.proofs.spelling.spells.Goals as goal

-- a text ends behind an octet
ends : (n : Next) → sameb the_type n Behind ≡ spells_on [] n
unfolding spells_on
ends Octet = refl
ends Digit = refl
ends Behind = refl

pub loop-c-init : goal.loop-c-init
loop-c-init c = spells-on c.args.s.now

pub returns : goal.returns
returns c =
    let l = c.loop-c in
    c.eq.ensures ∙ ends l.next ∙ sym (l.invariant ∙ ap (λ s. spells_on s l.next) (drop_of_length-le c.args.s.now c.loop-c-test.false))
