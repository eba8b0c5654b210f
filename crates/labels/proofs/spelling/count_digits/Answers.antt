use mathlib.Core.Bool.{not}
use mathlib.Core.Path.{sym, ap, ◌∙◌}
use lib.ListN.{length}
use borrow.Author.Tests.{tests}
use Rattle.std.proofs.Common.{rules}
use Rattle.std.proofs.lemmas.Iterator.{YieldsList-from_slice}
use Rattle.std.proofs.lemmas.Iterator.Consumers.{YieldsList-from_filter, count_from_yields_List}
use Rattle.labels.specs.Reading.{separator}
use Rattle.labels.proofs.Texts.{digits-filter}
use Rattle.labels.proofs.spelling.count_digits.Goals as goal

pub returns : goal.returns
returns c =
    let s = c.args.s.now in
    count_from_yields_List c.filter.result _ c.count.ensures.ran
    (YieldsList-from_filter _ (λ x. not (separator x)) (YieldsList-from_slice s (cc))
    c.filter.ensures.closure (λ x r q k. search (rules, tests)))
    ∙ ap length (sym (digits-filter s))
