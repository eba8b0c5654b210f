use Rattle.std.proofs.Common.{◌∙◌, ap, rules}
use Rattle.std.proofs.lemmas.Iterator.{first_from_Range}
use Rattle.text.proofs.Parted.{IsIt, IsNot, which-found}
use Rattle.text.specs.Fields.{which, which_of}
use Rattle.text.proofs.fields.which.Goals as goal

pub returns : goal.returns
unfolding which
returns c =
    let words = c.args.words.now in
    let w = c.args.w.now in
    c.unwrap_or.ensures
    ∙ which-found words w c.count-n.result c.find.result
    (first_from_Range _ _ _ c.find.result (IsIt words w) (IsNot words w) c.find.ensures.ran
    (λ k q e. search rules) (λ k q e. search rules))
    ∙ ap (which_of words w 0) c.count-n.ensures
