-- The loop's chain tells the digits with their places, one a turn.
use mathlib.Core.Bool.{not}
use mathlib.Core.List.{List}
use mathlib.Core.Path.{◌≡◌, ◌∙◌}
use Prim.Native.Nat.{◌<◌}
use native.Mathlib.Omega.{arith}
use lib.ListN.{length, get_or}
use borrow.Author.Tests.{tests}
use Rattle.std.proofs.Common.{rules, Option, Some, None}
use Rattle.std.proofs.lemmas.Iterator.{YieldsList, YieldsList-from_slice}
use Rattle.std.proofs.lemmas.Iterator.Consumers.{YieldsList-at, YieldsList-from_filter, YieldsList-from_enumerate}
use Rattle.std.proofs.lemmas.Iterator.Consumers.{YieldsList-turn, YieldsList-end}
use Rattle.std.proofs.lemmas.List.{length_push}
use Rattle.std.specs.Iterator.{Yields}
use Rattle.std.specs.List.{filter, enumerate_from}
use Rattle.labels.specs.Reading.{separator, digits_in}
use Rattle.labels.proofs.Texts.{digit-there, digits-told, laid-more, laid-all}
use Rattle.labels.proofs.spelling.lay_digits.Goals as goal
use Rattle.labels.proofs.spelling.lay_digits.Goals.{In-Some, In-None}

-- the lemmas of std on a turn and on the end, with the chain last, so that the calls say which chain it is
turn : {S A B : Type 0} {steps : S → Option A → S → Type 0} (v : A → B) {s : S} (all : List B) (xs : List A) (t : S) (y : Yields steps s xs t)
    (r : Option A) (u : S) (x : A) → r ≡ Some x → steps t r u → YieldsList steps v s all
    → (length xs < length all) × (v x ≡ get_or all (length xs) (v x))
turn v all xs t y r u x e q w = YieldsList-turn w xs t y r u x e q

ended : {S A B : Type 0} {steps : S → Option A → S → Type 0} (v : A → B) {s : S} (all : List B) (xs : List A) (t : S) (y : Yields steps s xs t)
    (r : Option A) (u : S) → r ≡ None → steps t r u → YieldsList steps v s all → length xs ≡ length all
ended v all xs t y r u e q w = (YieldsList-end w xs t y r u e q).1

there : (c : In-Some) → let k = length c.loop-n.yielded in let d = digits_in c.args.s.now in
    (k < length d) × (c.in-Some.n ≡ k) × (c.in-Some.field-0-1.now ≡ get_or d k 0)
there c =
    digit-there c.args.s.now (length c.loop-n.yielded) _ _
    (turn (λ p. (p.0, p.1.now)) _ _ _ c.loop-n.yielded_by _ _ _ c.in-Some.is c.next.ensures.steps
    (YieldsList-at c.into_iter-n-iterator.ensures.into_iter_gives
    (YieldsList-from_enumerate
    (YieldsList-at c.enumerate-n-items.ensures.source
    (YieldsList-from_filter _ (λ x. not (separator x)) (YieldsList-from_slice c.args.s.now (cc))
    c.filter.ensures.closure (λ x r q k. search (rules, tests))))
    c.enumerate-n-items.ensures.count)))

pub bounds-out-n : goal.bounds-out-n
bounds-out-n c = let t = there c in omega (arith, c.requires)

pub loop-n-preserved : goal.loop-n-preserved
loop-n-preserved c =
    let l = c.loop-n in
    let t = there (goal.at.loop-n-preserved c).In-Some in (
      search rules,
      search rules,
      laid-more c.args.s.now c.args.out.now l.out _ _ _ _ l.invariant.2 t.0 c.requires t.1 t.2 (length_push l.yielded _),
    )

pub returns : goal.returns
returns c =
    let l = c.loop-n in
    let all = enumerate_from 0 (filter (λ x. not (separator x)) c.args.s.now) in
    laid-all c.args.s.now c.args.out.now l.out _ l.invariant.2
    (ended (λ p. (p.0, p.1.now)) all _ _ l.yielded_by _ _ c.in-None.is c.next.ensures.steps
    (YieldsList-at c.into_iter-n-iterator.ensures.into_iter_gives
    (YieldsList-from_enumerate
    (YieldsList-at c.enumerate-n-items.ensures.source
    (YieldsList-from_filter _ (λ x. not (separator x)) (YieldsList-from_slice c.args.s.now (cc))
    c.filter.ensures.closure (λ x r q k. search (rules, tests))))
    c.enumerate-n-items.ensures.count))
    ∙ digits-told c.args.s.now)
