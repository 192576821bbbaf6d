-- One alternative more: its number goes into the greatest so far.
use Rattle.std.proofs.Common.{◌≡◌, ◌∙◌, ap, max, rules}
use Rattle.au_translate.proofs.Places.{next_fold}
use Rattle.au_translate.proofs.bounds.most_copies.Goals as goal

pub loop-place-preserved : goal.loop-place-preserved
loop-place-preserved c =
    let most = c.loop-place.most in
    let number = c.most.ensures.of ∙ ap (λ t. t.most) c.times.ensures.of in
    let found : c.max-most.result ≡ max most c.most.result = search (rules, c.max-most.ensures) in
    next_fold c.args.alternatives.now c.loop-place.place c.get.result c.get.ensures max (λ x. x.copies.most) most c.max-most.result _ (found ∙ ap (max most) number) c.loop-place.invariant
