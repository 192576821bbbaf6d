-- One alternative more: its number goes into the least so far.
use Rattle.std.proofs.Common.{◌∙◌, ap, min}
use Rattle.au_translate.proofs.Places.{next_fold}
use Rattle.au_translate.proofs.bounds.least_copies.Goals as goal

pub loop-place-preserved : goal.loop-place-preserved
loop-place-preserved c =
    let a = c.get-in-loop-place.result in
    let number = c.least.ensures.of ∙ ap (λ t. t.least) c.times-in-loop-place.ensures.of in
    let found = c.min-least.ensures ∙ ap (min c.loop-place.least) number in
    next_fold c.args.alternatives.now c.loop-place.place a c.get-in-loop-place.ensures min (λ x. x.copies.least) c.loop-place.least c.min-least.result _ found c.loop-place.invariant
