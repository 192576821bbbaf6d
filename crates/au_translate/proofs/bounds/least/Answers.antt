-- One alternative more: its value goes into the least so far.
use Rattle.std.proofs.Common.{◌∙◌, ap}
use Rattle.au_value.specs.Ranges.{lesser}
use Rattle.au_blocks.specs.Scalars.{scalar_value}
use Rattle.au_translate.specs.Translate.{low_at}
use Rattle.au_translate.proofs.Ends.{next_least}
use Rattle.au_translate.proofs.bounds.least.Goals as goal

pub loop-place-preserved : goal.loop-place-preserved
loop-place-preserved c =
    let a = c.get-in-loop-place.result in
    let best = scalar_value c.loop-place.least in
    let found = c.lesser-least.ensures ∙ ap (lesser best) c.low.ensures in
    next_least (low_at c.args.at) c.args.alternatives.now c.loop-place.place a c.get-in-loop-place.ensures best (scalar_value c.lesser-least.result) _ found c.loop-place.invariant
