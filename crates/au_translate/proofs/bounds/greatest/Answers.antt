-- One alternative more: its value goes into the greatest so far.
use Rattle.std.proofs.Common.{◌∙◌, ap}
use Rattle.au_value.specs.Ranges.{greater}
use Rattle.au_blocks.specs.Scalars.{scalar_value}
use Rattle.au_translate.specs.Translate.{high_at}
use Rattle.au_translate.proofs.Ends.{next_greatest}
use Rattle.au_translate.proofs.bounds.greatest.Goals as goal

pub loop-place-preserved : goal.loop-place-preserved
loop-place-preserved c =
    let a = c.get-in-loop-place.result in
    let best = scalar_value c.loop-place.greatest in
    let found = c.greater-greatest.ensures ∙ ap (greater best) c.high.ensures in
    next_greatest (high_at c.args.at) c.args.alternatives.now c.loop-place.place a c.get-in-loop-place.ensures best (scalar_value c.greater-greatest.result) _ found c.loop-place.invariant
