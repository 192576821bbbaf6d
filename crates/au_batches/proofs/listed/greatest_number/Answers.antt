-- One more goes into the greatest so far.
use Rattle.std.proofs.Common.{◌<◌, arith, length}
use Rattle.au_value.specs.declared.value.Value.TheVariants.{Int}
use Rattle.au_batches.proofs.ListEnds.{more_greatest}
use Rattle.au_batches.proofs.listed.greatest_number.Goals as goal

pub loop-place-preserved : goal.loop-place-preserved
loop-place-preserved c =
    let within : c.loop-place.place < length c.args.numbers.now = grind (arith, c.loop-place-test.true) in
    more_greatest (λ x. Int x) c.args.numbers.now c.loop-place.place _ within (Int c.loop-place.greatest.now) (Int c.greater_number-greatest.result.now) _ c.greater_number-greatest.ensures c.loop-place.invariant
