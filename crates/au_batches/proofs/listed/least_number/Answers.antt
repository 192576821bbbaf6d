-- One more goes into the least so far.
use Rattle.std.proofs.Common.{◌<◌, arith, length}
use Rattle.au_value.specs.declared.value.Value.TheVariants.{Int}
use Rattle.au_batches.proofs.ListEnds.{more_least}
use Rattle.au_batches.proofs.listed.least_number.Goals as goal

pub loop-place-preserved : goal.loop-place-preserved
loop-place-preserved c =
    let within : c.loop-place.place < length c.args.numbers.now = grind (arith, c.loop-place-test.true) in
    more_least (λ x. Int x) c.args.numbers.now c.loop-place.place _ within (Int c.loop-place.least.now) (Int c.lesser_number-least.result.now) _ c.lesser_number-least.ensures c.loop-place.invariant
