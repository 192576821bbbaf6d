-- Each place is one of a row, which has counts.
use Rattle.std.proofs.Common.{get_or}
use Rattle.au_settled.proofs.Spans.{counts_in}
use Rattle.au_settled.proofs.counts.read.Goals as goal

pub placed-read-requires-clause-counts : goal.placed-read-requires-clause-counts
placed-read-requires-clause-counts c =
    let place = get_or c.args.places.now c.loop-place.place-index 0 in
    counts_in c.args.columns c.args.rows.now place c.requires.counts (c.requires.below c.loop-place.place-index c.loop-place-test.true)
