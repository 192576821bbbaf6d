-- One range more.
use Rattle.std.proofs.Common.{◌<◌, ◌*◌, arith, length, refl}
use Rattle.au_encode.specs.Encode.{decode_cells}
use Rattle.au_batches.proofs.EncodedPlaces.{all_ranges, length-ranges, next_range, range_from}
use Rattle.au_batches.proofs.coded_row.CodedRow.ranges.Goals as goal

pub range-requires-clause-within : goal.range-requires-clause-within
range-requires-clause-within c = (range_from c.args.columns c.args.self.now c.loop-at.at (3 * c.loop-at.at) c.requires.encoded (grind (arith, c.loop-at-test.true)) refl).within

pub range-requires-clause-ordered : goal.range-requires-clause-ordered
range-requires-clause-ordered c = (range_from c.args.columns c.args.self.now c.loop-at.at (3 * c.loop-at.at) c.requires.encoded (grind (arith, c.loop-at-test.true)) refl).ordered

pub loop-at-preserved : goal.loop-at-preserved
loop-at-preserved c =
    let n = c.args.columns in
    let vs = c.args.self.now in
    let i = c.loop-at.at in
    let below : i < n = grind (arith, c.loop-at-test.true) in
    let at = range_from n vs i (3 * i) c.requires.encoded below refl in
    let many = length-ranges n vs c.requires.encoded in
    let within : i < length (decode_cells n vs) = omega (arith, many, below) in
    next_range (decode_cells n vs) c.loop-at.ranges.items _ i _ _ within at.here c.in_ok-range.ensures c.in_ok-push.ensures.items c.loop-at.invariant

pub returns : goal.returns
returns c =
    let n = c.args.columns in
    let vs = c.args.self.now in
    let many = length-ranges n vs c.requires.encoded in
    all_ranges (decode_cells n vs) c.loop-at.ranges.items c.loop-at.at (grind (arith, many, c.loop-at-test.false)) c.loop-at.invariant
