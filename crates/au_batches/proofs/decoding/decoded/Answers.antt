-- Each row is an encoded one.
use Rattle.std.proofs.Common.{◌<◌, arith, length, subst, sym}
use Rattle.au_codes.specs.Decoding.{decoded_row}
use Rattle.au_encode.specs.Encode.{IsEncoded}
use Rattle.au_batches.proofs.DecodedCells.{row_encoded}
use Rattle.au_batches.proofs.decoding.decoded.Goals as goal

pub decoded_entry-requires-clause-encoded : goal.decoded_entry-requires-clause-encoded
decoded_entry-requires-clause-encoded c =
    let rows = c.args.batch.now in
    let below : c.loop-place.place < length rows = grind (arith, c.loop-place-test.true, c.len-place-end.ensures) in
    subst (IsEncoded c.args.columns) (sym c.of-row.ensures.is) (row_encoded c.args.columns (decoded_row c.args.book.now c.args.kinds.now) rows c.loop-place.place c.requires below)
