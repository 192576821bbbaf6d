-- There are no more values than kinds.
use Rattle.std.proofs.Common.{[], arith, get_or}
use Rattle.au_batches.proofs.DecodedCells.{fewer}
use Rattle.au_batches.proofs.coded_row.CodedRow.of.Goals as goal

pub returns-clause-few : goal.returns-clause-few
returns-clause-few c =
    let kinds = fewer c.args.book.now c.args.kinds.now (get_or c.args.batch.now c.args.place []) in
    omega (arith, kinds, c.number_of-most.ensures, c.number_of-most.type_inv)
