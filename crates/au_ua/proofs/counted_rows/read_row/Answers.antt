-- Each number is read.
use Rattle.au_ua.proofs.CountedFits.{row_fit}
use Rattle.au_ua.proofs.counted_rows.read_row.Goals as goal

pub returns : goal.returns
returns c = row_fit c.args.alternative.now.cells c.args.pair c.read_cells.ensures c.certain-certain.ensures.fits c.guess-guess.ensures.fits
