-- The numbers of a column fit.
use Rattle.au_plain.specs.PTerms as term
use Rattle.au_columns.specs.Operands.{seen}
use Rattle.au_columns.proofs.Values.{evaluated}
use Rattle.au_columns.proofs.chain.read.Goals as goal

pub returns : goal.returns
returns c =
    let given = evaluated (term.Column c.args.place) c.args.rows.now (seen c.in_ok-_column._column) c.in_ok-_column.ensures in
    given.fits
