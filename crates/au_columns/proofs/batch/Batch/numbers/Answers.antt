-- What the column of a place has are the cells of the rows.
use Rattle.std.proofs.Common.{◌∙◌}
use Rattle.au_plain.specs.PTerms as term
use Rattle.au_columns.specs.Operands.{seen}
use Rattle.au_columns.proofs.Values.{evaluated}
use Rattle.au_columns.proofs.batch.Batch.numbers.Goals as goal

pub returns : goal.returns
returns c =
    let column = evaluated (term.Column c.args.place) c.args.self.now (seen c.in_ok-found.found) c.in_ok-found.ensures in
    c.in_ok-numbers.ensures ∙ c.column.ensures ∙ column.values
