-- The ranges are so many, and the triple is one of a row that may be there.
use Rattle.au_value.specs.declared.kinds.Kind.TheVariants.{Int}
use Rattle.au_algebra.specs.Entries.{entry}
use Rattle.au_evaltests.proofs.Columns.{row_is}
use Rattle.au_evaltests.proofs.relations.row.Goals as goal

pub returns : goal.returns
returns g c =
    row_is Int c.args.columns (entry c.in_ok-cells.cells.items c.triple.result) c.in_ok-cells.ensures (search) c.triple.ensures.ordered c.triple.ensures.present
