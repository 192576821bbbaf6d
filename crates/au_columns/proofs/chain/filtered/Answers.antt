-- The rows beside which the expression's values are true.
use Rattle.std.proofs.Common.{ap, length, ◌∙◌}
use Rattle.std.proofs.lemmas.List.{length-map}
use Rattle.au_plain.specs.PTerms.{pterm}
use Rattle.au_codes.specs.CellMeaning.{cell_value}
use Rattle.au_columns.specs.Batches.{rows_where}
use Rattle.au_columns.proofs.Rows.{where_passes}
use Rattle.au_columns.proofs.chain.filtered.Goals as goal

pub filter-requires : goal.filter-requires
filter-requires c = ap length c.column.ensures ∙ ap length c.in-Ok.ensures.values ∙ length-map c.args.rows.now (cell_value (pterm c.args.tree.now))

pub returns-in-Ok-filter : goal.returns-in-Ok-filter
returns-in-Ok-filter c =
    (c.in-Ok-filter.ensures ∙ ap (λ zs. rows_where zs c.args.rows.now) (c.column.ensures ∙ c.in-Ok.ensures.values) ∙ where_passes (pterm c.args.tree.now) c.args.rows.now, c.in-Ok.ensures.fits)
