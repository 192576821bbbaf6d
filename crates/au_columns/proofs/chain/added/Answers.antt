-- The values beside the rows.
use Rattle.std.proofs.Common.{ap, length, ◌∙◌}
use Rattle.std.proofs.lemmas.List.{length-map}
use Rattle.au_plain.specs.PTerms.{pterm}
use Rattle.au_codes.specs.CellMeaning.{cell_value}
use Rattle.au_columns.specs.Batches.{beside}
use Rattle.au_columns.proofs.Rows.{beside_extended}
use Rattle.au_columns.proofs.chain.added.Goals as goal

pub with_column-requires : goal.with_column-requires
with_column-requires c = ap length c.in-Ok.ensures.values ∙ length-map c.args.rows (cell_value (pterm c.args.tree.now))

pub returns-in-Ok-with_column : goal.returns-in-Ok-with_column
returns-in-Ok-with_column c =
    (c.in-Ok-with_column.ensures ∙ ap (beside c.args.rows) c.in-Ok.ensures.values ∙ beside_extended (pterm c.args.tree.now) c.args.rows, c.in-Ok.ensures.fits)
