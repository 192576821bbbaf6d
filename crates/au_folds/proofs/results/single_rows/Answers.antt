-- Numbers beside empty rows.
use Rattle.std.proofs.Common.{◌∙◌}
use Rattle.au_columns.specs.Batches.{beside}
use Rattle.au_folds.proofs.KeyRows.{singles_are}
use Rattle.au_folds.proofs.results.single_rows.Goals as goal

pub returns : goal.returns
returns c =
    c.in_ok-rows.ensures ∙ (λ i. beside (c.new.ensures i) (c.in_ok-column.ensures i)) ∙ singles_are c.args.keys.now
