-- The column is one that the batch has.
use Rattle.std.proofs.Common.{◌-◌}
use Rattle.std.proofs.lemmas.Result.{IfOk-weaker}
use Rattle.au_batches.proofs.SharedColumns.{shared_column}
use Rattle.au_batches.proofs.coded_blocks.put.Goals as goal

pub returns-then-stands_at : goal.returns-then-stands_at
returns-then-stands_at c =
    IfOk-weaker c.with_copy.result _ _ (λ made is. shared_column c.args.batch made (c.args.number - 1) c.args.column (c.stands_at.ensures c.if-stands_at.true) is) c.with_copy.ensures
