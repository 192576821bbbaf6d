-- The careful value is the value.
use Rattle.au_plain.specs.PTerms.{pterm}
use Rattle.au_columns.specs.Operands.{seen}
use Rattle.au_columns.proofs.Values.{evaluated, refused}
use Rattle.au_columns.proofs.evaluation.operand.Goals as goal

pub returns-in-Ok : goal.returns-in-Ok
returns-in-Ok c = evaluated (pterm c.args.tree.now) c.args.batch.now (seen c.in-Ok.found) c.in-Ok.ensures

pub returns-in-Ok-by_rows : goal.returns-in-Ok-by_rows
returns-in-Ok-by_rows c = evaluated (pterm c.args.tree.now) c.args.batch.now c.in-Ok-by_rows.column c.in-Ok-by_rows.ensures

pub returns-in-Err : goal.returns-in-Err
returns-in-Err c = λ e. refused (pterm c.args.tree.now) c.args.batch.now (c.in-Err.ensures e)
