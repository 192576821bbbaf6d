-- All rows pass.
use Rattle.au_plain.specs.PTerms.{pterm}
use Rattle.au_vector.proofs.RowWise.{all_pass}
use Rattle.au_vector.proofs.steps.passed.Goals as goal

pub returns-then-is_true : goal.returns-then-is_true
returns-then-is_true c = all_pass (pterm c.args.tree.now) c.args.rows (c.is_true.ensures c.if-is_true.true)
