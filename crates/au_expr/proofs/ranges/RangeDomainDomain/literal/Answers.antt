-- A literal stands for its value.
use Rattle.au_expr.proofs.Kept.{ranges_kept}
use Rattle.au_expr.proofs.ranges.RangeDomainDomain.literal.Goals as goal

pub returns-clause-keeps : goal.returns-clause-keeps
returns-clause-keeps c = λ w. (ranges_kept w).literal _
