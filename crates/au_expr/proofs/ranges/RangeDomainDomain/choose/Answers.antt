-- A choice keeps what its ranges stand for.
use Rattle.au_expr.proofs.Kept.{ranges_kept}
use Rattle.au_expr.proofs.ranges.RangeDomainDomain.choose.Goals as goal

pub returns-else-not-c-clause-keeps : goal.returns-else-not-c-clause-keeps
returns-else-not-c-clause-keeps c = λ w k t u v. (ranges_kept w).choose k _ _ _ t u v
