-- A comparison of ranges is a range of flags, and keeps what they stand for.
use Rattle.au_expr.proofs.Kept.{ranges_kept, compare_range, three_way_from}
use Rattle.au_expr.proofs.ranges.RangeDomainDomain.compare.Goals as goal

pub flags-requires : goal.flags-requires
flags-requires c = three_way_from _ _ c.compared.ensures (compare_range _ _ c.args.how c.requires.0 c.requires.1 c.requires.2)

pub returns-clause-keeps : goal.returns-clause-keeps
returns-clause-keeps c = λ w k u v. (ranges_kept w).compare c.args.how k _ _ u v
