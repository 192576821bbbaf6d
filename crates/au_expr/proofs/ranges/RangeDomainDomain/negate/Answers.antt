-- The numbers of the range are those of the operator.
use Rattle.au_expr.proofs.Kept.{ranges_kept, negate_range}
use Rattle.std.proofs.Common.{sym, ◌∙◌, subst}
use Rattle.au_value.specs.Ranges.{IsRange, IsRangeOf}
use Rattle.au_value.specs.declared.kinds.Kind.TheVariants.{Int}
use Rattle.au_expr.specs.OnRanges as on_ranges
use Rattle.au_expr.proofs.ranges.RangeDomainDomain.negate.Goals as goal

pub returns-in_err-e-clause-keeps : goal.returns-in_err-e-clause-keeps
returns-in_err-e-clause-keeps c = λ w. (ranges_kept w).negate _

pub returns-clause-keeps : goal.returns-clause-keeps
returns-clause-keeps c = λ w. (ranges_kept w).negate _

pub whole-requires : goal.whole-requires
whole-requires c = subst (λ r. IsRange r) (sym (c.in_ok-e.ensures.1 ∙ (λ i. on_ranges.negate (c.numbers-x.ensures i)))) (negate_range _ c.requires).range

pub returns-clause-kind : goal.returns-clause-kind
returns-clause-kind c = subst (λ r. IsRangeOf Int r) (sym (c.whole.ensures ∙ (c.in_ok-e.ensures.1 ∙ (λ i. on_ranges.negate (c.numbers-x.ensures i))))) (negate_range _ c.requires)
