-- The closure answers by the order of the ranges, which is total.
use Rattle.std.specs.Ordering.{is_lt}
use Rattle.std.proofs.Common.{rules}
use Rattle.std.proofs.lemmas.List.Sorted.{ranks_by, answers_always}
use Rattle.au_algebra.specs.Bounded.{ranges_order}
use Rattle.au_algebra.proofs.RangesOrder.{ranges_total}
use Rattle.au_algebra.proofs.normal_form.sorted.Goals as goal

pub returns-clause-sorted : goal.returns-clause-sorted
returns-clause-sorted c =
    c.in_ok-sort_by.ensures.sorted (λ a b. is_lt (ranges_order a.0.items b.0.items)) (ranks_by ranges_total (λ a. a.0.items))
    (answers_always _ _ _ (λ f a r f' k. search rules))
