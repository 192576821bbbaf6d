-- The closure answers by the order of the rows, which is total.
use Rattle.std.specs.Ordering.{is_lt}
use Rattle.std.specs.Cmp.{int_cmp_total}
use Rattle.std.proofs.Common.{rules, [], get_or}
use Rattle.std.proofs.lemmas.Cmp.{lists_total}
use Rattle.std.proofs.lemmas.Fn.{always_returns_same}
use Rattle.std.proofs.lemmas.List.Sorted.{ranks_by}
use Rattle.au_codes.specs.CellMeaning.{cells_kept}
use Rattle.au_settled.specs.Places.{cells_order}
use Rattle.au_settled.proofs.order.sorted.Goals as goal

pub returns-clause-sorted : goal.returns-clause-sorted
returns-clause-sorted c =
    c.in_ok-sort_by.ensures.sorted (λ a b. is_lt (cells_order c.args.keys.now (get_or c.args.rows.now a []) (get_or c.args.rows.now b [])))
    (ranks_by (lists_total int_cmp_total) (λ p. cells_kept c.args.keys.now (get_or c.args.rows.now p [])))
    (always_returns_same _ _ _ (λ a r f k. search rules))
