-- The closure answers by the order of the rows.
use Rattle.std.specs.Ordering.{is_lt}
use Rattle.std.proofs.Common.{rules, [], get_or}
use Rattle.std.proofs.lemmas.Fn.{always_returns_same}
use Rattle.au_settled.specs.Places.{cells_order}
use Rattle.au_settled.proofs.order.rise.Goals as goal

pub returns : goal.returns
returns c =
    c.is_sorted_by.ensures.cases (λ a b. is_lt (cells_order c.args.keys.now (get_or c.args.rows.now a []) (get_or c.args.rows.now b [])))
    (always_returns_same _ _ _ (λ a r f k. search rules))
