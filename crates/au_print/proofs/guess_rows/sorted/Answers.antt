-- The closure answers by the order of values, which is total.
use Rattle.std.proofs.Common.{◌≡◌, map, subst, rules}
use Rattle.std.specs.Ordering.{is_lt}
use Rattle.std.specs.Cmp.Lexicographic.{slice_cmp}
use Rattle.std.specs.List.Sorted.{IsPermutation}
use Rattle.std.proofs.lemmas.Cmp.{lists_total}
use Rattle.std.proofs.lemmas.Fn.{always_returns_same}
use Rattle.std.proofs.lemmas.List.Sorted.{ranks_by, IsPermutation-map}
use Rattle.au_value.specs.Order.{order}
use Rattle.au_value.proofs.OrderLaws.{order_total}
use Rattle.au_algebra.specs.Counted.{occurring}
use Rattle.au_print.specs.Places.{values_at, row_at}
use Rattle.au_print.proofs.guess_rows.sorted.Goals as goal

pub returns-clause-sorted : goal.returns-clause-sorted
returns-clause-sorted c =
    let rows = c.args.rows.now in
    c.in_ok-sort_by.ensures.sorted (λ a b. is_lt (slice_cmp order (values_at rows a.0) (values_at rows b.0))) (ranks_by (lists_total order_total) (λ a. values_at rows a.0))
    (always_returns_same _ _ _ (λ a r f k. search rules))

pub returns-clause-permutation : goal.returns-clause-permutation
returns-clause-permutation c =
    let rows = c.args.rows.now in
    let found = subst (λ rs. map (row_at rs) c.in_ok-found.found.items ≡ occurring rs) c.rows.ensures c.in_ok-found.ensures in
    subst (λ xs. IsPermutation xs (map (row_at rows) c.sort_by.new.self.items)) found
    (IsPermutation-map (row_at rows) c.in_ok-found.found.items c.sort_by.new.self.items c.in_ok-sort_by.ensures.permutation)
