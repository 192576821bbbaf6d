-- The closure answers by the order of values, which is total.
use Rattle.std.proofs.Common.{rules}
use Rattle.std.proofs.lemmas.Fn.{always_returns_same}
use Rattle.au_engine.proofs.OrderedRows.{before, row_ranks, sorted_rows}
use Rattle.au_engine.proofs.answers.ordered.ordered.Goals as goal

pub returns : goal.returns
returns c =
    sorted_rows c.args.rows.items c.sort_by.new.self.items
    (c.in_ok-sort_by.ensures.sorted (λ a b. before a.items b.items) row_ranks (always_returns_same _ _ _ (λ a r f k. search rules)))
    (c.sort_by.ensures.stable (λ a b. before a.items b.items) row_ranks (always_returns_same _ _ _ (λ a r f k. search rules)))
    c.sort_by.ensures.permutation
