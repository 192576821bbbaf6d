-- The kinds so far, with those of the columns that are left, are those of all columns.
use Rattle.std.proofs.Common.{◌≡◌, ◌++◌, drop, map}
use Rattle.au_value.specs.Order.{data_kind}
use Rattle.au_engine.proofs.answers.guess_rows.data_kinds.Given as goal

abbrev pub invariant-loop-column : goal.invariant-loop-column
invariant-loop-column l = l.kinds.items ++ map (λ c. data_kind c.kind) (drop l.column-index l.columns) ≡ map (λ c. data_kind c.kind) l.columns
