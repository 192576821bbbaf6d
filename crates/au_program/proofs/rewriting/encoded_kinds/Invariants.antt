-- The kinds so far, with those of the columns that are left, are those of all columns.
use Rattle.std.proofs.Common.{◌≡◌, ◌++◌, drop, map}
use Rattle.au_value.specs.Order.{data_kind}
use Rattle.au_encode.specs.Encode.{triple_kinds}
use Rattle.au_program.proofs.rewriting.encoded_kinds.Given as goal

abbrev pub invariant-loop-column : goal.invariant-loop-column
invariant-loop-column l = l.kinds.items ++ triple_kinds (map (λ c. data_kind c.kind) (drop l.column-index l.columns)) ≡ triple_kinds (map (λ c. data_kind c.kind) l.columns)
