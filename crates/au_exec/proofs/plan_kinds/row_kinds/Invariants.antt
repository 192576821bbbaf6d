-- The kinds so far, with those of the values that are left, are those of the row.
use Rattle.std.proofs.Common.{◌≡◌, ◌++◌, drop, map}
use Rattle.au_value.specs.Order.{kind_of}
use Rattle.au_exec.proofs.plan_kinds.row_kinds.Given as goal

abbrev pub invariant-loop-value : goal.invariant-loop-value
invariant-loop-value l = l.kinds.items ++ map kind_of (drop l.value-index l.row) ≡ map kind_of l.row
