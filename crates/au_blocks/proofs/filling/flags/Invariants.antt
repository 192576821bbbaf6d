use Rattle.std.proofs.Common.{◌≡◌, ◌++◌, drop, map}
use Rattle.au_value.specs.declared.kinds.Kind.TheVariants as kind
use Rattle.au_value.specs.declared.value.Value.TheVariants as value
use Rattle.au_value.specs.Ranges.{certain}
use Rattle.au_blocks.specs.Columns.{column_cells}
use Rattle.au_blocks.proofs.filling.flags.Given as goal

-- the cells so far stand before those of the records that are left
abbrev pub invariant-loop-record : goal.invariant-loop-record
invariant-loop-record l = map (λ b. certain (value.Flag b)) l.flags.items ++ column_cells l.format kind.Flag l.place (drop l.record-index l.records) ≡ column_cells l.format kind.Flag l.place l.records
