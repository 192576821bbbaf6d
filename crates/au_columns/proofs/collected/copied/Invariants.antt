use Rattle.std.proofs.Common.{◌≡◌, map, take}
use Rattle.au_columns.proofs.collected.copied.Given as goal

abbrev pub invariant-loop-column : goal.invariant-loop-column
invariant-loop-column l = l.made.items ≡ map (λ c. c.value) (take l.column-index l.columns)
