-- Whether each of the cells that are left has one value alone tells whether each has.
use Rattle.std.proofs.Common.{◌≡◌, drop}
use Rattle.au_value.specs.Ranges.{all_certain}
use Rattle.au_ua.proofs.tables.all_certain.Given as goal

abbrev pub invariant-loop-column : goal.invariant-loop-column
invariant-loop-column l = all_certain (drop l.column l.alternative.cells) ≡ all_certain l.alternative.cells
