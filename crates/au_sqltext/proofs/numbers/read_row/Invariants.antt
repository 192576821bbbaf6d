-- The values that are left tell of all.
use Rattle.std.proofs.Common.{◌≡◌, drop}
use Rattle.au_plain.specs.PlanKinds.{row_fits}
use Rattle.au_sqltext.proofs.numbers.read_row.Given as goal

abbrev pub invariant-loop-value : goal.invariant-loop-value
invariant-loop-value l = row_fits (drop l.value-index l.row) ≡ row_fits l.row
