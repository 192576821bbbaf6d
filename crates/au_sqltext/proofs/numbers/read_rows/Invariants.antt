-- The rows that are left tell of all.
use Rattle.std.proofs.Common.{◌≡◌, drop, map}
use Rattle.std.specs.List.{list_all}
use Rattle.au_plain.specs.PlanKinds.{row_fits}
use Rattle.au_sqltext.proofs.numbers.read_rows.Given as goal

abbrev pub invariant-loop-row : goal.invariant-loop-row
invariant-loop-row l = list_all row_fits (map (λ row. row.items) (drop l.row-index l.rows)) ≡ list_all row_fits (map (λ row. row.items) l.rows)
