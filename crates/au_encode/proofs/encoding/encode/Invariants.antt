-- The rows so far, with those that are left, are those of the relation, and their numbers lie in the range.
use Rattle.std.proofs.Common.{◌≡◌, ◌++◌, drop, map}
use Rattle.au_plain.specs.PlanKinds.{FitRows}
use Rattle.au_algebra.specs.Entries.{entry}
use Rattle.au_encode.specs.Encode.{encode as encoded}
use Rattle.au_encode.proofs.encoding.encode.Given as goal

abbrev pub invariant-loop-cells : goal.invariant-loop-cells
invariant-loop-cells l = record {
  rows : map (λ row. row.items) l.rows.items ++ encoded (map (λ row. entry row.0.items row.1) (drop l.cells-index l.cells-items)) ≡ encoded l.rel;
  fit : FitRows (map (λ row. row.items) l.rows.items);
}
