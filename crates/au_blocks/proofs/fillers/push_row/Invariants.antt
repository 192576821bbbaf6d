use Rattle.std.proofs.Common.{◌≡◌, ◌++◌, drop, map, take}
use Rattle.au_blocks.specs.OnePass.{are_values, with_row}
use Rattle.au_blocks.proofs.fillers.push_row.Given as goal

-- the columns so far stand before those that are left with their cells, which are values if all of the record are
abbrev pub invariant-loop-place : goal.invariant-loop-place
invariant-loop-place l = record {
  cells : take l.place l.columns ++ with_row l.format l.record l.place (drop l.place l.columns) ≡ with_row l.format l.record 0 l.fn.columns;
  values : are_values l.format l.record l.place (map (λ c. c.kind) (drop l.place l.columns)) ≡ are_values l.format l.record 0 (map (λ c. c.kind) l.fn.columns);
}
