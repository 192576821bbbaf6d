use Rattle.std.proofs.Common.{◌≡◌, ◌++◌, drop}
use Rattle.au_blocks.specs.Columns.{all_cells}
use Rattle.au_blocks.proofs.rows.all_filled.Given as goal

-- the columns so far stand before those that are left
abbrev pub invariant-loop-at : goal.invariant-loop-at
invariant-loop-at l = l.columns.items ++ all_cells l.format l.records (drop l.at-index l.places) ≡ all_cells l.format l.records l.places
