-- The rows so far are the fronts of the keys.
use Rattle.std.proofs.Common.{◌≡◌, map, take}
use Rattle.au_folds.specs.Keyed.{lists}
use Rattle.au_folds.proofs.results.list_rows.Given as goal

abbrev pub invariant-loop-place : goal.invariant-loop-place
invariant-loop-place l = l.rows ≡ map (take l.place) (lists l.keys)
