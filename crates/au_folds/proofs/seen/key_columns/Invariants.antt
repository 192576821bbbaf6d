-- The columns so far, with those of the places that are left.
use Rattle.std.proofs.Common.{◌≡◌, ◌++◌, drop, map}
use Rattle.au_codes.specs.CellMeaning.{cell_in}
use Rattle.au_folds.specs.Keyed.{lists}
use Rattle.au_folds.proofs.seen.key_columns.Given as goal

abbrev pub invariant-loop-place : goal.invariant-loop-place
invariant-loop-place l =
    lists l.columns.items ++ map (λ place. map (λ row. cell_in row place) l.rows) (drop l.place-index l.places)
    ≡ map (λ place. map (λ row. cell_in row place) l.rows) l.places
