-- Counts as columns behind rows.
use Rattle.std.specs.Prelude.{ℕ, List, map, ℤ, pos}
use Rattle.au_annot.specs.Triples.{Counts}
use Rattle.au_codes.specs.Codes.{CellRows}
use Rattle.au_columns.specs.Batches.{beside}
use Rattle.au_settled.specs.declared.gathering.Part.{Part}
use Rattle.au_settled.specs.declared.gathering.Part.TheVariants.{Least, Guess, Most}

-- one count of a triple
abbrev pub part_in : Part → Counts → ℤ
part_in Least t = pos t.least
part_in Guess t = pos t.guess
part_in Most t = pos t.most

-- one count of each row
abbrev pub parts_of : Part → List (ℕ × Counts) → List ℤ
parts_of part runs = map (λ (r : ℕ × Counts). part_in part r.1) runs

-- rows with the counts of a list behind them
abbrev pub counted : CellRows → List (ℕ × Counts) → CellRows
counted rows runs = beside (beside (beside rows (parts_of Least runs)) (parts_of Guess runs)) (parts_of Most runs)
