-- What is kept, and the table, as they are held.
use Rattle.std.specs.Prelude.{List, map}
use Rattle.au_folds.specs.declared.fold.Fold.{Fold}
use Rattle.au_folds.specs.declared.fold.Fold.TheVariants.{Sum, Least, Greatest}
use Rattle.au_folds.specs.declared.seen.Seen.{Seen}
use Rattle.au_folds.specs.Kept.{Kept, Sums, Lowest, Highest}
use Rattle.au_folds.specs.Keyed.{key_cells, key_places}
use Rattle.au_folds.specs.Tables.{Table, table_with}

abbrev pub kept_in : Fold → Kept
kept_in (Sum c sums) = Sums c sums.items
kept_in (Least c bests) = Lowest c bests.items
kept_in (Greatest c bests) = Highest c bests.items

abbrev pub kept_in_all : List Fold → List Kept
kept_in_all folds = map kept_in folds

abbrev pub held_table : Seen → List Fold → Table
held_table seen folds = table_with (key_places seen) (key_cells seen) (kept_in_all folds)
