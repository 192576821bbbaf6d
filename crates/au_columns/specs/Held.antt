-- The numbers of a column, whichever width they are held in.
use Rattle.std.specs.Prelude.{List, ℤ}
use Rattle.au_columns.specs.declared.column.Numbers.{Numbers}
use Rattle.au_columns.specs.declared.column.Numbers.TheVariants.{Narrow, Wide}

abbrev pub held_numbers : Numbers → List ℤ
held_numbers (Narrow numbers) = numbers.items
held_numbers (Wide numbers) = numbers.items
