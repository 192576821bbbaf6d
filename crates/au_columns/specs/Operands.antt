-- The numbers of an operand: a column that a batch lends, or one that was made.
use Rattle.std.specs.Prelude.{List, ℤ}
use Rattle.au_columns.specs.declared.operand.Operand.{Operand}
use Rattle.au_columns.specs.declared.operand.Operand.TheVariants.{Lent, Made}

abbrev pub seen : Operand → List ℤ
seen (Lent column) = column.now
seen (Made column) = column
