-- Expressions over cells have the codes of their values.
use Rattle.std.specs.Prelude.{map}
use Rattle.std.proofs.Common.{refl}
use Rattle.au_value.specs.Order.{kind_of}
use Rattle.au_codes.proofs.Terms.{term_cell}
use Rattle.au_codes.proofs.theorems.cells_keep_values.Goals as goal

pub returns : goal.returns
returns c = λ code keeps e k row typed knows known. (term_cell code keeps (map kind_of row) row refl known e k typed knows).is
