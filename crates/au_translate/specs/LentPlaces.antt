-- A value that is lent, if there is one.
use Rattle.std.specs.Prelude.{List, [], ◌∷◌, Option, Some, None}
use Rattle.au_value.specs.declared.value.Value.{Value}
use Rattle.au_blocks.specs.declared.scalar.Scalar.{Scalar}
use Rattle.au_blocks.specs.Scalars.{scalar_value}

abbrev pub lent_values : Option Scalar → List Value
lent_values None = []
lent_values (Some lent) = scalar_value lent ∷ []
