-- A lent value.
use Rattle.au_value.specs.declared.value.Value.{Value}
use Rattle.au_value.specs.declared.value.Value.TheVariants as value
use Rattle.au_blocks.specs.declared.scalar.Scalar.{Scalar}
use Rattle.au_blocks.specs.declared.scalar.Scalar.TheVariants as scalar

abbrev pub scalar_value : Scalar → Value
scalar_value (scalar.Int n) = value.Int n
scalar_value (scalar.Text w) = value.Text w.now
scalar_value (scalar.Flag b) = value.Flag b
