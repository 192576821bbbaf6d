-- The least or the greatest of two values, by which of them is sought.
use Rattle.au_value.specs.declared.value.Value.{Value}
use Rattle.au_value.specs.declared.extreme.Extreme.{Extreme}
use Rattle.au_value.specs.declared.extreme.Extreme.TheVariants.{Least, Greatest}
use Rattle.au_value.specs.Ranges.{lesser, greater}

-- the lesser, or the greater, of two values
abbrev pub preferred : Extreme → Value → Value → Value
preferred Least a b = lesser a b
preferred Greatest a b = greater a b
