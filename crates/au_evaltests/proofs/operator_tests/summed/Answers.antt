-- The aggregate is one of a column of numbers.
use Rattle.std.proofs.Common.{[], ◌∷◌, refl}
use Rattle.au_value.specs.declared.kinds.Kind.TheVariants.{Int}
use Rattle.au_evaltests.proofs.operator_tests.summed.Goals as goal

pub total-requires : goal.total-requires
total-requires c = (Int ∷ [], c.requires, record { made = Int ∷ []; typed = refl; sums = refl })
