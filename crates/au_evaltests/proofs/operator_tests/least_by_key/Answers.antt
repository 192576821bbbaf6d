-- The aggregates are those of a column of numbers.
use Rattle.std.proofs.Common.{[], ◌∷◌, refl}
use Rattle.au_value.specs.declared.kinds.Kind.TheVariants.{Int}
use Rattle.au_evaltests.proofs.operator_tests.least_by_key.Goals as goal

pub group-requires : goal.group-requires
group-requires c = (Int ∷ Int ∷ [], c.requires, record { made = Int ∷ []; typed = refl })
