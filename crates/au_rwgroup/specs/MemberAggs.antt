-- The aggregates over the four columns of an aggregate's members.
use Rattle.std.specs.Prelude.{ℕ, ◌+◌, List, [], ◌∷◌}
use Rattle.au_algebra.specs.declared.query.Agg.{Agg}
use Rattle.au_algebra.specs.declared.query.Agg.TheVariants as agg
use Rattle.au_plain.specs.declared.plan.PAgg.{PAgg}
use Rattle.au_plain.specs.declared.plan.PAgg.TheVariants.{Sum, Min, Max}

-- from a place on
abbrev pub member_aggs : ℕ → Agg → List PAgg
member_aggs n (agg.Sum c) = Sum n ∷ Sum (n + 1) ∷ Sum (n + 2) ∷ Sum (n + 3) ∷ []
member_aggs n (agg.Min c) = Min n ∷ Min (n + 1) ∷ Min (n + 2) ∷ Max (n + 3) ∷ []
member_aggs n (agg.Max c) = Max n ∷ Max (n + 1) ∷ Max (n + 2) ∷ Min (n + 3) ∷ []
