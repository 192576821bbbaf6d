-- The sums over all rows are possible, and ranges.
use Rattle.std.specs.Prelude.{◌≡◌, true, List, [], ◌∷◌, map}
use Rattle.std.specs.List.{AllByRecursion, AllZip, list_all}
use Rattle.std.proofs.Common.{refl, sym}
use Rattle.std.proofs.lemmas.Bool.{true≢false}
use Rattle.au_value.specs.declared.kinds.Kind.{Kind}
use Rattle.au_value.specs.Ranges.{Span, IsRange, IsRangeOf}
use Rattle.au_algebra.specs.declared.query.Agg.{Agg}
use Rattle.au_algebra.specs.declared.query.Agg.TheVariants.{Sum, Min, Max}
use Rattle.au_algebra.specs.Bounded.{Bounded, Grouped, aggregate, all_rows}
use Rattle.au_algebra.specs.Fits.{agg_numbers}
use Rattle.au_algebra.specs.Laws.{IsRelation}
use Rattle.au_algebra.specs.Typing.{is_sum}
use Rattle.au_algebra.proofs.GroupRelation.{total_relation}
use Rattle.au_kfull.specs.declared.keys.Keys.TheVariants.{Leading}
use Rattle.au_kfull.specs.Groups.{gathered}
use Rattle.au_kfull.specs.Outputs.{CanAggregate, CanTotal}

-- all rows, as they are gathered
abbrev pub everything : Bounded → Grouped
everything rows = gathered (Leading 0) true true rows rows

all_ranges : (ks : List Kind) (cells : List Span) → AllZip IsRangeOf ks cells → AllByRecursion IsRange cells
all_ranges [] [] z = tt
all_ranges [] (r ∷ rs) z = elim z [ ]
all_ranges (k ∷ ks) [] z = elim z [ ]
all_ranges (k ∷ ks) (r ∷ rs) z = (z.0.range, all_ranges ks rs z.1)

can_sum : (rows : Bounded) (aggs : List Agg) → list_all is_sum aggs ≡ true → AllByRecursion IsRange (map (aggregate (all_rows rows)) aggs) → AllByRecursion (CanAggregate (everything rows)) aggs
can_sum rows [] h p = tt
can_sum rows (Sum c ∷ aggs) h p = (record { possible = tt; ordered = p.0 }, can_sum rows aggs h p.1)
can_sum rows (Min c ∷ aggs) h p = absurd (true≢false (sym h))
can_sum rows (Max c ∷ aggs) h p = absurd (true≢false (sym h))

-- the sums can be made
pub all_can_sum : (ks : List Kind) (rows : Bounded) (aggs : List Agg) → IsRelation ks rows → CanTotal ks aggs → AllByRecursion (CanAggregate (everything rows)) aggs
all_can_sum ks rows aggs ok can =
    can_sum rows aggs can.sums (all_ranges can.made (map (aggregate (all_rows rows)) aggs) (total_relation ks can.made aggs rows can.sums can.typed ok).0.cells)

-- their ranges are those over all rows
pub all_aggregate : (rows : Bounded) (agg : Agg) → aggregate (everything rows) agg ≡ aggregate (all_rows rows) agg
all_aggregate rows (Sum c) = refl
all_aggregate rows (Min c) = refl
all_aggregate rows (Max c) = refl

-- and so are their numbers
pub all_numbers : (rows : Bounded) (agg : Agg) → agg_numbers (everything rows) agg ≡ agg_numbers (all_rows rows) agg
all_numbers rows (Sum c) = refl
all_numbers rows (Min c) = refl
all_numbers rows (Max c) = refl
