-- What is gathered has the aggregates of the output.
use Rattle.std.specs.Prelude.{◌≡◌, ℕ, List, [], ◌∷◌}
use Rattle.std.specs.List.{AllByRecursion}
use Rattle.std.proofs.Common.{refl, sym, ◌∙◌, ap, subst}
use Rattle.au_value.specs.Ranges.{Span, IsRange, all_certain}
use Rattle.au_algebra.specs.declared.query.Agg.{Agg}
use Rattle.au_algebra.specs.declared.query.Agg.TheVariants.{Sum, Min, Max}
use Rattle.au_algebra.specs.Bounded.{Bounded, Grouped, aggregate}
use Rattle.au_algebra.specs.Fits.{agg_numbers}
use Rattle.au_kfull.specs.declared.grouping.Grouping.{Grouping}
use Rattle.au_kfull.specs.declared.keys.Keys.{Keys}
use Rattle.au_kfull.specs.Extremes.{HasExtremes, IsPossible}
use Rattle.au_kfull.specs.Groups.{gathered, grouped_with, seen, IsGrouping}
use Rattle.au_kfull.specs.Outputs.{CanAggregate}

module _ (k : Keys) (rows belonging : Bounded) (box : List Span) (group : Grouping) (h : IsGrouping k rows belonging box group) where
  abbrev out : Grouped
  out = grouped_with k rows belonging

  abbrev again : Grouped
  again = gathered k (all_certain out.box) out.is_guessed out.belonging out.members

  seen_is : seen group ≡ again
  seen_is = λ i. gathered (h.keys_are i) (h.certain_is i) (h.guessed_is i) (h.belonging_are i) (h.members_are i)

  same_aggregate : (agg : Agg) → aggregate again agg ≡ aggregate out agg
  same_aggregate (Sum c) = refl
  same_aggregate (Min c) = refl
  same_aggregate (Max c) = refl

  same_numbers : (agg : Agg) → agg_numbers again agg ≡ agg_numbers out agg
  same_numbers (Sum c) = refl
  same_numbers (Min c) = refl
  same_numbers (Max c) = refl

  same_extremes : (c : ℕ) → HasExtremes out c → HasExtremes again c
  same_extremes c p = record { some = p.some; guessed = p.guessed; columns = p.columns }

  same_possible : (agg : Agg) → IsPossible out agg → IsPossible again agg
  same_possible (Sum c) p = tt
  same_possible (Min c) p = same_extremes c p
  same_possible (Max c) p = same_extremes c p

  -- the range of an aggregate
  pub seen_aggregate : (agg : Agg) → aggregate (seen group) agg ≡ aggregate out agg
  seen_aggregate agg = ap (λ g. aggregate g agg) seen_is ∙ same_aggregate agg

  -- its numbers
  pub seen_numbers : (agg : Agg) → agg_numbers (seen group) agg ≡ agg_numbers out agg
  seen_numbers agg = ap (λ g. agg_numbers g agg) seen_is ∙ same_numbers agg

  can_one : (agg : Agg) → CanAggregate out agg → CanAggregate (seen group) agg
  can_one agg p = record {
    possible = subst (λ g. IsPossible g agg) (sym seen_is) (same_possible agg p.possible);
    ordered = subst IsRange (sym (seen_aggregate agg)) p.ordered;
  }

  -- and what makes it possible
  pub can_all : (aggs : List Agg) → AllByRecursion (CanAggregate out) aggs → AllByRecursion (CanAggregate (seen group)) aggs
  can_all [] p = tt
  can_all (agg ∷ aggs) p = (can_one agg p.0, can_all aggs p.1)
