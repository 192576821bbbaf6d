-- Typed aggregates are over columns that are there, and have the kinds of these.
use Rattle.std.specs.Prelude.{◌≡◌, ℕ, List, [], ◌∷◌, length, map, Some, slice_get, unwrap_or}
use Rattle.std.specs.List.{AllByRecursion}
use Rattle.std.proofs.Common.{sym, ◌∙◌, ap}
use Rattle.au_value.specs.declared.kinds.Kind.{Kind}
use Rattle.au_value.specs.declared.kinds.Kind.TheVariants.{Int}
use Rattle.au_algebra.specs.declared.query.Agg.{Agg}
use Rattle.au_algebra.specs.declared.query.Agg.TheVariants as agg
use Rattle.au_algebra.specs.Typing.{all_kinds, agg_kind}
use Rattle.au_algebra.proofs.AggregateKinds.{kinds_parts, sum_kind}
use Rattle.au_combine.proofs.BoxPlaces.{at_within}
use Rattle.au_rwexpr.proofs.Places.{At}
use Rattle.au_rwgroup.specs.Totals.{agg_place}
use Rattle.au_rwgroup.proofs.ColumnsThere.{IsOn}

-- the kind of an aggregate: that of its column
abbrev pub kind_on : List Kind → Agg → Kind
kind_on ks (agg.Sum d) = Int
kind_on ks (agg.Min d) = unwrap_or (slice_get ks d) Int
kind_on ks (agg.Max d) = unwrap_or (slice_get ks d) Int

-- an aggregate over a column that is there, of its kind
abbrev pub OnColumn : List Kind → Agg → Type 0
OnColumn ks a = At ks (agg_place a) (kind_on ks a)

-- all are, and these are their kinds
pub record Typed (ks : List Kind) (aggs : List Agg) (es : List Kind) : Type 0 where
  pub on : AllByRecursion (OnColumn ks) aggs
  pub kinds : es ≡ map (kind_on ks) aggs

there : (ks : List Kind) (d : ℕ) (k : Kind) → slice_get ks d ≡ Some k → (At ks d (unwrap_or (slice_get ks d) Int)) × (k ≡ unwrap_or (slice_get ks d) Int)
there ks d k h =
    let is : k ≡ unwrap_or (slice_get ks d) Int = sym (ap (λ o. unwrap_or o Int) h) in (h ∙ ap Some is, is)

more : (ks : List Kind) (a : Agg) (aggs : List Agg) (k : Kind) (rest es : List Kind) → OnColumn ks a → k ≡ kind_on ks a → es ≡ k ∷ rest → Typed ks aggs rest → Typed ks (a ∷ aggs) es
more ks a aggs k rest es on is whole t = record {
  on = (on, t.on);
  kinds = whole ∙ (λ i. is i ∷ t.kinds i);
}

pub typed_on : (ks : List Kind) (aggs : List Agg) (es : List Kind) → all_kinds (map (agg_kind ks) aggs) ≡ Some es → Typed ks aggs es
typed_on ks [] es h = record { on = tt; kinds = cc }
typed_on ks (agg.Sum d ∷ aggs) es h =
    let p = kinds_parts (agg_kind ks (agg.Sum d)) (map (agg_kind ks) aggs) es h in
    let s = sum_kind (slice_get ks d) p.first p.first_is in
    more ks (agg.Sum d) aggs p.first p.others es s.column s.kind p.whole (typed_on ks aggs p.others p.others_are)
typed_on ks (agg.Min d ∷ aggs) es h =
    let p = kinds_parts (agg_kind ks (agg.Min d)) (map (agg_kind ks) aggs) es h in
    let t = there ks d p.first p.first_is in
    more ks (agg.Min d) aggs p.first p.others es t.0 t.1 p.whole (typed_on ks aggs p.others p.others_are)
typed_on ks (agg.Max d ∷ aggs) es h =
    let p = kinds_parts (agg_kind ks (agg.Max d)) (map (agg_kind ks) aggs) es h in
    let t = there ks d p.first p.first_is in
    more ks (agg.Max d) aggs p.first p.others es t.0 t.1 p.whole (typed_on ks aggs p.others p.others_are)

-- and so over columns that are there
pub are_on : (ks : List Kind) (aggs : List Agg) → AllByRecursion (OnColumn ks) aggs → AllByRecursion (IsOn (length ks)) aggs
are_on ks [] h = tt
are_on ks (a ∷ aggs) h = (at_within ks (agg_place a) (kind_on ks a) h.0, are_on ks aggs h.1)
