-- What the operators that are not positive give of bounded relations, by the laws of the bounded answer.
use Rattle.std.specs.Prelude.{◌≡◌, ℕ, ◌<◌, List, Some, length}
use Rattle.au_value.specs.declared.kinds.Kind.{Kind}
use Rattle.au_expr.specs.Holding.{WhichWorld, possible, guess}
use Rattle.au_algebra.specs.declared.query.Agg.{Agg}
use Rattle.au_algebra.specs.Bounded as bounded
use Rattle.au_algebra.specs.Bounded.{Bounded}
use Rattle.au_algebra.specs.Laws.{IsRelation}
use Rattle.au_algebra.specs.Ordinary as ordinary
use Rattle.au_algebra.specs.Ordinary.{Rows}
use Rattle.au_algebra.specs.Typing.{group_kinds, total_kinds}
use Rattle.au_algebra.proofs.AggregateGuesses.{total_guesses}
use Rattle.au_algebra.proofs.AggregateKinds.{typed_fitting}
use Rattle.au_algebra.proofs.AggregateRanges.{sums_want_none}
use Rattle.au_algebra.proofs.DifferenceRelation as relation
use Rattle.au_algebra.proofs.GroupingKeeps.{group_keeps, total_keeps}
use Rattle.au_algebra.proofs.GuessedByDifference.{difference_guesses}
use Rattle.au_algebra.proofs.GuessedByGroup.{group_guesses}
use Rattle.au_algebra.proofs.KeptByDifference.{difference_bounds}
use Rattle.au_algebra.proofs.KeptByGroup.{group_bounds, total_bounds}
use Rattle.au_kfull.specs.NonPositive.{RangesStandFor}
use Rattle.au_kfull.specs.Typed.{AreAlike, IsGroupable, IsSummable}

-- each stands, in each world, for the ordinary operator's rows
pub difference_stands : (left right : Bounded) → AreAlike left right → (w : WhichWorld) (xs ys : Rows) → RangesStandFor w left xs → RangesStandFor w right ys → RangesStandFor w (bounded.difference left right) (ordinary.difference xs ys)
difference_stands left right o possible xs ys b c = difference_bounds o.0 left right xs ys o.1 b c
difference_stands left right o guess xs ys b c = difference_guesses o.0 left right xs ys o.1 o.2 b c

pub group_stands : (keys : ℕ) (aggs : List Agg) (rows : Bounded) → IsGroupable aggs rows → (w : WhichWorld) (xs : Rows) → RangesStandFor w rows xs → RangesStandFor w (bounded.group keys aggs rows) (ordinary.group keys aggs xs)
group_stands keys aggs rows o possible xs b = group_bounds o.0 keys aggs rows xs (typed_fitting o.0 aggs o.2.made o.2.typed) o.1 b
group_stands keys aggs rows o guess xs b = group_guesses o.0 keys aggs rows xs o.1 b

pub total_stands : (aggs : List Agg) (rows : Bounded) → IsSummable aggs rows → (w : WhichWorld) (xs : Rows) → RangesStandFor w rows xs → RangesStandFor w (bounded.total aggs rows) (ordinary.total aggs xs)
total_stands aggs rows o possible xs b =
    total_bounds o.0 aggs rows xs (typed_fitting o.0 aggs o.2.made o.2.typed) (sums_want_none (0 < length xs) aggs o.2.sums) o.1 b
total_stands aggs rows o guess xs b = total_guesses aggs rows xs b

-- each gives a relation of the kinds of its operator
pub difference_kinds : (left right : Bounded) (ks : List Kind) → IsRelation ks left → IsRelation ks right → IsRelation ks (bounded.difference left right)
difference_kinds left right ks a b = relation.difference_relation ks right b left a

pub group_has_kinds : (keys : ℕ) (aggs : List Agg) (rows : Bounded) (ks js : List Kind) → IsRelation ks rows → group_kinds keys aggs ks ≡ Some js → IsRelation js (bounded.group keys aggs rows)
group_has_kinds keys aggs rows ks js ok h = (group_keeps ks js keys aggs h).relation rows ok

pub total_has_kinds : (aggs : List Agg) (rows : Bounded) (ks js : List Kind) → IsRelation ks rows → total_kinds aggs ks ≡ Some js → IsRelation js (bounded.total aggs rows)
total_has_kinds aggs rows ks js ok h = (total_keeps ks js aggs h).relation rows ok
