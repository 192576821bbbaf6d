-- What the operators that are not positive give of rows of values with counts, through the embedded rows.
use Rattle.std.specs.Prelude.{◌≡◌, ℕ, List, Some}
use Rattle.au_value.specs.declared.kinds.Kind.{Kind}
use Rattle.au_expr.specs.Holding.{WhichWorld, guess}
use Rattle.au_algebra.specs.Counted.{CountedRow, StandsFor}
use Rattle.au_algebra.specs.declared.query.Agg.{Agg}
use Rattle.au_algebra.specs.Bounded as bounded
use Rattle.au_algebra.specs.Ordinary as ordinary
use Rattle.au_algebra.specs.Ordinary.{Rows}
use Rattle.au_algebra.specs.Typing.{group_kinds, total_kinds}
use Rattle.au_kfull.specs.Embedding.{IsCountedTable, embedded}
use Rattle.au_kfull.specs.NonPositive.{counted_operators}
use Rattle.au_kfull.specs.Outputs.{CanGroup, CanTotal}
use Rattle.au_kfull.specs.Typed.{AreAlike, IsGroupable, IsSummable}
use Rattle.au_kfull.proofs.CertainTables.{embedded_relation, guessed_table, table_guesses, stands_guessed}
use Rattle.au_kfull.proofs.NonPositiveRanges as ranges

-- what the operators need of tables, their embedded rows have
pub tables_alike : (left right : List CountedRow) → ((ks : List Kind) × IsCountedTable ks left × IsCountedTable ks right) → AreAlike (embedded left) (embedded right)
tables_alike left right o = (o.0, embedded_relation o.0 left o.1, embedded_relation o.0 right o.2)

pub table_groupable : (aggs : List Agg) (rows : List CountedRow) → ((ks : List Kind) × IsCountedTable ks rows × CanGroup ks aggs) → IsGroupable aggs (embedded rows)
table_groupable aggs rows o = (o.0, embedded_relation o.0 rows o.1, o.2)

pub table_summable : (aggs : List Agg) (rows : List CountedRow) → ((ks : List Kind) × IsCountedTable ks rows × CanTotal ks aggs) → IsSummable aggs (embedded rows)
table_summable aggs rows o = (o.0, embedded_relation o.0 rows o.1, o.2)

-- each stands for the ordinary operator's rows
pub difference_stands : (left right : List CountedRow) → ((ks : List Kind) × IsCountedTable ks left × IsCountedTable ks right) → (w : WhichWorld) (xs ys : Rows) → StandsFor left xs → StandsFor right ys → StandsFor (counted_operators.difference left right) (ordinary.difference xs ys)
difference_stands left right o w xs ys a b =
    stands_guessed (bounded.difference (embedded left) (embedded right)) (ordinary.difference xs ys)
    (ranges.difference_stands (embedded left) (embedded right) (tables_alike left right o) guess xs ys (table_guesses left xs a) (table_guesses right ys b))

pub group_stands : (keys : ℕ) (aggs : List Agg) (rows : List CountedRow) → ((ks : List Kind) × IsCountedTable ks rows × CanGroup ks aggs) → (w : WhichWorld) (xs : Rows) → StandsFor rows xs → StandsFor (counted_operators.group keys aggs rows) (ordinary.group keys aggs xs)
group_stands keys aggs rows o w xs a =
    stands_guessed (bounded.group keys aggs (embedded rows)) (ordinary.group keys aggs xs)
    (ranges.group_stands keys aggs (embedded rows) (table_groupable aggs rows o) guess xs (table_guesses rows xs a))

pub total_stands : (aggs : List Agg) (rows : List CountedRow) → ((ks : List Kind) × IsCountedTable ks rows × CanTotal ks aggs) → (w : WhichWorld) (xs : Rows) → StandsFor rows xs → StandsFor (counted_operators.total aggs rows) (ordinary.total aggs xs)
total_stands aggs rows o w xs a =
    stands_guessed (bounded.total aggs (embedded rows)) (ordinary.total aggs xs)
    (ranges.total_stands aggs (embedded rows) (table_summable aggs rows o) guess xs (table_guesses rows xs a))

-- each gives rows of the kinds of its operator
pub difference_kinds : (left right : List CountedRow) (ks : List Kind) → IsCountedTable ks left → IsCountedTable ks right → IsCountedTable ks (counted_operators.difference left right)
difference_kinds left right ks a b =
    guessed_table ks (bounded.difference (embedded left) (embedded right)) (ranges.difference_kinds (embedded left) (embedded right) ks (embedded_relation ks left a) (embedded_relation ks right b))

pub group_has_kinds : (keys : ℕ) (aggs : List Agg) (rows : List CountedRow) (ks js : List Kind) → IsCountedTable ks rows → group_kinds keys aggs ks ≡ Some js → IsCountedTable js (counted_operators.group keys aggs rows)
group_has_kinds keys aggs rows ks js ok h =
    guessed_table js (bounded.group keys aggs (embedded rows)) (ranges.group_has_kinds keys aggs (embedded rows) ks js (embedded_relation ks rows ok) h)

pub total_has_kinds : (aggs : List Agg) (rows : List CountedRow) (ks js : List Kind) → IsCountedTable ks rows → total_kinds aggs ks ≡ Some js → IsCountedTable js (counted_operators.total aggs rows)
total_has_kinds aggs rows ks js ok h =
    guessed_table js (bounded.total aggs (embedded rows)) (ranges.total_has_kinds aggs (embedded rows) ks js (embedded_relation ks rows ok) h)
