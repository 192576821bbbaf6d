-- What the general reading and its condition are at ranges with triples, and at values with counts:
-- the bounded relation and its numbers, and the counted answer.
use Rattle.std.specs.Prelude.{◌≡◌, ℕ, ◌+◌, ◌*◌, Bool, true, ◌&&◌, nat_le, List, [], IsTrue, unwrap_or, slice_get}
use Rattle.std.specs.List.{list_all, AllZip}
use Rattle.au_value.specs.declared.kinds.Kind.{Kind}
use Rattle.au_value.specs.declared.value.Value.{Value}
use Rattle.au_value.specs.Ranges.{Span}
use Rattle.au_value.specs.Numeral.{is_i128}
use Rattle.au_annot.specs.Triples.{Counts, plus, times, none, one, at_most, in_range as counts_in_range}
use Rattle.au_expr.specs.Numbers.{of_ranges}
use Rattle.au_expr.specs.OnRanges.{on_ranges}
use Rattle.au_expr.specs.Ordinary.{ordinary, is_true}
use Rattle.au_expr.specs.Truths.{three_way}
use Rattle.au_algebra.specs.Bounded.{Bounded, bounded}
use Rattle.au_algebra.specs.Entries.{Entry}
use Rattle.au_algebra.specs.Fits as ints
use Rattle.au_algebra.specs.Laws.{IsRelation}
use Rattle.au_algebra.specs.Positive as counted
use Rattle.au_algebra.specs.Positive.{Annotations, is_positive, positive}
use Rattle.au_algebra.specs.Trees.{Tree, Table, Select, Project, Product, Union, Difference, Distinct, Group, Total}
use Rattle.au_algebra.specs.Typing.{IsTyped}
use Rattle.au_keval.specs.Reading.{annotations, fits}
use Rattle.au_keval.specs.Weights.{truth_count, truth_triple}

-- triples with their order, which weigh ranges
abbrev pub over_ranges : Annotations Span Counts
over_ranges = annotations none one plus times at_most truth_triple three_way

-- counts with their order, which weigh values
abbrev pub over_values : Annotations Value ℕ
over_values = annotations 0 1 (λ m n. m + n) (λ m n. m * n) nat_le truth_count is_true

-- At ranges and triples the general reading is the bounded relation.
abbrev pub ReadingIsBounded : Type 0
ReadingIsBounded =
    (q : Tree) (kinds : List (List Kind)) (ts : List Bounded) →
    IsTrue (is_positive q) → IsTyped kinds q → AllZip IsRelation kinds ts →
    positive on_ranges over_ranges q ts ≡ bounded q ts

-- At values and counts it is the counted answer.
abbrev pub ReadingIsCounted : Type 0
ReadingIsCounted =
    (q : Tree) (ts : List (List (Entry Value ℕ))) → positive ordinary over_values q ts ≡ positive ordinary counted.counting_annotations q ts

-- whether the triples of the tables that a tree names lie in the range
abbrev pub tables_fit : Tree → List Bounded → Bool
tables_fit (Table i) ts = ints.triples_fit (unwrap_or (slice_get ts i) [])
tables_fit (Select e q) ts = tables_fit q ts
tables_fit (Project items q) ts = tables_fit q ts
tables_fit (Product a b) ts = tables_fit a ts && tables_fit b ts
tables_fit (Union a b) ts = tables_fit a ts && tables_fit b ts
tables_fit (Difference a b) ts = true
tables_fit (Distinct q) ts = true
tables_fit (Group keys aggs q) ts = true
tables_fit (Total aggs q) ts = true

-- The numbers of the bounded relation lie in the range exactly where the general condition holds and the tables' triples
-- lie in it.
abbrev pub ConditionIsNumbers : Type 0
ConditionIsNumbers =
    (q : Tree) (kinds : List (List Kind)) (ts : List Bounded) →
    IsTrue (is_positive q) → IsTyped kinds q → AllZip IsRelation kinds ts →
    list_all is_i128 (ints.numbers q ts) ≡ (fits on_ranges of_ranges over_ranges counts_in_range q ts && tables_fit q ts)
