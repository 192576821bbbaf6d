-- The bounded answer of a query (Feng, Huber, Glavic, Kennedy, SIGMOD 2021; grouping in substance):
-- each operator over rows of ranges with triples, the combined relation and the normal form.
use Rattle.std.specs.Prelude.{ℕ, ◌+◌, ◌-◌, Bool, true, not, ◌&&◌, List, [], ◌∷◌, ◌++◌, map, take, filter, unwrap_or, slice_get, flat_map, sum_by, ℤ, pos, ◌*ℤ◌, int_lt, nat_le, if◌then◌else◌}
use Rattle.std.specs.declared.cmp.Ordering.{Ordering}
use Rattle.std.specs.Ordering.{ordering_then, is_le}
use Rattle.std.specs.List.{list_any}
use Rattle.std.specs.Cmp.Lexicographic.{slice_cmp}
use Rattle.au_value.specs.declared.value.Value.{Value}
use Rattle.au_value.specs.declared.value.Value.TheVariants.{Int}
use Rattle.au_value.specs.Order.{order}
use Rattle.au_value.specs.Ranges.{Span, range, certain, all_overlap, all_certain, all_certainly_equal, hulls, guesses, lower_ends, upper_ends}
use Rattle.au_value.specs.Lists.{distinct}
use Rattle.au_annot.specs.Triples.{Counts, counts, times, one, total_counts, is_none}
use Rattle.au_expr.specs.Terms.{Term}
use Rattle.au_expr.specs.Ordinary.{is_true, number}
use Rattle.au_expr.specs.OnRanges.{range_of}
use Rattle.au_algebra.specs.declared.query.Agg.{Agg}
use Rattle.au_algebra.specs.declared.query.Agg.TheVariants.{Sum, Min, Max}
use Rattle.au_algebra.specs.Trees.{Tree}
use Rattle.au_algebra.specs.Trees.{Table, Select, Project, Product, Union, Difference, Distinct, Group, Total}
use Rattle.au_algebra.specs.Entries.{Entry, entry}
use Rattle.au_algebra.specs.Lists.{same_row, sorted_by, int_sum, least, greatest}

-- a list of ranges with a triple
abbrev pub RangeRow : Type 0
RangeRow = Entry Span Counts

-- a bounded relation
abbrev pub Bounded : Type 0
Bounded = List RangeRow

-- the rows of which a copy is possible
abbrev pub present : Bounded → Bounded
present rows = filter (λ r. not (is_none r.annot)) rows

-- 1 for true and 0 for false
abbrev pub truth : Value → ℕ
truth v = if is_true v then 1 else 0

-- the triple of a condition's range
abbrev pub weight : Span → Counts
weight r = counts (truth r.lo) (truth r.sg) (truth r.hi)

-- the triple multiplied by the condition's
abbrev pub select : Term → Bounded → Bounded
select e rows = present (map (λ r. entry r.cells (times r.annot (weight (range_of e r.cells)))) rows)

-- each row's list of item ranges
abbrev pub project : List Term → Bounded → Bounded
project items rows = present (map (λ r. entry (map (λ e. range_of e r.cells) items) r.annot) rows)

-- each pair, joined, with the triples multiplied
abbrev pub product : Bounded → Bounded → Bounded
product xs ys = present (flat_map (λ x. map (λ y. entry (x.cells ++ y.cells) (times x.annot y.annot)) ys) xs)

-- one list after the other
abbrev pub union : Bounded → Bounded → Bounded
union xs ys = present (xs ++ ys)

-- the hulls of several lists of ranges, with the guesses of the first
abbrev pub hull_of : List (List Span) → List Span
hull_of [] = []
hull_of (rs ∷ []) = rs
hull_of (rs ∷ ss ∷ more) = hulls rs (hull_of (ss ∷ more))

-- the rows with these guess values
abbrev pub guessing : List Value → Bounded → Bounded
guessing guess rows = filter (λ r. same_row guess (guesses r.cells)) rows

-- one row for several: the hulls and the sum of the triples
abbrev pub merged : Bounded → RangeRow
merged rows = entry (hull_of (map (λ r. r.cells) rows)) (total_counts (map (λ r. r.annot) rows))

-- one row per distinct list of guess values
abbrev pub combine : Bounded → Bounded
combine rows = map (λ guess. merged (guessing guess rows)) (distinct same_row (map (λ r. guesses r.cells) rows))

-- the sums of most, guess and least over some rows
abbrev pub most_of : Bounded → ℕ
most_of rows = sum_by (λ r. r.annot.most) rows

abbrev pub guess_of : Bounded → ℕ
guess_of rows = sum_by (λ r. r.annot.guess) rows

abbrev pub least_of : Bounded → ℕ
least_of rows = sum_by (λ r. r.annot.least) rows

-- what is left of a row: its least falls by all that may be equal to it, its guess by what is equal in the
-- guess world, and its most by what is equal to it in every world
abbrev pub less : Bounded → RangeRow → RangeRow
less right t =
    entry t.cells
    (counts
    (t.annot.least - most_of (filter (λ r. all_overlap t.cells r.cells) right))
    (t.annot.guess - guess_of (guessing (guesses t.cells) right))
    (t.annot.most - least_of (filter (λ r. all_certainly_equal t.cells r.cells) right)))

-- the combined left side, each row less the right side
abbrev pub difference : Bounded → Bounded → Bounded
difference left right = present (map (less right) (combine left))

-- the rows of an output: those that belong, the hulls of their keys, the members, and which members are certain
pub record Grouped : Type 0 where
  pub belonging : Bounded
  pub box : List Span
  pub members : Bounded
  pub is_certain_member : RangeRow → Bool
  pub is_guessed : Bool

-- the range in a column, and 0 past the last
abbrev pub range_at : ℕ → RangeRow → Span
range_at c r = unwrap_or (slice_get r.cells c) (certain (Int (pos 0)))

-- how many copies a member has in each group of a world at least
abbrev pub sure : Grouped → RangeRow → ℕ
sure g r = if g.is_certain_member r then r.annot.least else 0

-- the least and the greatest that a member adds to a sum
abbrev pub lower_term : Grouped → ℕ → RangeRow → ℤ
lower_term g c r =
    let lo = number (range_at c r).lo in
    if int_lt lo (pos 0) then pos r.annot.most *ℤ lo else pos (sure g r) *ℤ lo

abbrev pub upper_term : Grouped → ℕ → RangeRow → ℤ
upper_term g c r =
    let hi = number (range_at c r).hi in
    if int_lt hi (pos 0) then pos (sure g r) *ℤ hi else pos r.annot.most *ℤ hi

abbrev pub guess_term : ℕ → RangeRow → ℤ
guess_term c r = pos r.annot.guess *ℤ number (range_at c r).sg

-- a range whose guess is its lo where the group is not guessed
abbrev pub guess_if : Bool → Span → Span
guess_if guessed r = if guessed then r else range r.lo r.lo r.hi

-- the certain members with a copy in every world, and the belonging rows with a copy in the guess world
abbrev pub surely_there : Grouped → Bounded
surely_there g = filter (λ r. g.is_certain_member r && nat_le 1 r.annot.least) g.members

abbrev pub guessed_there : Grouped → Bounded
guessed_there g = filter (λ r. nat_le 1 r.annot.guess) g.belonging

-- the choice of the first list, or of the second where the first is empty
abbrev pub or_else : {A B : Type 0} → List A → B → B → B
or_else [] found other = other
or_else (x ∷ xs) found other = found

abbrev pub aggregate : Grouped → Agg → Span
aggregate g (Sum c) =
    guess_if g.is_guessed
    (range
    (Int (int_sum (map (lower_term g c) g.members)))
    (Int (int_sum (map (guess_term c) g.belonging)))
    (Int (int_sum (map (upper_term g c) g.members))))
aggregate g (Min c) =
    guess_if g.is_guessed
    (range
    (least (map (λ r. (range_at c r).lo) g.members))
    (least (map (λ r. (range_at c r).sg) (guessed_there g)))
    (or_else (surely_there g)
    (least (map (λ r. (range_at c r).hi) (surely_there g)))
    (greatest (map (λ r. (range_at c r).hi) g.members))))
aggregate g (Max c) =
    guess_if g.is_guessed
    (range
    (or_else (surely_there g)
    (greatest (map (λ r. (range_at c r).lo) (surely_there g)))
    (least (map (λ r. (range_at c r).lo) g.members)))
    (greatest (map (λ r. (range_at c r).sg) (guessed_there g)))
    (greatest (map (λ r. (range_at c r).hi) g.members)))

-- 1 where some row passes
abbrev pub some_of : (RangeRow → Bool) → Bounded → ℕ
some_of test rows = if list_any test rows then 1 else 0

-- the triple of a group: the rows that belong to it, and their keys
abbrev pub group_counts : (List Span → List Span) → Bounded → Counts
group_counts keys belonging =
    counts
    (some_of (λ r. all_certain (keys r.cells) && nat_le 1 r.annot.least) belonging)
    (some_of (λ r. nat_le 1 r.annot.guess) belonging)
    (most_of (filter (λ r. not (all_certain (keys r.cells))) belonging) + some_of (λ r. all_certain (keys r.cells)) belonging)

-- the rows of the output of a list of guessed keys
abbrev pub grouped : (List Span → List Span) → Bounded → List Value → Grouped
grouped keys rows guess =
    let belonging = filter (λ r. same_row guess (guesses (keys r.cells))) rows in
    let box = hull_of (map (λ r. keys r.cells) belonging) in
    record {
      belonging = belonging;
      box = box;
      members = filter (λ r. all_overlap (keys r.cells) box) rows;
      is_certain_member = λ r. all_certain (keys r.cells) && all_certain box;
      is_guessed = list_any (λ r. nat_le 1 r.annot.guess) belonging;
    }

-- each row belongs, and is a certain member
abbrev pub all_rows : Bounded → Grouped
all_rows rows = record {
  belonging = rows;
  box = [];
  members = rows;
  is_certain_member = λ r. true;
  is_guessed = true;
}

-- the output of a list of guessed keys
abbrev pub output : (List Span → List Span) → List Agg → Bounded → List Value → RangeRow
output keys aggs rows guess =
    let g = grouped keys rows guess in
    entry (g.box ++ map (aggregate g) aggs) (group_counts keys g.belonging)

-- the distinct lists of guessed keys
abbrev pub guessed_keys : (List Span → List Span) → Bounded → List (List Value)
guessed_keys keys rows = distinct same_row (map (λ r. guesses (keys r.cells)) rows)

-- one output per distinct list of guessed keys
abbrev pub group_by : (List Span → List Span) → List Agg → Bounded → Bounded
group_by keys aggs rows =
    present (map (output keys aggs rows) (guessed_keys keys rows))

abbrev pub group : ℕ → List Agg → Bounded → Bounded
group keys aggs rows = group_by (take keys) aggs rows

-- the groups by all columns, with no aggregate
abbrev pub distinct_rows : Bounded → Bounded
distinct_rows rows = group_by (λ cells. cells) [] rows

-- one row, to which every row belongs as a certain member
abbrev pub total : List Agg → Bounded → Bounded
total aggs rows = entry (map (aggregate (all_rows rows)) aggs) one ∷ []

-- the bounded relation that the operators give
abbrev pub bounded : Tree → List Bounded → Bounded
bounded (Table i) ts = unwrap_or (slice_get ts i) []
bounded (Select e q) ts = select e (bounded q ts)
bounded (Project items q) ts = project items (bounded q ts)
bounded (Product a b) ts = product (bounded a ts) (bounded b ts)
bounded (Union a b) ts = union (bounded a ts) (bounded b ts)
bounded (Difference a b) ts = difference (bounded a ts) (bounded b ts)
bounded (Distinct q) ts = distinct_rows (bounded q ts)
bounded (Group keys aggs q) ts = group keys aggs (bounded q ts)
bounded (Total aggs q) ts = total aggs (bounded q ts)

-- the order of lists of ranges: by guesses, then by lower ends, then by upper ends
abbrev pub ranges_order : List Span → List Span → Ordering
ranges_order xs ys =
    ordering_then (slice_cmp order (guesses xs) (guesses ys))
    (ordering_then (slice_cmp order (lower_ends xs) (lower_ends ys)) (slice_cmp order (upper_ends xs) (upper_ends ys)))

-- whether two lists of ranges are equal in all ends and guesses
abbrev pub same_ranges : List Span → List Span → Bool
same_ranges xs ys =
    same_row (guesses xs) (guesses ys) && (same_row (lower_ends xs) (lower_ends ys) && same_row (upper_ends xs) (upper_ends ys))

-- the rows with equal ranges in one, with the sum of their triples
abbrev pub merge_equal : Bounded → Bounded
merge_equal rows =
    map (λ cells. entry cells (total_counts (map (λ r. r.annot) (filter (λ r. same_ranges cells r.cells) rows))))
    (distinct same_ranges (map (λ r. r.cells) rows))

-- one row may stand before another
abbrev pub row_at_most : RangeRow → RangeRow → Bool
row_at_most r s = is_le (ranges_order r.cells s.cells)

-- the rows in order
abbrev pub sorted : Bounded → Bounded
sorted rows = sorted_by row_at_most rows

-- equal rows merged, in order
abbrev pub normal : Bounded → Bounded
normal rows = sorted (merge_equal rows)

-- the bounded answer, combined where that is asked for
abbrev pub bounded_answer : Bool → Tree → List Bounded → Bounded
bounded_answer combined q ts = normal (if combined then combine (bounded q ts) else bounded q ts)
