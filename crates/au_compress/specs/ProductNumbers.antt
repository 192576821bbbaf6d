-- The numbers of a bounded answer in which the pairs of a Product are formed in another way, with the numbers that this
-- makes, and whether each lies in the range of 128 bits.
use Rattle.std.specs.Prelude.{ℕ, Bool, List, ◌++◌, take, flat_map, ℤ, if◌then◌else◌}
use Rattle.std.specs.List.{list_all}
use Rattle.au_value.specs.Numeral.{is_i128}
use Rattle.au_expr.specs.Numbers.{expr_numbers}
use Rattle.au_algebra.specs.Bounded.{Bounded, all_rows, combine, difference, distinct_rows, group, normal, select}
use Rattle.au_algebra.specs.Fits.{agg_numbers, difference_sums, grouping_numbers, triple_numbers}
use Rattle.au_algebra.specs.Products.{bounded_by}
use Rattle.au_algebra.specs.Trees.{Tree, Table, Select, Project, Product, Union, Difference, Distinct, Group, Total}

-- the numbers of the parts of a tree, and of its own operator
abbrev pub numbers_by : (Bounded → Bounded → Bounded) → (Bounded → Bounded → List ℤ) → Tree → List Bounded → List ℤ
numbers_by join made (Table i) ts = triple_numbers (bounded_by join (Table i) ts)
numbers_by join made (Select e q) ts =
    let rows = bounded_by join q ts in
    numbers_by join made q ts ++ (flat_map (λ r. expr_numbers e r.cells) rows ++ triple_numbers (select e rows))
numbers_by join made (Project items q) ts =
    numbers_by join made q ts ++ flat_map (λ r. flat_map (λ e. expr_numbers e r.cells) items) (bounded_by join q ts)
numbers_by join made (Product a b) ts =
    numbers_by join made a ts ++ (numbers_by join made b ts ++ made (bounded_by join a ts) (bounded_by join b ts))
numbers_by join made (Union a b) ts = numbers_by join made a ts ++ numbers_by join made b ts
numbers_by join made (Difference a b) ts =
    let left = bounded_by join a ts in
    let right = bounded_by join b ts in
    numbers_by join made a ts
    ++ (numbers_by join made b ts
    ++ (triple_numbers (combine left)
    ++ (flat_map (difference_sums right) (combine left) ++ triple_numbers (difference left right))))
numbers_by join made (Distinct q) ts = numbers_by join made q ts ++ triple_numbers (distinct_rows (bounded_by join q ts))
numbers_by join made (Group keys aggs q) ts =
    let rows = bounded_by join q ts in
    numbers_by join made q ts ++ (grouping_numbers (take keys) aggs rows ++ triple_numbers (group keys aggs rows))
numbers_by join made (Total aggs q) ts = numbers_by join made q ts ++ flat_map (agg_numbers (all_rows (bounded_by join q ts))) aggs

-- the numbers of the answer, with those of the combined rows where that is asked for, and of the normal form
abbrev pub answer_numbers_by : (Bounded → Bounded → Bounded) → (Bounded → Bounded → List ℤ) → Bool → Tree → List Bounded → List ℤ
answer_numbers_by join made combined q ts =
    let rows = if combined then combine (bounded_by join q ts) else bounded_by join q ts in
    numbers_by join made q ts ++ (triple_numbers rows ++ triple_numbers (normal rows))

abbrev pub fits_by : (Bounded → Bounded → Bounded) → (Bounded → Bounded → List ℤ) → Bool → Tree → List Bounded → Bool
fits_by join made combined q ts = list_all is_i128 (answer_numbers_by join made combined q ts)
