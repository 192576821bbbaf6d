-- The numbers of a bounded answer in which the pairs of Product and the groups of Group and Distinct are formed in other
-- ways, and whether each lies in the range of 128 bits.
use Rattle.std.specs.Prelude.{◌≡◌, Bool, List, ◌++◌, flat_map, ℤ, if◌then◌else◌}
use Rattle.std.specs.List.{list_all}
use Rattle.au_value.specs.Numeral.{is_i128}
use Rattle.au_expr.specs.Numbers.{expr_numbers}
use Rattle.au_algebra.specs.Bounded.{Bounded, all_rows, bounded_answer, combine, difference, normal, product, select}
use Rattle.au_algebra.specs.Fits.{agg_numbers, difference_sums, fits, triple_numbers}
use Rattle.au_algebra.specs.Products.{bounded_by}
use Rattle.au_algebra.specs.Trees.{Tree, Table, Select, Project, Product, Union, Difference, Distinct, Group, Total}
use Rattle.au_points.specs.Groupings.{Grouping, by_hulls, bounded_with, answer_with}
use Rattle.au_points.specs.Points.{by_points}

-- the numbers of the parts of a tree, and of its own operator, where `made` has those of a product
abbrev pub numbers_with : (Bounded → Bounded → Bounded) → (Bounded → Bounded → List ℤ) → Grouping → Tree → List Bounded → List ℤ
numbers_with join made by (Table i) ts = triple_numbers (bounded_with join by (Table i) ts)
numbers_with join made by (Select e q) ts =
    let rows = bounded_with join by q ts in
    numbers_with join made by q ts ++ (flat_map (λ r. expr_numbers e r.cells) rows ++ triple_numbers (select e rows))
numbers_with join made by (Project items q) ts =
    numbers_with join made by q ts
    ++ flat_map (λ r. flat_map (λ e. expr_numbers e r.cells) items) (bounded_with join by q ts)
numbers_with join made by (Product a b) ts =
    numbers_with join made by a ts
    ++ (numbers_with join made by b ts ++ made (bounded_with join by a ts) (bounded_with join by b ts))
numbers_with join made by (Union a b) ts = numbers_with join made by a ts ++ numbers_with join made by b ts
numbers_with join made by (Difference a b) ts =
    let left = bounded_with join by a ts in
    let right = bounded_with join by b ts in
    numbers_with join made by a ts
    ++ (numbers_with join made by b ts
    ++ (triple_numbers (combine left)
    ++ (flat_map (difference_sums right) (combine left) ++ triple_numbers (difference left right))))
numbers_with join made by (Distinct q) ts = numbers_with join made by q ts ++ by.distinct_numbers (bounded_with join by q ts)
numbers_with join made by (Group keys aggs q) ts =
    numbers_with join made by q ts ++ by.groups_numbers keys aggs (bounded_with join by q ts)
numbers_with join made by (Total aggs q) ts =
    numbers_with join made by q ts ++ flat_map (agg_numbers (all_rows (bounded_with join by q ts))) aggs

-- the numbers of the answer, with those of the combined rows where that is asked for, and of the normal form
abbrev pub answer_numbers_with : (Bounded → Bounded → Bounded) → (Bounded → Bounded → List ℤ) → Grouping → Bool → Tree → List Bounded → List ℤ
answer_numbers_with join made by combined q ts =
    let rows = if combined then combine (bounded_with join by q ts) else bounded_with join by q ts in
    numbers_with join made by q ts ++ (triple_numbers rows ++ triple_numbers (normal rows))

abbrev pub fits_with : (Bounded → Bounded → Bounded) → (Bounded → Bounded → List ℤ) → Grouping → Bool → Tree → List Bounded → Bool
fits_with join made by combined q ts = list_all is_i128 (answer_numbers_with join made by combined q ts)

-- the numbers of Product itself
abbrev pub pair_numbers : Bounded → Bounded → List ℤ
pair_numbers xs ys = triple_numbers (product xs ys)

-- whether the numbers of the answer by points, combined where that is asked for, lie in the range
abbrev pub points_fit : Bool → Tree → List Bounded → Bool
points_fit combined q ts = fits_with product pair_numbers by_points combined q ts

-- With Product, Group and Distinct themselves the relation, the answer and the test of its numbers are the bounded ones.
pub record HullsAreGroup : Type 0 where
  pub relation : (join : Bounded → Bounded → Bounded) (q : Tree) (ts : List Bounded) → bounded_with join by_hulls q ts ≡ bounded_by join q ts
  pub answer : (combined : Bool) (q : Tree) (ts : List Bounded) → answer_with product by_hulls combined q ts ≡ bounded_answer combined q ts
  pub fits : (combined : Bool) (q : Tree) (ts : List Bounded) → fits_with product pair_numbers by_hulls combined q ts ≡ fits combined q ts
