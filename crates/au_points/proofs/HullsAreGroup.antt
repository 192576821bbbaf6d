-- With Product, Group and Distinct themselves the relation, the answer and its numbers are the bounded ones.
use Rattle.std.specs.Prelude.{◌≡◌, List, ◌++◌, take, flat_map, if◌then◌else◌}
use Rattle.std.specs.List.{list_all}
use Rattle.std.proofs.Common.{refl, ap}
use Rattle.au_value.specs.Numeral.{is_i128}
use Rattle.au_expr.specs.Numbers.{expr_numbers}
use Rattle.au_algebra.specs.Bounded as op
use Rattle.au_algebra.specs.Bounded.{Bounded, all_rows, bounded, bounded_answer, combine, normal, product}
use Rattle.au_algebra.specs.Fits.{agg_numbers, difference_sums, grouping_numbers, numbers, triple_numbers}
use Rattle.au_algebra.specs.Products.{bounded_by}
use Rattle.au_algebra.specs.Trees.{Tree, Table, Select, Project, Product, Union, Difference, Distinct, Group, Total}
use Rattle.au_points.specs.Groupings.{by_hulls, bounded_with}
use Rattle.au_points.specs.GroupingFits.{HullsAreGroup, numbers_with, pair_numbers}

relation_is : (join : Bounded → Bounded → Bounded) (q : Tree) (ts : List Bounded) → bounded_with join by_hulls q ts ≡ bounded_by join q ts
relation_is join (Table i) ts = refl
relation_is join (Select e q) ts = ap (op.select e) (relation_is join q ts)
relation_is join (Project items q) ts = ap (op.project items) (relation_is join q ts)
relation_is join (Product a b) ts = λ i. join (relation_is join a ts i) (relation_is join b ts i)
relation_is join (Union a b) ts = λ i. op.union (relation_is join a ts i) (relation_is join b ts i)
relation_is join (Difference a b) ts = λ i. op.difference (relation_is join a ts i) (relation_is join b ts i)
relation_is join (Distinct q) ts = ap op.distinct_rows (relation_is join q ts)
relation_is join (Group keys aggs q) ts = ap (op.group keys aggs) (relation_is join q ts)
relation_is join (Total aggs q) ts = ap (op.total aggs) (relation_is join q ts)

rows_are : (q : Tree) (ts : List Bounded) → bounded_with product by_hulls q ts ≡ bounded q ts
rows_are (Table i) ts = refl
rows_are (Select e q) ts = ap (op.select e) (rows_are q ts)
rows_are (Project items q) ts = ap (op.project items) (rows_are q ts)
rows_are (Product a b) ts = λ i. product (rows_are a ts i) (rows_are b ts i)
rows_are (Union a b) ts = λ i. op.union (rows_are a ts i) (rows_are b ts i)
rows_are (Difference a b) ts = λ i. op.difference (rows_are a ts i) (rows_are b ts i)
rows_are (Distinct q) ts = ap op.distinct_rows (rows_are q ts)
rows_are (Group keys aggs q) ts = ap (op.group keys aggs) (rows_are q ts)
rows_are (Total aggs q) ts = ap (op.total aggs) (rows_are q ts)

numbers_are : (q : Tree) (ts : List Bounded) → numbers_with product pair_numbers by_hulls q ts ≡ numbers q ts
numbers_are (Table i) ts = refl
numbers_are (Select e q) ts =
    λ i. numbers_are q ts i ++ (flat_map (λ r. expr_numbers e r.cells) (rows_are q ts i) ++ triple_numbers (op.select e (rows_are q ts i)))
numbers_are (Project items q) ts =
    λ i. numbers_are q ts i ++ flat_map (λ r. flat_map (λ e. expr_numbers e r.cells) items) (rows_are q ts i)
numbers_are (Product a b) ts =
    λ i. numbers_are a ts i ++ (numbers_are b ts i ++ triple_numbers (product (rows_are a ts i) (rows_are b ts i)))
numbers_are (Union a b) ts = λ i. numbers_are a ts i ++ numbers_are b ts i
numbers_are (Difference a b) ts =
    λ i. numbers_are a ts i
    ++ (numbers_are b ts i
    ++ (triple_numbers (combine (rows_are a ts i))
    ++ (flat_map (difference_sums (rows_are b ts i)) (combine (rows_are a ts i)) ++ triple_numbers (op.difference (rows_are a ts i) (rows_are b ts i)))))
numbers_are (Distinct q) ts = λ i. numbers_are q ts i ++ triple_numbers (op.distinct_rows (rows_are q ts i))
numbers_are (Group keys aggs q) ts =
    λ i. numbers_are q ts i
    ++ (grouping_numbers (take keys) aggs (rows_are q ts i) ++ triple_numbers (op.group keys aggs (rows_are q ts i)))
numbers_are (Total aggs q) ts = λ i. numbers_are q ts i ++ flat_map (agg_numbers (all_rows (rows_are q ts i))) aggs

pub hulls_are_group : HullsAreGroup
hulls_are_group = record {
  relation = relation_is;
  answer = λ combined q ts. ap (λ rows. normal (if combined then combine rows else rows)) (rows_are q ts);
  fits = λ combined q ts.
      (λ i. list_all is_i128
      (numbers_are q ts i
      ++ (triple_numbers (if combined then combine (rows_are q ts i) else rows_are q ts i)
      ++ triple_numbers (normal (if combined then combine (rows_are q ts i) else rows_are q ts i)))));
}
