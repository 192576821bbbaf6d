-- With Product itself the numbers of a tree are those of its bounded relation.
use Rattle.std.specs.Prelude.{◌≡◌, Bool, true, false, List, ◌++◌, take, flat_map, ℤ}
use Rattle.std.specs.List.{list_all}
use Rattle.std.proofs.Common.{refl, ap}
use Rattle.au_value.specs.Numeral.{is_i128}
use Rattle.au_expr.specs.Numbers.{expr_numbers}
use Rattle.au_algebra.specs.Bounded.{Bounded, all_rows, combine, difference, distinct_rows, group, normal, product, select}
use Rattle.au_algebra.specs.Fits.{agg_numbers, difference_sums, fits, grouping_numbers, numbers, triple_numbers}
use Rattle.au_algebra.specs.Trees.{Tree, Table, Select, Project, Product, Union, Difference, Distinct, Group, Total}
use Rattle.au_algebra.proofs.ByProduct.{bounded_is}
use Rattle.au_compress.specs.ProductNumbers.{fits_by, numbers_by}

-- the numbers of all pairs
abbrev pub all_pairs : Bounded → Bounded → List ℤ
all_pairs xs ys = triple_numbers (product xs ys)

pub numbers_is : (q : Tree) (ts : List Bounded) → numbers_by product all_pairs q ts ≡ numbers q ts
numbers_is (Table i) ts = refl
numbers_is (Select e q) ts = λ i. numbers_is q ts i ++ (flat_map (λ r. expr_numbers e r.cells) (bounded_is q ts i) ++ triple_numbers (select e (bounded_is q ts i)))
numbers_is (Project items q) ts = λ i. numbers_is q ts i ++ flat_map (λ r. flat_map (λ e. expr_numbers e r.cells) items) (bounded_is q ts i)
numbers_is (Product a b) ts = λ i. numbers_is a ts i ++ (numbers_is b ts i ++ triple_numbers (product (bounded_is a ts i) (bounded_is b ts i)))
numbers_is (Union a b) ts = λ i. numbers_is a ts i ++ numbers_is b ts i
numbers_is (Difference a b) ts = λ i.
    numbers_is a ts i
    ++ (numbers_is b ts i
    ++ (triple_numbers (combine (bounded_is a ts i))
    ++ (flat_map (difference_sums (bounded_is b ts i)) (combine (bounded_is a ts i)) ++ triple_numbers (difference (bounded_is a ts i) (bounded_is b ts i)))))
numbers_is (Distinct q) ts = λ i. numbers_is q ts i ++ triple_numbers (distinct_rows (bounded_is q ts i))
numbers_is (Group keys aggs q) ts = λ i. numbers_is q ts i ++ (grouping_numbers (take keys) aggs (bounded_is q ts i) ++ triple_numbers (group keys aggs (bounded_is q ts i)))
numbers_is (Total aggs q) ts = λ i. numbers_is q ts i ++ flat_map (agg_numbers (all_rows (bounded_is q ts i))) aggs

-- and so are those of the answer
pub fits_is : (combined : Bool) (q : Tree) (ts : List Bounded) → fits_by product all_pairs combined q ts ≡ fits combined q ts
fits_is true q ts = λ i. list_all is_i128 (numbers_is q ts i ++ (triple_numbers (combine (bounded_is q ts i)) ++ triple_numbers (normal (combine (bounded_is q ts i)))))
fits_is false q ts = λ i. list_all is_i128 (numbers_is q ts i ++ (triple_numbers (bounded_is q ts i) ++ triple_numbers (normal (bounded_is q ts i))))
