-- By the hulls of keys the relation of a tree and its numbers are those with its product alone, and by all pairs they are
-- the bounded ones.
use Rattle.std.specs.Prelude.{◌≡◌, List, ◌++◌, take, flat_map, ℤ}
use Rattle.std.proofs.Common.{refl, ◌∙◌}
use Rattle.au_expr.specs.Numbers.{expr_numbers}
use Rattle.au_algebra.specs.Bounded.{Bounded, all_rows, bounded, combine, difference, distinct_rows, group, product, select}
use Rattle.au_algebra.specs.Fits.{agg_numbers, difference_sums, grouping_numbers, numbers, triple_numbers}
use Rattle.au_algebra.specs.Products.{bounded_by}
use Rattle.au_algebra.specs.Trees.{Tree, Table, Select, Project, Product, Union, Difference, Distinct, Group, Total}
use Rattle.au_algebra.proofs.ByProduct.{bounded_is}
use Rattle.au_compress.specs.ProductNumbers.{numbers_by}
use Rattle.au_compress.proofs.PlainProduct.{all_pairs, numbers_is}
use Rattle.au_points.specs.Groupings.{bounded_with, by_hulls}
use Rattle.au_points.specs.GroupingFits.{numbers_with}
use Rattle.au_points.proofs.HullsAreGroup.{hulls_are_group}
use Rattle.au_program.specs.Rules.{plain_rules, tree_numbers, tree_rows}

-- the relation
pub rows_by_hulls : (join : Bounded → Bounded → Bounded) (q : Tree) (ts : List Bounded) → bounded_with join by_hulls q ts ≡ bounded_by join q ts
rows_by_hulls join q ts = hulls_are_group.relation join q ts

-- and its numbers
module _ (join : Bounded → Bounded → Bounded) (made : Bounded → Bounded → List ℤ) where
  pub numbers_by_hulls : (q : Tree) (ts : List Bounded) → numbers_with join made by_hulls q ts ≡ numbers_by join made q ts
  numbers_by_hulls (Table i) ts = refl
  numbers_by_hulls (Select e q) ts =
      λ i. numbers_by_hulls q ts i ++ (flat_map (λ r. expr_numbers e r.cells) (rows_by_hulls join q ts i) ++ triple_numbers (select e (rows_by_hulls join q ts i)))
  numbers_by_hulls (Project items q) ts = λ i. numbers_by_hulls q ts i ++ flat_map (λ r. flat_map (λ e. expr_numbers e r.cells) items) (rows_by_hulls join q ts i)
  numbers_by_hulls (Product a b) ts =
      λ i. numbers_by_hulls a ts i ++ (numbers_by_hulls b ts i ++ made (rows_by_hulls join a ts i) (rows_by_hulls join b ts i))
  numbers_by_hulls (Union a b) ts = λ i. numbers_by_hulls a ts i ++ numbers_by_hulls b ts i
  numbers_by_hulls (Difference a b) ts =
      λ i. numbers_by_hulls a ts i
      ++ (numbers_by_hulls b ts i
      ++ (triple_numbers (combine (rows_by_hulls join a ts i))
      ++ (flat_map (difference_sums (rows_by_hulls join b ts i)) (combine (rows_by_hulls join a ts i)) ++ triple_numbers (difference (rows_by_hulls join a ts i) (rows_by_hulls join b ts i)))))
  numbers_by_hulls (Distinct q) ts = λ i. numbers_by_hulls q ts i ++ triple_numbers (distinct_rows (rows_by_hulls join q ts i))
  numbers_by_hulls (Group keys aggs q) ts =
      λ i. numbers_by_hulls q ts i ++ (grouping_numbers (take keys) aggs (rows_by_hulls join q ts i) ++ triple_numbers (group keys aggs (rows_by_hulls join q ts i)))
  numbers_by_hulls (Total aggs q) ts = λ i. numbers_by_hulls q ts i ++ flat_map (agg_numbers (all_rows (rows_by_hulls join q ts i))) aggs

-- by the rules of the bounded answer they are the bounded relation and its numbers
pub plain_rows_are : (q : Tree) (ts : List Bounded) → tree_rows plain_rules q ts ≡ bounded q ts
plain_rows_are q ts = rows_by_hulls product q ts ∙ bounded_is q ts

pub plain_numbers_are : (q : Tree) (ts : List Bounded) → tree_numbers plain_rules q ts ≡ numbers q ts
plain_numbers_are q ts = numbers_by_hulls product all_pairs q ts ∙ numbers_is q ts
