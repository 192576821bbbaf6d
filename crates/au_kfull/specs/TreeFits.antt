-- Whether all numbers of a tree lie in the range,
-- operator by operator.
use Rattle.std.specs.Prelude.{Bool, ◌&&◌, List, [], ◌++◌, flat_map}
use Rattle.std.specs.List.{list_all}
use Rattle.au_value.specs.Numeral.{is_i128}
use Rattle.au_expr.specs.Terms.{Term}
use Rattle.au_expr.specs.Numbers.{expr_numbers}
use Rattle.au_algebra.specs.Bounded.{Bounded, bounded, select}
use Rattle.au_algebra.specs.Fits.{triple_numbers, triples_fit}
use Rattle.au_algebra.specs.Trees.{Tree, Table, Select, Project, Product, Union, Difference, Distinct, Group, Total}
use Rattle.au_kfull.specs.declared.keys.Keys.TheVariants.{Leading, All}
use Rattle.au_kfull.specs.Numbers.{difference_fits}
use Rattle.au_kfull.specs.Outputs.{group_fits, total_fits}

-- the numbers of the condition on each row, and the triples
abbrev pub select_fits : Term → Bounded → Bool
select_fits e rows = list_all is_i128 (flat_map (λ r. expr_numbers e r.cells) rows ++ triple_numbers (select e rows))

-- the numbers of the items on each row
abbrev pub project_fits : List Term → Bounded → Bool
project_fits items rows = list_all is_i128 (flat_map (λ r. flat_map (λ e. expr_numbers e r.cells) items) rows)

-- the numbers of the parts, and of the operator's own work
abbrev pub tree_fits : Tree → List Bounded → Bool
tree_fits (Table i) ts = triples_fit (bounded (Table i) ts)
tree_fits (Select e q) ts = tree_fits q ts && select_fits e (bounded q ts)
tree_fits (Project items q) ts = tree_fits q ts && project_fits items (bounded q ts)
tree_fits (Product a b) ts = tree_fits a ts && (tree_fits b ts && triples_fit (bounded (Product a b) ts))
tree_fits (Union a b) ts = tree_fits a ts && tree_fits b ts
tree_fits (Difference a b) ts = tree_fits a ts && (tree_fits b ts && difference_fits (bounded a ts) (bounded b ts))
tree_fits (Distinct q) ts = tree_fits q ts && group_fits All [] (bounded q ts)
tree_fits (Group keys aggs q) ts = tree_fits q ts && group_fits (Leading keys) aggs (bounded q ts)
tree_fits (Total aggs q) ts = tree_fits q ts && total_fits aggs (bounded q ts)
