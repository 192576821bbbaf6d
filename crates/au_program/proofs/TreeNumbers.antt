-- The numbers of a tree hold those of its parts.
use Rattle.std.specs.Prelude.{ℕ, List, ◌++◌, flat_map, ℤ}
use Rattle.au_expr.specs.Figures.{Fit}
use Rattle.au_expr.specs.Numbers.{expr_numbers}
use Rattle.au_expr.specs.Terms.{Term}
use Rattle.au_expr.proofs.Fits.{fit_both, fit_parts}
use Rattle.au_algebra.specs.declared.query.Agg.{Agg}
use Rattle.au_algebra.specs.Bounded.{Bounded, all_rows, combine, difference, select}
use Rattle.au_algebra.specs.Fits.{agg_numbers, difference_sums, triple_numbers}
use Rattle.au_algebra.specs.Trees.{Tree, Select, Project, Product, Union, Difference, Distinct, Group, Total}
use Rattle.au_program.specs.Rules.{grouping_by, pair_numbers, tree_numbers, tree_rows}
use Rattle.au_program.specs.declared.rules.Rules.{Rules}

module _ (rules : Rules) (here : List Bounded) where
  abbrev rows : Tree → Bounded
  rows q = tree_rows rules q here

  abbrev numbers : Tree → List ℤ
  numbers q = tree_numbers rules q here

  pub of_select : (e : Term) (q : Tree) → Fit (numbers (Select e q)) → Fit (numbers q)
  of_select e q f = (fit_parts (numbers q) (flat_map (λ r. expr_numbers e r.cells) (rows q) ++ triple_numbers (select e (rows q))) f).0

  pub of_project : (items : List Term) (q : Tree) → Fit (numbers (Project items q)) → Fit (numbers q)
  of_project items q f = (fit_parts (numbers q) (flat_map (λ r. flat_map (λ e. expr_numbers e r.cells) items) (rows q)) f).0

  pub of_distinct : (q : Tree) → Fit (numbers (Distinct q)) → Fit (numbers q)
  of_distinct q f = (fit_parts (numbers q) ((grouping_by rules.points).distinct_numbers (rows q)) f).0

  pub of_group : (keys : ℕ) (aggs : List Agg) (q : Tree) → Fit (numbers (Group keys aggs q)) → Fit (numbers q)
  of_group keys aggs q f = (fit_parts (numbers q) ((grouping_by rules.points).groups_numbers keys aggs (rows q)) f).0

  pub of_total : (aggs : List Agg) (q : Tree) → Fit (numbers (Total aggs q)) → Fit (numbers q)
  of_total aggs q f = (fit_parts (numbers q) (flat_map (agg_numbers (all_rows (rows q))) aggs) f).0

  module _ (a b : Tree) where
    pub of_product : Fit (numbers (Product a b)) → Fit (numbers a) × Fit (numbers b)
    of_product f =
        let own = pair_numbers rules.compress (rows a) (rows b) in
        let p = fit_parts (numbers a) (numbers b ++ own) f in
        (p.0, (fit_parts (numbers b) own p.1).0)

    pub of_union : Fit (numbers (Union a b)) → Fit (numbers a) × Fit (numbers b)
    of_union f = fit_parts (numbers a) (numbers b) f

    -- those of the left side with its combined rows, and of the right side
    pub of_difference : Fit (numbers (Difference a b)) → Fit (numbers a ++ triple_numbers (combine (rows a))) × Fit (numbers b)
    of_difference f =
        let combined = triple_numbers (combine (rows a)) in
        let rest = flat_map (difference_sums (rows b)) (combine (rows a)) ++ triple_numbers (difference (rows a) (rows b)) in
        let p = fit_parts (numbers a) (numbers b ++ (combined ++ rest)) f in
        let q = fit_parts (numbers b) (combined ++ rest) p.1 in
        (fit_both (numbers a) combined p.0 (fit_parts combined rest q.1).0, q.0)
