-- The plan of each operator on top of the plans of its parts gives the tree's relation, over tables behind others.
use Rattle.std.specs.Prelude.{◌≡◌, ℕ, ◌+◌, List, [], ◌++◌, length, map, Some, is_some, option_map, slice_get, unwrap_or}
use Rattle.std.proofs.Common.{sym, ◌∙◌, ap, subst}
use Rattle.std.proofs.lemmas.Option.{slice_get-map}
use Rattle.au_value.specs.declared.kinds.Kind.{Kind}
use Rattle.au_expr.specs.Figures.{Fit}
use Rattle.au_expr.specs.Terms.{Term}
use Rattle.au_expr.proofs.Fits.{fit_parts}
use Rattle.au_algebra.specs.declared.query.Agg.{Agg}
use Rattle.au_algebra.specs.Bounded.{Bounded}
use Rattle.au_algebra.specs.Ordinary.{Rows}
use Rattle.au_algebra.specs.Trees.{Tree, Table, Select, Project, Product, Union, Difference, Distinct, Group, Total}
use Rattle.au_algebra.specs.Typing.{IsTyped, kinds_of}
use Rattle.au_algebra.proofs.Items.{some_is}
use Rattle.au_blocks.specs.Tables.{BlockTable, column_kinds}
use Rattle.au_translate.specs.Translate.{bounded_table}
use Rattle.au_plain.specs.Plans.{PlanTree}
use Rattle.au_rwcore.specs.Gives.{Projects, Selects, Unites}
use Rattle.au_rwdiff.specs.Gives.{Subtracts}
use Rattle.au_rwgroup.specs.Gives.{Totals}
use Rattle.au_plan.proofs.Implementing.{before}
use Rattle.au_program.specs.Rules.{pair_numbers, pairs_by, tree_numbers, tree_rows}
use Rattle.au_program.specs.declared.rules.Rules.{Rules}
use Rattle.au_program.specs.Programs.{AddsCombined}
use Rattle.au_program.specs.Stages.{Adds, AddsTable, AddsTree, CanRunPlan, GroupsBy, LeavesMultiplied, MultipliesCompressed}
use Rattle.au_program.proofs.Operators.{Counts, DistinctsBy, MultipliesBy, One, Two, difference_part, distinct_part, group_part, product_part, project_part, select_part, total_part, typed_kinds, union_part}
use Rattle.au_program.proofs.StageSteps.{more_adds, one_adds, two_adds}
use Rattle.au_program.proofs.TreeKinds.{product_kinds}

-- what is known of plans over tables behind others
counts_adds : (old new : List Rows) → Counts (Adds old new)
counts_adds old new p c ks rows ns a = a.columns

one_more : (old new : List Rows) → One (Adds old new)
one_more old new of made c d ks js rows out ms ns long step a = one_adds old new of made c d ks js rows out ms ns long step a

two_more : (old mid new : List Rows) → Two (Adds old mid) (Adds mid new) (Adds old new)
two_more old mid new left right made m n d ks js hs xs ys zs ms ns os long step a b = two_adds left right made ks js hs xs ys zs ms ns os step old mid new m d n long a b

-- ---- the plan of each operator

module _ (rules : Rules) (ts : List BlockTable) where
  abbrev here : List Bounded
  here = map bounded_table ts

  abbrev kinds : List (List Kind)
  kinds = map column_kinds ts

  -- a table
  pub table_adds : (i : ℕ) (t : BlockTable) (old new : List Rows) (p : PlanTree) (c : ℕ) → slice_get ts i ≡ Some t → AddsTable t old new p c → AddsTree rules ts (Table i) old new p c
  table_adds i t old new p c there table ks typed =
      let kind : column_kinds t ≡ ks = some_is (column_kinds t) ks (sym (slice_get-map column_kinds ts i ∙ ap (option_map column_kinds) there) ∙ typed) in
      let rows : bounded_table t ≡ tree_rows rules (Table i) here = sym (ap (λ o. unwrap_or o []) (slice_get-map bounded_table ts i ∙ ap (option_map bounded_table) there)) in
      subst (λ js. Adds old new p c js (tree_rows rules (Table i) here) (tree_numbers rules (Table i) here)) kind
      (subst (λ r. Adds old new p c (column_kinds t) r (tree_numbers rules (Table i) here)) rows (table (tree_numbers rules (Table i) here)))

  -- a plan that gives a tree's relation over all its tables can be run
  pub tree_runs : (q : Tree) (held : List Rows) (p : PlanTree) (c : ℕ) → IsTyped kinds q → AddsTree rules ts q [] held p c → CanRunPlan held p c
  tree_runs q held p c typed part = let k = typed_kinds kinds q typed in (k.0, (tree_rows rules q here, (tree_numbers rules q here, part k.0 k.1)))

  module _ (q : Tree) (old new : List Rows) (of made : PlanTree) (c d : ℕ) (part : AddsTree rules ts q old new of c) where
    pub select_adds : (e : Term) → d ≡ c → Selects c e of made → AddsTree rules ts (Select e q) old new made d
    select_adds e wide step = select_part rules kinds here (Adds old new) (counts_adds old new) (one_more old new) q of made c d part e wide step

    pub project_adds : (items : List Term) → d ≡ length items → Projects c items of made → AddsTree rules ts (Project items q) old new made d
    project_adds items wide step = project_part rules kinds here (Adds old new) (counts_adds old new) (one_more old new) q of made c d part items wide step

    pub distinct_adds : d ≡ c → DistinctsBy rules.points c of made → AddsTree rules ts (Distinct q) old new made d
    distinct_adds wide step = distinct_part rules kinds here (Adds old new) (counts_adds old new) (one_more old new) q of made c d part wide step

    pub group_adds : (keys : ℕ) (aggs : List Agg) → d ≡ keys + length aggs → GroupsBy rules.points c keys aggs of made → AddsTree rules ts (Group keys aggs q) old new made d
    group_adds keys aggs wide step = group_part rules kinds here (Adds old new) (counts_adds old new) (one_more old new) q of made c d part keys aggs wide step

    pub total_adds : (aggs : List Agg) → d ≡ length aggs → Totals c aggs of made → AddsTree rules ts (Total aggs q) old new made d
    total_adds aggs wide step = total_part rules kinds here (Adds old new) (counts_adds old new) (one_more old new) q of made c d part aggs wide step

  module _ (a b : Tree) (old mid new : List Rows) (left right made : PlanTree) (m n d : ℕ) (of_right : AddsTree rules ts b mid new right n) where
    pub union_adds : AddsTree rules ts a old mid left m → d ≡ m → Unites left right made → AddsTree rules ts (Union a b) old new made d
    union_adds of_left wide step =
        union_part rules kinds here a b (Adds old mid) (Adds mid new) (Adds old new) (counts_adds old mid) (counts_adds mid new) (two_more old mid new) left right made m n d of_right of_left wide step

    -- where the left side's plan gives its combined relation
    pub difference_adds : AddsCombined rules ts a old mid left m → d ≡ m → Subtracts m left right made → AddsTree rules ts (Difference a b) old new made d
    difference_adds of_left wide step =
        difference_part rules kinds here a b (Adds old mid) (Adds mid new) (Adds old new) (counts_adds old mid) (counts_adds mid new) (two_more old mid new) left right made m n d of_right
        of_left wide step

  -- all pairs of two sides
  pub product_adds :
      (a b : Tree) (old mid new : List Rows) (left right made : PlanTree) (m n d : ℕ) →
      AddsTree rules ts b mid new right n → AddsTree rules ts a old mid left m → d ≡ m + n → MultipliesBy rules.compress m n left right made → AddsTree rules ts (Product a b) old new made d
  product_adds a b old mid new left right made m n d of_right of_left wide step =
      product_part rules kinds here a b (Adds old mid) (Adds mid new) (Adds old new) (counts_adds old mid) (counts_adds mid new) (two_more old mid new)
      left right made m n d of_right of_left wide step

-- the compressed pairs of two sides, each with tables of its own
module _ (rules : Rules) (k : ℕ) (is : rules.compress ≡ Some k) (ts : List BlockTable) (a b : Tree) (lefts rights : List Rows) (left right : PlanTree) (m n : ℕ) (of_left : AddsTree rules ts a [] lefts left m) (of_right : AddsTree rules ts b [] rights right n) where
  abbrev at : List Bounded
  at = map bounded_table ts

  abbrev both : List (List Kind)
  both = map column_kinds ts

  pub compressed_adds :
      (old new : List Rows) (made : PlanTree) (d : ℕ) → MultipliesCompressed k lefts left m rights right n old new made d → AddsTree rules ts (Product a b) old new made d
  compressed_adds old new made d step ks typed =
      let p = product_kinds both a b ks typed in
      let xs = tree_rows rules a at in
      let ys = tree_rows rules b at in
      let ms = tree_numbers rules a at in
      let ns = tree_numbers rules b at in
      subst (λ (is : List Kind). Adds old new made d is (tree_rows rules (Product a b) at) (tree_numbers rules (Product a b) at)) p.1.1.1.1
      (more_adds old new made d (p.0 ++ p.1.0) (tree_rows rules (Product a b) at) (pair_numbers rules.compress xs ys) (tree_numbers rules (Product a b) at)
      (λ f. (fit_parts ns (pair_numbers rules.compress xs ys) (fit_parts ms (ns ++ pair_numbers rules.compress xs ys) f).1).1)
      (subst (λ how. Adds old new made d (p.0 ++ p.1.0) (pairs_by how xs ys) (pair_numbers how xs ys)) (sym is)
      (step p.0 p.1.0 xs ys ms ns (of_left p.0 p.1.1.0) (of_right p.1.0 p.1.1.1.0))))

  pub compressed_leaves : IsTyped both (Product a b) → LeavesMultiplied k lefts left m rights right n → ¬ (Fit (tree_numbers rules (Product a b) at))
  compressed_leaves typed leaves =
      let t = typed_kinds both (Product a b) typed in
      let p = product_kinds both a b t.0 t.1 in
      let xs = tree_rows rules a at in
      let ys = tree_rows rules b at in
      let ms = tree_numbers rules a at in
      let ns = tree_numbers rules b at in
      subst (λ how. ¬ (Fit (ms ++ (ns ++ pair_numbers how xs ys)))) (sym is)
      (leaves p.0 p.1.0 xs ys ms ns (of_left p.0 p.1.1.0) (of_right p.1.0 p.1.1.1.0))

-- what is grouped, and the sides of a product, are typed
pub grouped_typed : (kinds : List (List Kind)) (keys : ℕ) (aggs : List Agg) (q : Tree) → IsTyped kinds (Group keys aggs q) → IsTyped kinds q
grouped_typed kinds keys aggs q h = before _ (kinds_of kinds q) h

pub first_typed : (kinds : List (List Kind)) (a b : Tree) → IsTyped kinds (Product a b) → IsTyped kinds a
first_typed kinds a b h = before _ (kinds_of kinds a) h

pub second_typed : (kinds : List (List Kind)) (a b : Tree) → IsTyped kinds (Product a b) → IsTyped kinds b
second_typed kinds a b typed =
    let t = typed_kinds kinds (Product a b) typed in
    let p = product_kinds kinds a b t.0 t.1 in
    ap is_some p.1.1.1.0
