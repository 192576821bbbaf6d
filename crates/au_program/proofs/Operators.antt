-- The plan of each operator on top of the plans of its parts gives the tree's relation, over whatever tables these stand.
use Rattle.std.specs.Prelude.{◌≡◌, ℕ, ◌+◌, Bool, IsTrue, List, ◌++◌, length, map, flat_map, Option, Some, None, is_some, ℤ}
use Rattle.std.proofs.Common.{arith, refl, sym, ◌∙◌, subst}
use Rattle.std.proofs.lemmas.Bool.{true≢false}
use Rattle.std.proofs.lemmas.List.{length-append, length-map}
use Rattle.au_value.specs.declared.kinds.Kind.{Kind}
use Rattle.au_value.specs.declared.kinds.Kind.TheVariants.{Flag}
use Rattle.au_expr.specs.Figures.{Fit}
use Rattle.au_expr.specs.Kinds.{kind_in}
use Rattle.au_expr.specs.Terms.{Term}
use Rattle.au_expr.proofs.Along.{is_kind_is}
use Rattle.au_expr.proofs.Fits.{fit_both, fit_parts}
use Rattle.au_algebra.specs.declared.query.Agg.{Agg}
use Rattle.au_algebra.specs.Bounded.{Bounded, combine}
use Rattle.au_algebra.specs.Fits.{difference_sums, triple_numbers}
use Rattle.au_algebra.specs.Laws.{IsRelation}
use Rattle.au_algebra.specs.Ordinary.{Rows}
use Rattle.au_algebra.specs.Trees.{Tree, Select, Project, Product, Union, Difference, Distinct, Group, Total}
use Rattle.au_algebra.specs.Typing.{IsTyped, agg_kind, all_kinds, kinds_of}
use Rattle.au_algebra.proofs.Items.{and_then_is, chosen_is, some_is}
use Rattle.au_plain.specs.PlanKinds.{FitTables}
use Rattle.au_plain.specs.Plans.{PlanTree}
use Rattle.au_encode.specs.Gives.{GivesRelation}
use Rattle.au_rwcore.specs.Gives.{Projects, Selects, Unites}
use Rattle.au_rwdiff.specs.Gives.{Subtracts}
use Rattle.au_rwgroup.specs.Gives.{Totals}
use Rattle.au_program.specs.Rules.{grouping_by, pair_numbers, pairs_by, tree_numbers, tree_rows}
use Rattle.au_program.specs.Stages.{GroupsBy}
use Rattle.au_program.specs.declared.rules.Rules.{Rules}
use Rattle.au_program.proofs.TreeKinds.{all_length, group_length, left_kinds, product_kinds, right_kinds}

-- ---- kinds

-- a typed tree has kinds
some_kinds : (o : Option (List Kind)) → IsTrue (is_some o) → (ks : List Kind) × (o ≡ Some ks)
some_kinds None h = absurd (true≢false (sym h))
some_kinds (Some ks) h = (ks, refl)

pub typed_kinds : (kinds : List (List Kind)) (q : Tree) → IsTyped kinds q → (ks : List Kind) × (kinds_of kinds q ≡ Some ks)
typed_kinds kinds q typed = some_kinds (kinds_of kinds q) typed

-- ---- numbers

-- a plan gives what it gives also where more numbers are to fit
pub more_numbers : (tk : List (List Kind)) (tables : List Rows) (p : PlanTree) (ks : List Kind) (rows : Bounded) (ms ns : List ℤ) → (Fit ns → Fit ms) → GivesRelation tk tables p ks rows ms → GivesRelation tk tables p ks rows ns
more_numbers tk tables p ks rows ms ns less g = record { typed = g.typed; relation = g.relation; encoded = g.encoded; fit = λ f. g.fit (less f) }

-- the numbers of a difference hold those of its plan, in which the combined triples stand twice
pub difference_fit : (ms ns cs ss ds : List ℤ) → Fit (ms ++ (ns ++ (cs ++ (ss ++ ds)))) → Fit ((ms ++ cs) ++ (ns ++ (cs ++ ss)))
difference_fit ms ns cs ss ds f =
    let a = fit_parts ms (ns ++ (cs ++ (ss ++ ds))) f in
    let b = fit_parts ns (cs ++ (ss ++ ds)) a.1 in
    let c = fit_parts cs (ss ++ ds) b.1 in
    let d = fit_parts ss ds c.1 in
    fit_both (ms ++ cs) (ns ++ (cs ++ ss)) (fit_both ms cs a.0 c.0) (fit_both ns (cs ++ ss) b.0 (fit_both cs ss c.0 d.0))

-- ---- what is known of a plan with its columns, its kinds, its relation and its numbers

-- it has as many columns
abbrev pub Counts : (PlanTree → ℕ → List Kind → Bounded → List ℤ → Type 0) → Type 0
Counts C = (p : PlanTree) (c : ℕ) (ks : List Kind) (rows : Bounded) (ns : List ℤ) → C p c ks rows ns → length ks ≡ c

-- it passes on to a plan over that one
abbrev pub One : (PlanTree → ℕ → List Kind → Bounded → List ℤ → Type 0) → Type 0
One C =
    (of made : PlanTree) (c d : ℕ) (ks js : List Kind) (rows out : Bounded) (ms ns : List ℤ) → length js ≡ d →
    ((tk : List (List Kind)) (tables : List Rows) → FitTables tables → GivesRelation tk tables of ks rows ms → GivesRelation tk tables made js out ns) →
    C of c ks rows ms → C made d js out ns

-- and to a plan over two
abbrev pub Two :
    (PlanTree → ℕ → List Kind → Bounded → List ℤ → Type 0) → (PlanTree → ℕ → List Kind → Bounded → List ℤ → Type 0) → (PlanTree → ℕ → List Kind → Bounded → List ℤ → Type 0) → Type 0
Two A B C =
    (left right made : PlanTree) (m n d : ℕ) (ks js hs : List Kind) (xs ys zs : Bounded) (ms ns os : List ℤ) → length hs ≡ d →
    ((tk : List (List Kind)) (tables : List Rows) → FitTables tables → GivesRelation tk tables left ks xs ms → GivesRelation tk tables right js ys ns → GivesRelation tk tables made hs zs os) →
    A left m ks xs ms → B right n js ys ns → C made d hs zs os

-- ---- plans of products and distinct rows by the rules that are asked for

abbrev pub MultipliesBy : Option ℕ → ℕ → ℕ → PlanTree → PlanTree → PlanTree → Type 0
MultipliesBy how m n left right made =
    (tk : List (List Kind)) (tables : List Rows) (ks js : List Kind) (xs ys : Bounded) (ms ns : List ℤ) → length ks ≡ m → length js ≡ n →
    GivesRelation tk tables left ks xs ms → GivesRelation tk tables right js ys ns → GivesRelation tk tables made (ks ++ js) (pairs_by how xs ys) (ms ++ (ns ++ pair_numbers how xs ys))

abbrev pub DistinctsBy : Bool → ℕ → PlanTree → PlanTree → Type 0
DistinctsBy points c of made =
    (tk : List (List Kind)) (tables : List Rows) (ks : List Kind) (rows : Bounded) (ns : List ℤ) → FitTables tables → length ks ≡ c →
    GivesRelation tk tables of ks rows ns → GivesRelation tk tables made ks ((grouping_by points).distinct_of rows) (ns ++ (grouping_by points).distinct_numbers rows)

-- ---- the plan of each operator

module _ (rules : Rules) (kinds : List (List Kind)) (here : List Bounded) where
  -- of the plan of a tree, where the tree is typed
  abbrev pub Part : (PlanTree → ℕ → List Kind → Bounded → List ℤ → Type 0) → Tree → PlanTree → ℕ → Type 0
  Part C q p c = (ks : List Kind) → kinds_of kinds q ≡ Some ks → C p c ks (tree_rows rules q here) (tree_numbers rules q here)

  module _ (C : PlanTree → ℕ → List Kind → Bounded → List ℤ → Type 0) (counts : Counts C) (one : One C) (q : Tree) (of made : PlanTree) (c d : ℕ) (part : Part C q of c) where
    pub select_part : (e : Term) → d ≡ c → Selects c e of made → Part C (Select e q) made d
    select_part e wide step ks typed =
        let p = and_then_is _ (kinds_of kinds q) ks typed in
        let s = chosen_is _ (Some p.0) ks p.2 in
        let g = part p.0 p.1 in
        let long = counts of c p.0 (tree_rows rules q here) (tree_numbers rules q here) g in
        subst (λ (js : List Kind). C made d js (tree_rows rules (Select e q) here) (tree_numbers rules (Select e q) here)) (some_is p.0 ks s.1)
        (one of made c d p.0 p.0 (tree_rows rules q here) (tree_rows rules (Select e q) here) (tree_numbers rules q here) (tree_numbers rules (Select e q) here) (long ∙ sym wide)
        (λ tk tables fits h. step tk tables p.0 (tree_rows rules q here) (tree_numbers rules q here) long (is_kind_is Flag (kind_in p.0 e) s.0) h) g)

    pub project_part : (items : List Term) → d ≡ length items → Projects c items of made → Part C (Project items q) made d
    project_part items wide step ks typed =
        let p = and_then_is _ (kinds_of kinds q) ks typed in
        let g = part p.0 p.1 in
        let long = counts of c p.0 (tree_rows rules q here) (tree_numbers rules q here) g in
        one of made c d p.0 ks (tree_rows rules q here) (tree_rows rules (Project items q) here) (tree_numbers rules q here) (tree_numbers rules (Project items q) here)
        (all_length (map (kind_in p.0) items) ks p.2 ∙ length-map items (kind_in p.0) ∙ sym wide)
        (λ tk tables fits h. step tk tables p.0 ks (tree_rows rules q here) (tree_numbers rules q here) long p.2 h) g

    pub distinct_part : d ≡ c → DistinctsBy rules.points c of made → Part C (Distinct q) made d
    distinct_part wide step ks typed =
        let g = part ks typed in
        let long = counts of c ks (tree_rows rules q here) (tree_numbers rules q here) g in
        one of made c d ks ks (tree_rows rules q here) (tree_rows rules (Distinct q) here) (tree_numbers rules q here) (tree_numbers rules (Distinct q) here) (long ∙ sym wide)
        (λ tk tables fits h. step tk tables ks (tree_rows rules q here) (tree_numbers rules q here) fits long h) g

    pub group_part : (keys : ℕ) (aggs : List Agg) → d ≡ keys + length aggs → GroupsBy rules.points c keys aggs of made → Part C (Group keys aggs q) made d
    group_part keys aggs wide step ks typed =
        let p = and_then_is _ (kinds_of kinds q) ks typed in
        let g = part p.0 p.1 in
        let long = counts of c p.0 (tree_rows rules q here) (tree_numbers rules q here) g in
        one of made c d p.0 ks (tree_rows rules q here) (tree_rows rules (Group keys aggs q) here) (tree_numbers rules q here) (tree_numbers rules (Group keys aggs q) here)
        (group_length keys aggs p.0 ks p.2 ∙ sym wide)
        (λ tk tables fits h. step tk tables p.0 ks (tree_rows rules q here) (tree_numbers rules q here) fits long p.2 h) g

    pub total_part : (aggs : List Agg) → d ≡ length aggs → Totals c aggs of made → Part C (Total aggs q) made d
    total_part aggs wide step ks typed =
        let p = and_then_is _ (kinds_of kinds q) ks typed in
        let g = part p.0 p.1 in
        let s = chosen_is _ (all_kinds (map (agg_kind p.0) aggs)) ks p.2 in
        let long = counts of c p.0 (tree_rows rules q here) (tree_numbers rules q here) g in
        one of made c d p.0 ks (tree_rows rules q here) (tree_rows rules (Total aggs q) here) (tree_numbers rules q here) (tree_numbers rules (Total aggs q) here)
        (all_length (map (agg_kind p.0) aggs) ks s.1 ∙ length-map aggs (agg_kind p.0) ∙ sym wide)
        (λ tk tables fits h. step tk tables p.0 ks (tree_rows rules q here) (tree_numbers rules q here) fits long p.2 h) g

  module _ (a b : Tree) where
    module _ (A B C : PlanTree → ℕ → List Kind → Bounded → List ℤ → Type 0) (left_counts : Counts A) (right_counts : Counts B) (two : Two A B C) (left right made : PlanTree) (m n d : ℕ) (of_right : Part B b right n) where
      pub union_part : Part A a left m → d ≡ m → Unites left right made → Part C (Union a b) made d
      union_part of_left wide step ks typed =
          let g = of_left ks (left_kinds kinds a b ks typed) in
          let h = of_right ks (right_kinds kinds a b ks typed) in
          two left right made m n d ks ks ks (tree_rows rules a here) (tree_rows rules b here) (tree_rows rules (Union a b) here) (tree_numbers rules a here) (tree_numbers rules b here) (tree_numbers rules (Union a b) here)
          (left_counts left m ks (tree_rows rules a here) (tree_numbers rules a here) g ∙ sym wide)
          (λ tk tables fits l r. step tk tables ks (tree_rows rules a here) (tree_rows rules b here) (tree_numbers rules a here) (tree_numbers rules b here) l r)
          g h

      -- over the combined rows of the left side
      pub difference_part :
          ((ks : List Kind) → kinds_of kinds a ≡ Some ks → A left m ks (combine (tree_rows rules a here)) (tree_numbers rules a here ++ triple_numbers (combine (tree_rows rules a here))) × IsRelation ks (tree_rows rules a here)) →
          d ≡ m → Subtracts m left right made → Part C (Difference a b) made d
      difference_part of_left wide step ks typed =
          let xs = tree_rows rules a here in
          let ys = tree_rows rules b here in
          let ms = tree_numbers rules a here in
          let ns = tree_numbers rules b here in
          let cs = triple_numbers (combine xs) in
          let ss = flat_map (difference_sums ys) (combine xs) in
          let g = of_left ks (left_kinds kinds a b ks typed) in
          let h = of_right ks (right_kinds kinds a b ks typed) in
          let long = left_counts left m ks (combine xs) (ms ++ cs) g.0 in
          two left right made m n d ks ks ks (combine xs) ys (tree_rows rules (Difference a b) here) (ms ++ cs) ns (tree_numbers rules (Difference a b) here) (long ∙ sym wide)
          (λ tk tables fits l r.
          more_numbers tk tables made ks (tree_rows rules (Difference a b) here) ((ms ++ cs) ++ (ns ++ (cs ++ ss))) (tree_numbers rules (Difference a b) here)
          (difference_fit ms ns cs ss (triple_numbers (tree_rows rules (Difference a b) here)))
          (step tk tables ks xs ys (ms ++ cs) ns fits long g.1 l r))
          g.0 h

    -- all pairs of two sides
    module _ (A B C : PlanTree → ℕ → List Kind → Bounded → List ℤ → Type 0) (left_counts : Counts A) (right_counts : Counts B) (two : Two A B C) where
      pub product_part : (left right made : PlanTree) (m n d : ℕ) → Part B b right n → Part A a left m → d ≡ m + n → MultipliesBy rules.compress m n left right made → Part C (Product a b) made d
      product_part left right made m n d of_right of_left wide step ks typed =
          let p = product_kinds kinds a b ks typed in
          let hs = p.0 in
          let js = p.1.0 in
          let xs = tree_rows rules a here in
          let ys = tree_rows rules b here in
          let ms = tree_numbers rules a here in
          let ns = tree_numbers rules b here in
          let g = of_left hs p.1.1.0 in
          let h = of_right js p.1.1.1.0 in
          let left_long = left_counts left m hs xs ms g in
          let right_long = right_counts right n js ys ns h in
          let long : length (hs ++ js) ≡ d = length-append hs js ∙ omega (arith, left_long, right_long, wide) in
          subst (λ (is : List Kind). C made d is (tree_rows rules (Product a b) here) (tree_numbers rules (Product a b) here)) p.1.1.1.1
          (two left right made m n d hs js (hs ++ js) xs ys (tree_rows rules (Product a b) here) ms ns (tree_numbers rules (Product a b) here) long
          (λ tk tables fits l r. step tk tables hs js xs ys ms ns left_long right_long l r)
          g h)
