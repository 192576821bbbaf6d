-- The plan of each operator over rows with counts gives the rows of its tree.
use Rattle.std.specs.Prelude.{◌≡◌, ◌⊎◌, ℕ, zero, suc, ◌+◌, Bool, false, ◌&&◌, IsTrue, List, [], ◌∷◌, ◌++◌, length, map, Some, ℤ, unwrap_or, slice_get, option_map}
use Rattle.std.specs.List.{AllZip}
use Rattle.std.proofs.Common.{arith, refl, sym, ◌∙◌, ap, subst, inl, inr}
use Rattle.std.proofs.lemmas.Bool.{and_parts}
use Rattle.std.proofs.lemmas.List.{length-append, length-map}
use Rattle.std.proofs.lemmas.Option.{slice_get-map}
use Rattle.au_value.specs.declared.kinds.Kind.{Kind}
use Rattle.au_value.specs.declared.kinds.Kind.TheVariants.{Flag}
use Rattle.au_expr.specs.Kinds.{kind_in}
use Rattle.au_expr.specs.Terms.{Term}
use Rattle.au_expr.proofs.Along.{is_kind_is}
use Rattle.au_algebra.specs.declared.query.Agg.{Agg}
use Rattle.au_algebra.specs.Ordinary.{Rows}
use Rattle.au_algebra.specs.Positive.{is_positive}
use Rattle.au_algebra.specs.Trees.{Tree, Table, Select, Project, Product, Union, Difference, Distinct, Group, Total}
use Rattle.au_algebra.specs.Typing.{agg_kind, all_kinds, kinds_of}
use Rattle.au_algebra.proofs.Items.{and_then_is, chosen_is, some_is}
use Rattle.au_plain.specs.PlanNumbers.{plan_numbers}
use Rattle.au_plain.specs.Plans.{PlanTree}
use Rattle.au_rwcounted.specs.Answers.{counted_answer}
use Rattle.au_rwcounted.specs.CountedRows.{AreCountsRows, CountsRow, counts_kinds, counts_rows}
use Rattle.au_rwcounted.specs.Gives.{Distincts, GivesCounts, Groups, Multiplies, Projects, Scans, Selects, Subtracts, Totals, Unites}
use Rattle.au_program.specs.CountedPlans.{GivesCounted, GivesRows, GivesTables}
use Rattle.au_program.proofs.TreeKinds.{all_length, group_length, left_kinds, product_kinds, right_kinds}

-- ---- rows, with whatever numbers the plan makes

module _ (k : ℕ) (tk : List (List Kind)) (tables : List Rows) (p : PlanTree) (ks : List Kind) (rows : List CountsRow) where
  numbered : GivesRows k tk tables p ks rows → GivesCounts k tk tables p ks rows (plan_numbers p tables)
  numbered g = record { typed = g.typed; relation = g.relation; counted = g.counted; fit = λ f. f }

  plainly : (ns : List ℤ) → GivesCounts k tk tables p ks rows ns → GivesRows k tk tables p ks rows
  plainly ns g = record { typed = g.typed; relation = g.relation; counted = g.counted }

-- ---- what is at a place of a list that goes along with another

zip_at : {A B : Type 0} (R : A → List B → Type 0) (xs : List A) (ys : List (List B)) (i : ℕ) (x : A) → AllZip R xs ys → slice_get xs i ≡ Some x
    → (slice_get ys i ≡ Some (unwrap_or (slice_get ys i) [])) × R x (unwrap_or (slice_get ys i) [])
zip_at R [] [] i x z h = cc
zip_at R [] (y ∷ ys) i x z h = elim z [ ]
zip_at R (a ∷ xs) [] i x z h = elim z [ ]
zip_at R (a ∷ xs) (y ∷ ys) zero x z h = (refl, subst (λ b. R b y) (some_is a x h) z.0)
zip_at R (a ∷ xs) (y ∷ ys) (suc i) x z h = zip_at R xs ys i x z.1 h

-- ---- counts that go with a tree

-- those of both sides
left_counts : (k : ℕ) (a b : Bool) → (k ≡ 1) ⊎ IsTrue (a && b) → (k ≡ 1) ⊎ IsTrue a
left_counts k a b h = elim h [ inl e ↦ inl e | inr e ↦ inr (and_parts a b e).0 ]

right_counts : (k : ℕ) (a b : Bool) → (k ≡ 1) ⊎ IsTrue (a && b) → (k ≡ 1) ⊎ IsTrue b
right_counts k a b h = elim h [ inl e ↦ inl e | inr e ↦ inr (and_parts a b e).1 ]

never : {A : Type 0} → IsTrue false → A
never h = cc

only_one : (k : ℕ) → (k ≡ 1) ⊎ IsTrue false → k ≡ 1
only_one k h = elim h [ inl e ↦ e | inr e ↦ never e ]

-- ---- a table

module _ (k : ℕ) (kinds : List (List Kind)) where
  pub scan_counts : (i c : ℕ) (own : List Kind) (p : PlanTree) → slice_get kinds i ≡ Some own → length own ≡ c → Scans k c i p → (d : ℕ) → d ≡ c → GivesCounted k kinds (Table i) p d
  scan_counts i c own p there long step d wide may ts ks ok fits typed =
      let same : own ≡ ks = some_is own ks (sym there ∙ typed) in
      let known : length ks ≡ c = sym (ap length same) ∙ long in
      let rows = unwrap_or (slice_get ts i) [] in
      let at = zip_at (AreCountsRows k) kinds ts i ks ok typed in
      let tk = map (counts_kinds k) kinds in
      let tables = map counts_rows ts in
      let kind : slice_get tk i ≡ Some (counts_kinds k ks) = slice_get-map (counts_kinds k) kinds i ∙ ap (option_map (counts_kinds k)) typed in
      let held : slice_get tables i ≡ Some (counts_rows rows) = slice_get-map counts_rows ts i ∙ ap (option_map counts_rows) at.0 in
      (known ∙ sym wide, plainly k tk tables p ks rows [] (step tk tables ks rows known kind held at.1))

  -- ---- one input

  module _ (q : Tree) (of made : PlanTree) (c d : ℕ) (part : GivesCounted k kinds q of c) where
    pub select_counts : (e : Term) → d ≡ c → Selects k c e of made → GivesCounted k kinds (Select e q) made d
    select_counts e wide step may ts ks ok fits typed =
        let tk = map (counts_kinds k) kinds in
        let tables = map counts_rows ts in
        let rows = counted_answer q ts in
        let p = and_then_is _ (kinds_of kinds q) ks typed in
        let s = chosen_is _ (Some p.0) ks p.2 in
        let g = part may ts p.0 ok fits p.1 in
        subst (λ (js : List Kind). (length js ≡ d) × GivesRows k tk tables made js (counted_answer (Select e q) ts)) (some_is p.0 ks s.1) (
          g.0 ∙ sym wide,
          plainly k tk tables made p.0 (counted_answer (Select e q) ts) _
              (step tk tables p.0 rows (plan_numbers of tables) g.0 (is_kind_is Flag (kind_in p.0 e) s.0) (numbered k tk tables of p.0 rows g.1)),
        )

    pub project_counts : (items : List Term) → d ≡ length items → Projects k c items of made → GivesCounted k kinds (Project items q) made d
    project_counts items wide step may ts ks ok fits typed =
        let tk = map (counts_kinds k) kinds in
        let tables = map counts_rows ts in
        let rows = counted_answer q ts in
        let p = and_then_is _ (kinds_of kinds q) ks typed in
        let g = part may ts p.0 ok fits p.1 in (
          all_length (map (kind_in p.0) items) ks p.2 ∙ length-map items (kind_in p.0) ∙ sym wide,
          plainly k tk tables made ks (counted_answer (Project items q) ts) _
              (step tk tables p.0 ks rows (plan_numbers of tables) g.0 p.2 (numbered k tk tables of p.0 rows g.1)),
        )

  -- ---- two inputs

  module _ (a b : Tree) (left right made : PlanTree) (m n d : ℕ) (of_left : GivesCounted k kinds a left m) (of_right : GivesCounted k kinds b right n) where
    pub product_counts : d ≡ m + n → Multiplies k m n left right made → GivesCounted k kinds (Product a b) made d
    product_counts wide step may ts ks ok fits typed =
        let tk = map (counts_kinds k) kinds in
        let tables = map counts_rows ts in
        let xs = counted_answer a ts in
        let ys = counted_answer b ts in
        let p = product_kinds kinds a b ks typed in
        let g = of_left (left_counts k (is_positive a) (is_positive b) may) ts p.0 ok fits p.1.1.0 in
        let h = of_right (right_counts k (is_positive a) (is_positive b) may) ts p.1.0 ok fits p.1.1.1.0 in
        subst (λ (js : List Kind). (length js ≡ d) × GivesRows k tk tables made js (counted_answer (Product a b) ts)) p.1.1.1.1 (
          length-append p.0 p.1.0 ∙ (let l = g.0 in let r = h.0 in omega (arith, l, r, wide)),
          plainly k tk tables made (p.0 ++ p.1.0) (counted_answer (Product a b) ts) _
              (step tk tables p.0 p.1.0 xs ys (plan_numbers left tables) (plan_numbers right tables) g.0 h.0 (numbered k tk tables left p.0 xs g.1) (numbered k tk tables right p.1.0 ys h.1)),
        )

    pub union_counts : d ≡ m → Unites k left right made → GivesCounted k kinds (Union a b) made d
    union_counts wide step may ts ks ok fits typed =
        let tk = map (counts_kinds k) kinds in
        let tables = map counts_rows ts in
        let xs = counted_answer a ts in
        let ys = counted_answer b ts in
        let g = of_left (left_counts k (is_positive a) (is_positive b) may) ts ks ok fits (left_kinds kinds a b ks typed) in
        let h = of_right (right_counts k (is_positive a) (is_positive b) may) ts ks ok fits (right_kinds kinds a b ks typed) in (
          g.0 ∙ sym wide,
          plainly k tk tables made ks (counted_answer (Union a b) ts) _
              (step tk tables ks xs ys (plan_numbers left tables) (plan_numbers right tables) (numbered k tk tables left ks xs g.1) (numbered k tk tables right ks ys h.1)),
        )

-- ---- one count

module _ (kinds : List (List Kind)) where
  abbrev tk : List (List Kind)
  tk = map (counts_kinds 1) kinds

  module _ (q : Tree) (of made : PlanTree) (c d : ℕ) (part : GivesTables 1 kinds q of c) where
    one_distinct : d ≡ c → Distincts c of made → GivesTables 1 kinds (Distinct q) made d
    one_distinct wide step ts ks ok fits typed =
        let tables = map counts_rows ts in
        let rows = counted_answer q ts in
        let g = part ts ks ok fits typed in (
          g.0 ∙ sym wide,
          plainly 1 tk tables made ks (counted_answer (Distinct q) ts) _
              (step tk tables ks rows (plan_numbers of tables) fits g.0 (numbered 1 tk tables of ks rows g.1)),
        )

    one_group : (keys : ℕ) (aggs : List Agg) → d ≡ keys + length aggs → Groups c keys aggs of made → GivesTables 1 kinds (Group keys aggs q) made d
    one_group keys aggs wide step ts ks ok fits typed =
        let tables = map counts_rows ts in
        let rows = counted_answer q ts in
        let p = and_then_is _ (kinds_of kinds q) ks typed in
        let g = part ts p.0 ok fits p.1 in (
          group_length keys aggs p.0 ks p.2 ∙ sym wide,
          plainly 1 tk tables made ks (counted_answer (Group keys aggs q) ts) _
              (step tk tables p.0 ks rows (plan_numbers of tables) fits g.0 p.2 (numbered 1 tk tables of p.0 rows g.1)),
        )

    one_total : (aggs : List Agg) → d ≡ length aggs → Totals c aggs of made → GivesTables 1 kinds (Total aggs q) made d
    one_total aggs wide step ts ks ok fits typed =
        let tables = map counts_rows ts in
        let rows = counted_answer q ts in
        let p = and_then_is _ (kinds_of kinds q) ks typed in
        let s = chosen_is _ (all_kinds (map (agg_kind p.0) aggs)) ks p.2 in
        let g = part ts p.0 ok fits p.1 in (
          all_length (map (agg_kind p.0) aggs) ks s.1 ∙ length-map aggs (agg_kind p.0) ∙ sym wide,
          plainly 1 tk tables made ks (counted_answer (Total aggs q) ts) _
              (step tk tables p.0 ks rows (plan_numbers of tables) fits g.0 p.2 (numbered 1 tk tables of p.0 rows g.1)),
        )

  module _ (a b : Tree) (left right made : PlanTree) (m n d : ℕ) (of_left : GivesTables 1 kinds a left m) (of_right : GivesTables 1 kinds b right n) where
    one_difference : d ≡ m → Subtracts m left right made → GivesTables 1 kinds (Difference a b) made d
    one_difference wide step ts ks ok fits typed =
        let tables = map counts_rows ts in
        let xs = counted_answer a ts in
        let ys = counted_answer b ts in
        let g = of_left ts ks ok fits (left_kinds kinds a b ks typed) in
        let h = of_right ts ks ok fits (right_kinds kinds a b ks typed) in (
          g.0 ∙ sym wide,
          plainly 1 tk tables made ks (counted_answer (Difference a b) ts) _
              (step tk tables ks xs ys (plan_numbers left tables) (plan_numbers right tables) g.0 (numbered 1 tk tables left ks xs g.1) (numbered 1 tk tables right ks ys h.1)),
        )

-- where the operator goes with one count alone, there is one
module _ (k : ℕ) (kinds : List (List Kind)) where
  at_one : (q : Tree) (p : PlanTree) (c : ℕ) → k ≡ 1 → GivesCounted k kinds q p c → GivesTables 1 kinds q p c
  at_one q p c one part = subst (λ n. GivesTables n kinds q p c) one (part (inl one))

  back : (q : Tree) (p : PlanTree) (c : ℕ) → k ≡ 1 → GivesTables 1 kinds q p c → GivesTables k kinds q p c
  back q p c one g = subst (λ n. GivesTables n kinds q p c) (sym one) g

  module _ (q : Tree) (of made : PlanTree) (c d : ℕ) (part : GivesCounted k kinds q of c) where
    pub distinct_counts : d ≡ c → Distincts c of made → GivesCounted k kinds (Distinct q) made d
    distinct_counts wide step may =
        let one = only_one k may in
        back (Distinct q) made d one (one_distinct kinds q of made c d (at_one q of c one part) wide step)

    pub group_counts : (keys : ℕ) (aggs : List Agg) → d ≡ keys + length aggs → Groups c keys aggs of made → GivesCounted k kinds (Group keys aggs q) made d
    group_counts keys aggs wide step may =
        let one = only_one k may in
        back (Group keys aggs q) made d one (one_group kinds q of made c d (at_one q of c one part) keys aggs wide step)

    pub total_counts : (aggs : List Agg) → d ≡ length aggs → Totals c aggs of made → GivesCounted k kinds (Total aggs q) made d
    total_counts aggs wide step may =
        let one = only_one k may in
        back (Total aggs q) made d one (one_total kinds q of made c d (at_one q of c one part) aggs wide step)

  module _ (a b : Tree) (left right made : PlanTree) (m n d : ℕ) (of_left : GivesCounted k kinds a left m) (of_right : GivesCounted k kinds b right n) where
    pub difference_counts : d ≡ m → Subtracts m left right made → GivesCounted k kinds (Difference a b) made d
    difference_counts wide step may =
        let one = only_one k may in
        back (Difference a b) made d one (one_difference kinds a b left right made m n d (at_one a left m one of_left) (at_one b right n one of_right) wide step)
