-- The plan of each operator on top of the plans of its parts gives the tree's relation, over encoded tables.
use Rattle.std.specs.Prelude.{◌≡◌, ℕ, ◌+◌, ◌*◌, ◌==◌, List, [], ◌∷◌, ◌++◌, length, map, None, Option, Some, ◌<◌, option_and_then, option_map, slice_get, unwrap_or, ℤ}
use Rattle.std.specs.List.{AllZip}
use Rattle.std.proofs.Common.{refl, sym, ◌∙◌, ap, subst, get_or}
use Rattle.std.proofs.lemmas.Option.{slice_get-map, slice_get_read}
use Rattle.au_value.specs.declared.kinds.Kind.{Kind}
use Rattle.au_expr.specs.Figures.{Fit}
use Rattle.au_expr.specs.Terms.{Term}
use Rattle.au_algebra.specs.declared.query.Agg.{Agg}
use Rattle.au_algebra.specs.Bounded.{Bounded, combine}
use Rattle.au_algebra.specs.Fits.{triple_numbers}
use Rattle.au_algebra.specs.Laws.{IsRelation}
use Rattle.au_algebra.specs.Lists.{copies}
use Rattle.au_algebra.specs.Trees.{Tree, Table, Select, Project, Product, Union, Difference, Distinct, Group, Total}
use Rattle.au_algebra.specs.Typing.{IsTyped, kinds_if, kinds_of}
use Rattle.au_algebra.proofs.Items.{some_is}
use Rattle.au_algebra.proofs.TreeRelation.{tree_relation}
use Rattle.au_plain.specs.PlanKinds.{FitTables, HaveKinds, plan_kinds}
use Rattle.au_plain.specs.Plans.{PlanTree, Scan}
use Rattle.au_encode.specs.Encode.{encode, encoded_kinds}
use Rattle.au_encode.specs.Gives.{GivesRelation}
use Rattle.au_encode.proofs.EncodedKinds.{rows_have_kinds}
use Rattle.au_split.specs.Reorders.{Reorders}
use Rattle.au_rwexpr.proofs.Filled.{wide_enough}
use Rattle.au_rwcore.specs.Gives.{Multiplies, Projects, Selects, Unites}
use Rattle.au_combine.specs.Gives.{Combines}
use Rattle.au_rwdiff.specs.Gives.{Subtracts}
use Rattle.au_rwgroup.specs.Gives.{Distincts, Groups, Totals}
use Rattle.au_typing.specs.declared.schema.Schema.{Schema}
use Rattle.au_typing.specs.Queries.{data_kinds, relations, table_kinds}
use Rattle.au_program.specs.Rules.{plain_rules, tree_numbers, tree_rows}
use Rattle.au_program.specs.Rewriting.{AreEncodable, GivesTree, IsPlanOf}
use Rattle.au_program.proofs.PlainRules.{plain_numbers_are, plain_rows_are}
use Rattle.au_program.proofs.Operators.{Counts, One, Two, difference_part, distinct_part, group_part, product_part, project_part, select_part, total_part, typed_kinds, union_part}

-- the kinds of the schema at a place
pub schema_at : (schemas : List Schema) (i : ℕ) (s : Schema) → i < length schemas → s ≡ get_or schemas i s → slice_get (table_kinds (relations schemas)) i ≡ Some (data_kinds s.columns.items)
schema_at schemas i s within is =
    slice_get-map (λ table. data_kinds table.columns) (relations schemas) i
    ∙ ap (option_map (λ table. data_kinds table.columns)) (slice_get-map _ schemas i ∙ ap (option_map _) (slice_get_read schemas (length schemas) i s refl within is))

module _ (kinds : List (List Kind)) (ts : List Bounded) (ok : AreEncodable kinds ts) where
  -- what a plan gives over the encoded tables
  abbrev pub Knows : PlanTree → ℕ → List Kind → Bounded → List ℤ → Type 0
  Knows p c ks rows ns = (length ks ≡ c) × GivesRelation (map encoded_kinds kinds) (map encode ts) p ks rows ns

  pub counts_known : Counts Knows
  counts_known p c ks rows ns k = k.0

  pub one_known : One Knows
  one_known of made c d ks js rows out ms ns long step k = (long, step (map encoded_kinds kinds) (map encode ts) ok.fit k.1)

  pub two_known : Two Knows Knows Knows
  two_known left right made m n d ks js hs xs ys zs ms ns os long step k l = (long, step (map encoded_kinds kinds) (map encode ts) ok.fit k.1 l.1)

-- the encoded rows of a table
scanned : (o : Option Bounded) → unwrap_or (option_map encode o) [] ≡ encode (unwrap_or o [])
scanned None = refl
scanned (Some rows) = refl

module _ (kinds : List (List Kind)) where
  pub scan_whole : (i c : ℕ) (own : List Kind) (p : PlanTree) → slice_get kinds i ≡ Some own → length own ≡ c → p ≡ Scan i (3 * c + 3) → (d : ℕ) → d ≡ c → GivesTree kinds (Table i) p d
  scan_whole i c own p there long is d wide ts ks ok typed =
      let tk = map encoded_kinds kinds in
      let tables = map encode ts in
      let same : own ≡ ks = some_is own ks (sym there ∙ typed) in
      let known : length ks ≡ c = sym (ap length same) ∙ long in
      let found : slice_get tk i ≡ Some (encoded_kinds ks) = slice_get-map encoded_kinds kinds i ∙ ap (option_map encoded_kinds) typed in
      let scan : p ≡ Scan i (3 * length ks + 3) = is ∙ ap (λ n. Scan i (3 * n + 3)) (sym known) in
      let gives : GivesRelation tk tables (Scan i (3 * length ks + 3)) ks (tree_rows plain_rules (Table i) ts) (tree_numbers plain_rules (Table i) ts) = record {
        typed = ap (option_and_then (λ js. kinds_if (length js == 3 * length ks + 3) js)) found ∙ wide_enough ks;
        relation = tree_relation kinds ts ok.relations (Table i) ks typed;
        encoded = ap (λ o. unwrap_or o []) (slice_get-map encode ts i) ∙ scanned (slice_get ts i);
        fit = λ f. refl;
      } in
      (known ∙ sym wide, subst (λ (plan : PlanTree). GivesRelation tk tables plan ks (tree_rows plain_rules (Table i) ts) (tree_numbers plain_rules (Table i) ts)) (sym scan) gives)

  module _ (q : Tree) (of made : PlanTree) (c d : ℕ) (part : GivesTree kinds q of c) where
    pub select_whole : (e : Term) → d ≡ c → Selects c e of made → GivesTree kinds (Select e q) made d
    select_whole e wide step ts ks ok typed =
        select_part plain_rules kinds ts (Knows kinds ts ok) (counts_known kinds ts ok) (one_known kinds ts ok) q of made c d (λ js h. part ts js ok h) e wide step ks typed

    pub project_whole : (items : List Term) → d ≡ length items → Projects c items of made → GivesTree kinds (Project items q) made d
    project_whole items wide step ts ks ok typed =
        project_part plain_rules kinds ts (Knows kinds ts ok) (counts_known kinds ts ok) (one_known kinds ts ok) q of made c d (λ js h. part ts js ok h) items wide step ks typed

    pub distinct_whole : d ≡ c → Distincts c of made → GivesTree kinds (Distinct q) made d
    distinct_whole wide step ts ks ok typed =
        distinct_part plain_rules kinds ts (Knows kinds ts ok) (counts_known kinds ts ok) (one_known kinds ts ok) q of made c d (λ js h. part ts js ok h) wide step ks typed

    pub group_whole : (keys : ℕ) (aggs : List Agg) → d ≡ keys + length aggs → Groups c keys aggs of made → GivesTree kinds (Group keys aggs q) made d
    group_whole keys aggs wide step ts ks ok typed =
        group_part plain_rules kinds ts (Knows kinds ts ok) (counts_known kinds ts ok) (one_known kinds ts ok) q of made c d (λ js h. part ts js ok h) keys aggs wide step ks typed

    pub total_whole : (aggs : List Agg) → d ≡ length aggs → Totals c aggs of made → GivesTree kinds (Total aggs q) made d
    total_whole aggs wide step ts ks ok typed =
        total_part plain_rules kinds ts (Knows kinds ts ok) (counts_known kinds ts ok) (one_known kinds ts ok) q of made c d (λ js h. part ts js ok h) aggs wide step ks typed

  module _ (a b : Tree) (left right made : PlanTree) (m n d : ℕ) (of_right : GivesTree kinds b right n) where
    pub product_whole : GivesTree kinds a left m → d ≡ m + n → Multiplies m n left right made → GivesTree kinds (Product a b) made d
    product_whole of_left wide step ts ks ok typed =
        product_part plain_rules kinds ts a b (Knows kinds ts ok) (Knows kinds ts ok) (Knows kinds ts ok) (counts_known kinds ts ok) (counts_known kinds ts ok) (two_known kinds ts ok) left right made m n d
        (λ js h. of_right ts js ok h) (λ js h. of_left ts js ok h) wide step ks typed

    pub union_whole : GivesTree kinds a left m → d ≡ m → Unites left right made → GivesTree kinds (Union a b) made d
    union_whole of_left wide step ts ks ok typed =
        union_part plain_rules kinds ts a b (Knows kinds ts ok) (Knows kinds ts ok) (Knows kinds ts ok) (counts_known kinds ts ok) (counts_known kinds ts ok) (two_known kinds ts ok) left right made m n d
        (λ js h. of_right ts js ok h) (λ js h. of_left ts js ok h) wide step ks typed

    -- over the combined rows of the left side's plan
    pub difference_whole : (of : PlanTree) (c : ℕ) → GivesTree kinds a of c → m ≡ c → Combines c of left → d ≡ m → Subtracts m left right made → GivesTree kinds (Difference a b) made d
    difference_whole of c of_left same joined wide step ts ks ok typed =
        let tk = map encoded_kinds kinds in
        let tables = map encode ts in
        let xs = tree_rows plain_rules a ts in
        let ms = tree_numbers plain_rules a ts in
        let combined : (js : List Kind) → kinds_of kinds a ≡ Some js → Knows kinds ts ok left m js (combine xs) (ms ++ triple_numbers (combine xs)) × IsRelation js xs =
        λ js h. let g = of_left ts js ok h in ((g.0 ∙ sym same, joined tk tables js xs ms g.0 g.1), g.1.relation) in
        difference_part plain_rules kinds ts a b (Knows kinds ts ok) (Knows kinds ts ok) (Knows kinds ts ok) (counts_known kinds ts ok) (counts_known kinds ts ok) (two_known kinds ts ok) left right made m n d
        (λ js h. of_right ts js ok h) combined wide step ks typed

-- ---- the whole plan

-- tables without rows
empty_relations : (kinds : List (List Kind)) → AllZip IsRelation kinds (map (λ ks. []) kinds)
empty_relations [] = tt
empty_relations (ks ∷ kinds) = (tt, empty_relations kinds)

empty_fit : (kinds : List (List Kind)) → FitTables (map encode (map (λ ks. []) kinds))
empty_fit [] = tt
empty_fit (ks ∷ kinds) = (tt, empty_fit kinds)

pub whole_plan : (kinds : List (List Kind)) (q : Tree) (p : PlanTree) (c : ℕ) → IsTyped kinds q → GivesTree kinds q p c → IsPlanOf kinds q p
whole_plan kinds q p c typed gives =
    let k = typed_kinds kinds q typed in
    record {
      typed = λ ks e. (gives (map (λ js. []) kinds) ks (record { relations = empty_relations kinds; fit = empty_fit kinds }) e).1.typed;
      rows = λ ts ok v. ap (copies v) ((gives ts k.0 ok k.1).1.encoded ∙ ap encode (plain_rows_are q ts));
      fits = λ ts ok f. (gives ts k.0 ok k.1).1.fit (subst Fit (sym (plain_numbers_are q ts)) f);
    }

-- encoded tables have the encoded kinds
encoded_have : (kinds : List (List Kind)) (ts : List Bounded) → AllZip IsRelation kinds ts → AllZip HaveKinds (map encoded_kinds kinds) (map encode ts)
encoded_have [] [] z = tt
encoded_have [] (t ∷ ts) z = elim z [ ]
encoded_have (ks ∷ kinds) [] z = elim z [ ]
encoded_have (ks ∷ kinds) (t ∷ ts) z = (rows_have_kinds ks t z.0, encoded_have kinds ts z.1)

-- a plan with the same rows in another order is a plan of the tree, too
pub reordered_plan : (kinds : List (List Kind)) (q : Tree) (p r : PlanTree) → IsTyped kinds q → IsPlanOf kinds q p → Reorders (map encoded_kinds kinds) p r → IsPlanOf kinds q r
reordered_plan kinds q p r typed whole same =
    let k = typed_kinds kinds q typed in
    let is : plan_kinds (map encoded_kinds kinds) p ≡ Some (encoded_kinds k.0) = whole.typed k.0 k.1 in
    record {
      typed = λ ks e. same.typed (encoded_kinds ks) (whole.typed ks e);
      rows = λ ts ok v. same.rows (map encode ts) (encoded_kinds k.0) (encoded_have kinds ts ok.relations) is v ∙ whole.rows ts ok v;
      fits = λ ts ok f. same.numbers (map encode ts) (encoded_kinds k.0) (encoded_have kinds ts ok.relations) ok.fit is (whole.fits ts ok f);
    }
