-- The plan of each operator over sources gives the relation of its tree, from the plans of its parts.
use Rattle.std.specs.Prelude.{◌≡◌, ℕ, ◌+◌, ◌*◌, List, ◌++◌, length, map, Option, Some, None, option_map, slice_get, Err, IfOk, Ok, OnOk, Result}
use Rattle.std.proofs.Common.{⊎_elim, inl, refl, sym, ◌∙◌, ap}
use Rattle.std.proofs.lemmas.List.{length-map}
use Rattle.std.proofs.lemmas.Option.{none-some, slice_get-map}
use Rattle.au_value.specs.declared.kinds.Kind.{Kind}
use Rattle.au_value.specs.Order.{data_kind}
use Rattle.au_expr.specs.Terms.{Term}
use Rattle.au_algebra.specs.declared.query.Agg.{Agg}
use Rattle.au_algebra.specs.Trees.{Tree, Table, Select, Project, Product, Union, Difference, Distinct, Total}
use Rattle.au_algebra.proofs.Items.{some_is}
use Rattle.au_blocks.specs.Tables.{BlockTable, column_kinds}
use Rattle.au_translate.specs.Translate.{bounded_table}
use Rattle.au_plain.specs.Plans.{PlanTree, Scan}
use Rattle.au_encode.specs.Encode.{encode}
use Rattle.au_rwcore.specs.Gives.{Projects, Selects, Unites}
use Rattle.au_rwdiff.specs.Gives.{Subtracts}
use Rattle.au_rwgroup.specs.Gives.{Totals}
use Rattle.au_program.specs.Programs.{AddsCombined, IsTableBehind, PlansCombined, PlansTree, combined_over, numbers_over}
use Rattle.au_program.specs.Sources.{Behind, Holds, IsRead, Stops, count}
use Rattle.au_program.specs.Stages.{AddsTree}
use Rattle.au_program.specs.declared.rules.Rules.{Rules}
use Rattle.au_program.specs.declared.sources.Sources.{Sources}
use Rattle.au_program.proofs.HeldSources.{holds_count}
use Rattle.au_program.proofs.Materialized.{adds_table}
use Rattle.au_program.proofs.Operators.{DistinctsBy, MultipliesBy}
use Rattle.au_program.proofs.PlanSteps.{difference_adds, distinct_adds, product_adds, project_adds, select_adds, table_adds, total_adds, union_adds}
use Rattle.au_program.proofs.Putting.{one_puts, two_puts}
use Rattle.au_program.proofs.TreeNumbers.{of_difference, of_distinct, of_product, of_project, of_select, of_total, of_union}

-- a table of these kinds is there
some_table : (o : Option BlockTable) (ks : List Kind) → option_map column_kinds o ≡ Some ks → (t : BlockTable) × (o ≡ Some t)
some_table None ks e = absurd (none-some ks e)
some_table (Some t) ks e = (t, refl)

-- what three clauses of a result say together
pub from_three : {X E : Type 0} (r : Result X E) (P Q R : X → Type 0) (B : Type 0) → ((x : X) → P x → Q x → B → R x) → IfOk r P → IfOk r Q → OnOk r B → IfOk r R
from_three (Ok x) P Q R B f p q b = f x p q b
from_three (Err e) P Q R B f p q b = tt

module _ (rules : Rules) (kinds : List (List Kind)) where
  -- a table
  module _ (i : ℕ) (ks : List Kind) (at : slice_get kinds i ≡ Some ks) (columns : ℕ) (long : length ks ≡ columns) (old new : Sources) (p : PlanTree) (c : ℕ) (wide : c ≡ columns) (scan : p ≡ Scan (count old) (3 * columns + 3)) (behind : IsTableBehind i old new) where
    there : (ts : List BlockTable) → map column_kinds ts ≡ kinds → option_map column_kinds (slice_get ts i) ≡ Some ks
    there ts is = sym (slice_get-map column_kinds ts i) ∙ ap (λ l. slice_get l i) is ∙ at

    pub table_planned : PlansTree rules kinds (Table i) old new p c
    table_planned = record {
      holds = λ ts is rows h.
          (let b : Behind (Holds ts old) (IsRead ts i None) rows = behind.holds ts rows h in
          let t = b.here.table in
          let own : column_kinds t ≡ ks = some_is (column_kinds t) ks (sym (ap (option_map column_kinds) b.here.at.there) ∙ there ts is) in
          let counted : columns ≡ length t.columns = sym long ∙ ap length (sym own) ∙ length-map t.columns (λ c. data_kind c.kind) in
          record {
            front = b.front;
            before = b.before;
            knows =
                table_adds rules ts i t b.front rows p c b.here.at.there
                (adds_table t columns (encode (bounded_table t)) b.front rows p c b.here.at.is_table counted refl (b.are ∙ ap (λ l. b.front ++ l) b.here.are) wide
                (scan ∙ ap (λ n. Scan n (3 * columns + 3)) (sym (holds_count ts old b.front b.before))));
          });
      runs = λ ts is r. behind.can_run ts r (some_table (slice_get ts i) ks (there ts is));
      stops = λ ts is s. ⊎_elim (λ (o : Stops ts old). inl o) (λ (n : ⊥). absurd n) (behind.may_stop ts s);
    }

  -- one input
  module _ (q : Tree) (old new : Sources) (of made : PlanTree) (c d : ℕ) (part : PlansTree rules kinds q old new of c) where
    pub select_planned : (e : Term) → d ≡ c → Selects c e of made → PlansTree rules kinds (Select e q) old new made d
    select_planned e wide step =
        one_puts kinds (λ ts front rows. AddsTree rules ts q front rows of c) (λ ts front rows. AddsTree rules ts (Select e q) front rows made d) (numbers_over rules q) (numbers_over rules (Select e q)) old new
        (λ ts is front rows adds. select_adds rules ts q front rows of made c d adds e wide step) (λ ts f. of_select rules (map bounded_table ts) e q f) part

    pub project_planned : (items : List Term) → d ≡ length items → Projects c items of made → PlansTree rules kinds (Project items q) old new made d
    project_planned items wide step =
        one_puts kinds (λ ts front rows. AddsTree rules ts q front rows of c) (λ ts front rows. AddsTree rules ts (Project items q) front rows made d) (numbers_over rules q) (numbers_over rules (Project items q)) old new
        (λ ts is front rows adds. project_adds rules ts q front rows of made c d adds items wide step) (λ ts f. of_project rules (map bounded_table ts) items q f) part

    pub distinct_planned : d ≡ c → DistinctsBy rules.points c of made → PlansTree rules kinds (Distinct q) old new made d
    distinct_planned wide step =
        one_puts kinds (λ ts front rows. AddsTree rules ts q front rows of c) (λ ts front rows. AddsTree rules ts (Distinct q) front rows made d) (numbers_over rules q) (numbers_over rules (Distinct q)) old new
        (λ ts is front rows adds. distinct_adds rules ts q front rows of made c d adds wide step) (λ ts f. of_distinct rules (map bounded_table ts) q f) part

    pub total_planned : (aggs : List Agg) → d ≡ length aggs → Totals c aggs of made → PlansTree rules kinds (Total aggs q) old new made d
    total_planned aggs wide step =
        one_puts kinds (λ ts front rows. AddsTree rules ts q front rows of c) (λ ts front rows. AddsTree rules ts (Total aggs q) front rows made d) (numbers_over rules q) (numbers_over rules (Total aggs q)) old new
        (λ ts is front rows adds. total_adds rules ts q front rows of made c d adds aggs wide step) (λ ts f. of_total rules (map bounded_table ts) aggs q f) part

  -- two inputs
  module _ (a b : Tree) (old mid new : Sources) (left right made : PlanTree) (m n d : ℕ) (of_right : PlansTree rules kinds b mid new right n) where
    pub union_planned : PlansTree rules kinds a old mid left m → d ≡ m → Unites left right made → PlansTree rules kinds (Union a b) old new made d
    union_planned of_left wide step =
        two_puts kinds (λ ts xs ys. AddsTree rules ts a xs ys left m) (λ ts ys zs. AddsTree rules ts b ys zs right n) (λ ts xs zs. AddsTree rules ts (Union a b) xs zs made d)
        (numbers_over rules a) (numbers_over rules b) (numbers_over rules (Union a b)) old mid new
        (λ ts is xs ys zs l r. union_adds rules ts a b xs ys zs left right made m n d r l wide step)
        (λ ts f. (of_union rules (map bounded_table ts) a b f).0) (λ ts f. (of_union rules (map bounded_table ts) a b f).1) of_left of_right

    pub product_planned : PlansTree rules kinds a old mid left m → d ≡ m + n → MultipliesBy rules.compress m n left right made → PlansTree rules kinds (Product a b) old new made d
    product_planned of_left wide step =
        two_puts kinds (λ ts xs ys. AddsTree rules ts a xs ys left m) (λ ts ys zs. AddsTree rules ts b ys zs right n) (λ ts xs zs. AddsTree rules ts (Product a b) xs zs made d)
        (numbers_over rules a) (numbers_over rules b) (numbers_over rules (Product a b)) old mid new
        (λ ts is xs ys zs l r. product_adds rules ts a b xs ys zs left right made m n d r l wide step)
        (λ ts f. (of_product rules (map bounded_table ts) a b f).0) (λ ts f. (of_product rules (map bounded_table ts) a b f).1) of_left of_right

    pub difference_planned : PlansCombined rules kinds a old mid left m → d ≡ m → Subtracts m left right made → PlansTree rules kinds (Difference a b) old new made d
    difference_planned of_left wide step =
        two_puts kinds (λ ts xs ys. AddsCombined rules ts a xs ys left m) (λ ts ys zs. AddsTree rules ts b ys zs right n) (λ ts xs zs. AddsTree rules ts (Difference a b) xs zs made d)
        (combined_over rules a) (numbers_over rules b) (numbers_over rules (Difference a b)) old mid new
        (λ ts is xs ys zs l r. difference_adds rules ts a b xs ys zs left right made m n d r l wide step)
        (λ ts f. (of_difference rules (map bounded_table ts) a b f).0) (λ ts f. (of_difference rules (map bounded_table ts) a b f).1) of_left of_right
