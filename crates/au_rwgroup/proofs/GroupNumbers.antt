-- The numbers of Group's plan fit where those of its boxes, of the rows and of the aggregates do.
use Rattle.std.specs.Prelude.{◌≡◌, ℕ, ◌+◌, ◌*◌, List, [], ◌∷◌, ◌++◌, length, map, flat_map, Some, ℤ}
use Rattle.std.specs.List.{AllByRecursion}
use Rattle.std.proofs.Common.{refl, sym, subst}
use Rattle.au_value.specs.declared.kinds.Kind.{Kind}
use Rattle.au_value.specs.declared.value.Value.{Value}
use Rattle.au_expr.specs.Figures.{Fit}
use Rattle.au_expr.proofs.Fits.{fit_both}
use Rattle.au_algebra.specs.declared.query.Agg.{Agg}
use Rattle.au_algebra.specs.declared.query.Agg.TheVariants as agg
use Rattle.au_algebra.specs.Bounded.{Bounded}
use Rattle.au_algebra.specs.Fits.{agg_numbers}
use Rattle.au_algebra.specs.Laws.{IsRelation}
use Rattle.au_algebra.specs.Ordinary.{Rows}
use Rattle.au_algebra.proofs.Each.{all_append, all_filter, all_from}
use Rattle.au_plain.specs.declared.plan.PAgg.{PAgg}
use Rattle.au_plain.specs.PTerms.{PTerm, Column}
use Rattle.au_plain.specs.Plans.{PlanTree, Join, extend_all}
use Rattle.au_plain.specs.Meaning.{plain_rows, passes}
use Rattle.au_plain.specs.PlanKinds.{FitRows, FitTables, plan_kinds}
use Rattle.au_plain.specs.PlanNumbers.{plan_numbers, term_numbers, magnitudes}
use Rattle.au_plain.specs.PlanNumbers as plain
use Rattle.au_plain.proofs.Held.{RowFits, rows_fit, joined_fits}
use Rattle.au_encode.specs.Encode.{encoded_kinds}
use Rattle.au_rwexpr.specs.Adding.{grow_numbers}
use Rattle.au_rwexpr.specs.Cells.{run}
use Rattle.au_rwexpr.specs.Counts.{positive}
use Rattle.au_rwexpr.specs.Flatten.{sg}
use Rattle.au_rwexpr.specs.Meets.{meets_term}
use Rattle.au_rwexpr.proofs.Allowed.{all_both}
use Rattle.au_rwexpr.proofs.Coded.{own}
use Rattle.au_rwexpr.proofs.Columns.{add_columns}
use Rattle.au_rwexpr.proofs.Gives.{GivesEncoded, HasKinds}
use Rattle.au_rwexpr.proofs.OnValues.{reading}
use Rattle.au_rwexpr.proofs.Places.{EndsOfAll}
use Rattle.au_rwexpr.proofs.PlanNumbersOf.{fit_all, all_made, numbers-extend_all}
use Rattle.au_combine.proofs.JoinGroups.{pairs, with_left}
use Rattle.au_rwgroup.specs.declared.folding.Folding.{Folding}
use Rattle.au_rwgroup.specs.Folds.{fold_width, folds}
use Rattle.au_rwgroup.specs.GroupPlan as plans
use Rattle.au_rwgroup.specs.GroupPlan.{Places, kept_for, all_member_columns, all_member_aggs, all_result_columns, second_grouping, group_over}
use Rattle.au_rwgroup.proofs.AggregatesOn.{OnColumn, are_on}
use Rattle.au_rwgroup.proofs.FoldNumbers.{folds_fit}
use Rattle.au_rwgroup.proofs.FitTerms.{Reads, reads_fit, reading_columns, meets_reads}
use Rattle.au_rwgroup.proofs.GroupKinds as kinds_of
use Rattle.au_rwgroup.proofs.GroupRows as rows_of
use Rattle.au_rwgroup.proofs.MemberColumns as member
use Rattle.au_rwgroup.proofs.ColumnsThere.{IsOn}
use Rattle.au_rwgroup.proofs.MemberNumbers as numbers
use Rattle.au_rwgroup.proofs.SecondRows as second
use Rattle.au_rwgroup.proofs.Sharing.{Fold, Sharing, fold_row, fold_rows, sharing}
use Rattle.au_rwgroup.proofs.KeyReading.{KeyReading, grouped_in}

-- the ranges of the results are read
results_read : (there has_guess : PTerm) (z : ℕ) (aggs : List Agg) → Reads there → Reads has_guess → AllByRecursion Reads (all_result_columns there has_guess z aggs)
results_read there has_guess z [] h g = tt
results_read there has_guess z (agg.Sum d ∷ aggs) h g = (tt, ((g, (tt, tt)), (tt, results_read there has_guess (z + 4) aggs h g)))
results_read there has_guess z (agg.Min d ∷ aggs) h g = (tt, ((g, (tt, tt)), ((h, (tt, tt)), results_read there has_guess (z + 4) aggs h g)))
results_read there has_guess z (agg.Max d ∷ aggs) h g = ((h, (tt, tt)), ((g, (tt, (h, (tt, tt)))), (tt, results_read there has_guess (z + 4) aggs h g)))

-- the rows of a pair of rows whose numbers fit
beside_fit : (row : List Value) (rows : Rows) → RowFits row → FitRows rows → FitRows (map (λ b. row ++ b) rows)
beside_fit row [] h f = tt
beside_fit row (b ∷ rows) h f = (joined_fits row b h f.0, beside_fit row rows h f.1)

pairs_fit : (xs ys : Rows) → FitRows xs → FitRows ys → FitRows (flat_map (λ a. map (λ b. a ++ b) ys) xs)
pairs_fit [] ys h f = tt
pairs_fit (x ∷ xs) ys h f = all_append RowFits (map (λ b. x ++ b) ys) (flat_map (λ a. map (λ b. a ++ b) ys) xs) (beside_fit x ys h.0 f) (pairs_fit xs ys h.1 f)

-- what holds of each made item
of_made : {A B : Type 0} (Q : B → Type 0) (g : A → B) (xs : List A) → AllByRecursion Q (map g xs) → AllByRecursion (λ x. Q (g x)) xs
of_made Q g [] h = tt
of_made Q g (x ∷ xs) h = (h.0, of_made Q g xs h.1)

module _ (by : KeyReading) (aggs : List Agg) (on : AllByRecursion (OnColumn by.ks) aggs) (rows : Bounded) (ok : IsRelation by.ks rows) (how : Folding) where
  abbrev more : List PAgg
  more = flat_map kept_for aggs

  abbrev c : ℕ
  c = length by.ks

  abbrev b : ℕ
  b = 3 * by.k + 3 + length more

  abbrev places : Places
  places = plans.places by.k b (b + fold_width by.k (length aggs))

  abbrev n : ℕ
  n = b + fold_width by.k (length aggs) + 4

  abbrev Pair : Type 0
  Pair = List Value × Fold

  abbrev shared : Sharing by rows
  shared = sharing by rows ok how

  abbrev IsPair : Pair → Type 0
  IsPair s = second.IsPair by more aggs rows ok s

  abbrev IsKey : List Value → Type 0
  IsKey key = second.IsKey by more aggs rows ok key

  abbrev joined : Pair → List Value
  joined s = second.joined by more aggs rows ok s

  abbrev box_row : List Value → List Value
  box_row key = second.box_row by more aggs rows ok key

  abbrev folds_at : List Value → List Fold
  folds_at key = second.folds by more aggs rows ok shared key

  abbrev keys_list : Rows
  keys_list = second.keys_list by more aggs rows ok

  abbrev all_keys : AllByRecursion IsKey keys_list
  all_keys = second.all_keys by more aggs rows ok

  abbrev all_pairs : List Pair
  all_pairs = second.all_pairs by more aggs rows ok shared

  abbrev are_there : AllByRecursion (IsOn c) aggs
  are_there = are_on by.ks aggs on

  abbrev TermsFit : Pair → Type 0
  TermsFit s = numbers.TermsFit by aggs are_there rows ok shared aggs s

  abbrev columns : List PTerm
  columns = all_member_columns places (3 * by.k + 3) aggs

  abbrev over : List PAgg
  over = all_member_aggs n aggs

  abbrev numbers_at : List Value → List ℤ
  numbers_at key = flat_map (agg_numbers (grouped_in by rows key)) aggs

  pair_terms : (js : Rows) → AllByRecursion IsKey js → AllByRecursion (λ key. Fit (numbers_at key)) js → AllByRecursion TermsFit (pairs box_row folds_at js)
  pair_terms [] v f = tt
  pair_terms (j ∷ js) v f =
      all_append TermsFit (with_left box_row folds_at j (folds_at j)) (pairs box_row folds_at js)
      (all_made (λ fold. TermsFit (j, fold)) TermsFit (λ fold. (j, fold)) (folds_at j) (numbers.key_terms by aggs are_there rows ok shared j v.0 aggs f.0) (λ fold h. h))
      (pair_terms js v.1 f.1)

  module _ (tk : List (List Kind)) (ts : List Rows) (p : PlanTree) (typed : HasKinds tk p by.ks) (tables : FitTables ts) (g : GivesEncoded ts p rows) (np : Fit (plan_numbers p ts)) (kks_long : length by.kks ≡ by.k) (kind_part : (row : List Kind) (i : ℕ) → EndsOfAll own own own row i by.ks → EndsOfAll own own own row i by.kks) (sums : AllByRecursion (λ key. Fit (numbers_at key)) keys_list) (boxes : PlanTree) (boxes_are : plain_rows boxes ts ≡ map box_row keys_list) (boxes_typed : plan_kinds tk boxes ≡ Some (kinds_of.box_kinds by.ks by.kks by.k kks_long kind_part aggs on)) (boxes_fit : Fit (plan_numbers boxes ts)) where
    box_rows_fit : FitRows (plain_rows boxes ts)
    box_rows_fit = rows_fit tk (kinds_of.box_kinds by.ks by.kks by.k kks_long kind_part aggs on) boxes ts boxes_typed tables boxes_fit

    abbrev folded : PlanTree
    folded = folds how c by.k aggs p

    folded_fit : Fit (plan_numbers folded ts)
    folded_fit = folds_fit by aggs on rows ok ts p g (rows_fit tk (encoded_kinds by.ks) p ts typed tables np) np sums how

    folded_are : plain_rows folded ts ≡ map (fold_row by aggs) shared.parts
    folded_are = fold_rows by rows ok how aggs are_there ts p g

    folded_typed : plan_kinds tk folded ≡ Some (kinds_of.folded by.ks by.kks by.k kks_long kind_part aggs on)
    folded_typed = kinds_of.folds_there by.ks by.kks by.k kks_long kind_part aggs on tk p typed how

    folded_rows_fit : FitRows (plain_rows folded ts)
    folded_rows_fit = rows_fit tk (kinds_of.folded by.ks by.kks by.k kks_long kind_part aggs on) folded ts folded_typed tables folded_fit

    abbrev pair_rows : Rows
    pair_rows = flat_map (λ x. map (λ y. x ++ y) (plain_rows folded ts)) (plain_rows boxes ts)

    pair_rows_fit : FitRows pair_rows
    pair_rows_fit = pairs_fit (plain_rows boxes ts) (plain_rows folded ts) box_rows_fit folded_rows_fit

    abbrev join : PlanTree
    join = Join (meets_term b 0 by.k) boxes folded

    join_fits : Fit (plan_numbers join ts)
    join_fits =
        fit_both (plan_numbers boxes ts ++ plan_numbers folded ts) (flat_map (term_numbers (meets_term b 0 by.k)) pair_rows) (fit_both (plan_numbers boxes ts) (plan_numbers folded ts) boxes_fit folded_fit)
        (fit_all (term_numbers (meets_term b 0 by.k)) pair_rows (all_from RowFits (λ row. Fit (term_numbers (meets_term b 0 by.k) row)) pair_rows (λ row f. reads_fit (meets_term b 0 by.k) row f (meets_reads b 0 by.k)) pair_rows_fit))

    joined_are : plain_rows join ts ≡ map joined all_pairs
    joined_are = second.joined_rows by more aggs rows ok shared ts boxes folded boxes_are folded_are

    joined_fit : AllByRecursion (λ s. RowFits (joined s)) all_pairs
    joined_fit = of_made RowFits joined all_pairs (subst FitRows joined_are (all_filter RowFits (passes (meets_term b 0 by.k)) pair_rows pair_rows_fit))

    abbrev Sound : Pair → Type 0
    Sound s = IsPair s × (RowFits (joined s) × TermsFit s)

    all_sound : AllByRecursion Sound all_pairs
    all_sound =
        all_both IsPair (λ s. RowFits (joined s) × TermsFit s) all_pairs (second.pairs_ok by more aggs rows ok shared keys_list all_keys)
        (all_both (λ s. RowFits (joined s)) TermsFit all_pairs joined_fit (pair_terms keys_list all_keys sums))

    wider_fit : Fit (plan_numbers (extend_all columns join) ts)
    wider_fit =
        numbers-extend_all ts columns join join_fits
        (subst (λ rs. AllByRecursion (λ row. Fit (grow_numbers columns row)) rs) (sym joined_are)
        (all_made Sound (λ row. Fit (grow_numbers columns row)) joined all_pairs all_sound
        (λ s q. numbers.columns_fit by aggs are_there rows ok shared s q.0 (rows_of.kept_there by aggs are_there rows ok shared s q.0) q.1.0 q.1.1)))

    abbrev wide : Pair → List Value
    wide s = rows_of.wide by aggs are_there rows ok shared s

    abbrev added : Pair → List Value
    added s = member.all_values by more aggs rows ok aggs s

    each_added : (s : Pair) → IsPair s → add_columns reading columns (joined s) ≡ Some (joined s ++ added s)
    each_added s v = member.members_added by more aggs rows ok s v (3 * by.k + 3) (rows_of.kept_there by aggs are_there rows ok shared s v)

    abbrev grouped_plan : PlanTree
    grouped_plan = second_grouping by.k b columns over boxes folded

    abbrev sizes : List Value → List ℤ
    sizes key = flat_map (magnitudes (map wide (with_left box_row folds_at key (folds_at key)))) over

    sizes_fit : Fit (flat_map sizes keys_list)
    sizes_fit =
        fit_all sizes keys_list
        (all_from (λ key. IsKey key × Fit (numbers_at key)) (λ key. Fit (sizes key)) keys_list
        (λ key q. numbers.over_fits by aggs are_there rows ok shared key q.0 n aggs (λ fold v. rows_of.wide_at by aggs are_there rows ok shared (key, fold) q.0 v) q.1)
        (all_both IsKey (λ key. Fit (numbers_at key)) keys_list all_keys sums))

    grouped_fit : Fit (plan_numbers grouped_plan ts)
    grouped_fit =
        fit_both (plan_numbers (extend_all columns join) ts) (plain.group_numbers (run 0 b) over (plain_rows (extend_all columns join) ts)) wider_fit
        (subst (λ rs. Fit (plain.group_numbers (run 0 b) over rs)) (sym (second.wide_rows by more aggs rows ok shared columns added each_added over ts boxes folded boxes_are folded_are))
        (subst (λ ns. Fit ns) (sym (second.second_numbers by more aggs rows ok shared columns added each_added over)) sizes_fit))

    grouped_rows_fit : FitRows (plain_rows grouped_plan ts)
    grouped_rows_fit =
        rows_fit tk (kinds_of.grouped_kinds by.ks by.kks by.k kks_long kind_part aggs on) grouped_plan ts
        (kinds_of.second_kinds by.ks by.kks by.k kks_long kind_part aggs on tk boxes folded boxes_typed folded_typed) tables grouped_fit

    -- The plan over the boxes adds no number that does not fit.
    pub over_fits : Fit (plan_numbers (group_over how c by.k aggs boxes p) ts)
    over_fits =
        let finish = all_result_columns (positive (Column (b + 4 * length aggs))) (positive (sg (3 * by.k))) b aggs in
        let reads = results_read (positive (Column (b + 4 * length aggs))) (positive (sg (3 * by.k))) b aggs (refl, tt) (refl, tt) in
        numbers-extend_all ts finish grouped_plan grouped_fit
        (all_from RowFits (λ row. Fit (grow_numbers finish row)) (plain_rows grouped_plan ts) (λ row f. reading_columns finish row f reads) grouped_rows_fit)
