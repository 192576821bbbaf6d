-- Group's plan is typed.
use Rattle.std.specs.Prelude.{◌≡◌, ℕ, suc, ◌+◌, ◌*◌, List, [], ◌∷◌, ◌++◌, length, map, flat_map, Some, None, option_and_then, if◌then◌else◌}
use Rattle.std.specs.List.{AllByRecursion}
use Rattle.std.proofs.Common.{arith, refl, sym, ◌∙◌, ap, subst, append_assoc}
use Rattle.std.proofs.lemmas.List.{length-append, length-map, append-nil}
use Rattle.au_value.specs.declared.kinds.Kind.{Kind}
use Rattle.au_value.specs.declared.kinds.Kind.TheVariants.{Int, Flag}
use Rattle.au_expr.specs.Kinds.{is_kind}
use Rattle.au_algebra.specs.declared.query.Agg.{Agg}
use Rattle.au_algebra.specs.declared.query.Agg.TheVariants as agg
use Rattle.au_algebra.specs.Typing.{all_kinds, kinds_if}
use Rattle.au_plain.specs.declared.plan.PAgg.{PAgg}
use Rattle.au_plain.specs.PTerms.{PTerm, Column, Add, Case}
use Rattle.au_plain.specs.Plans.{PlanTree, Join, Keep, extend_all}
use Rattle.au_plain.specs.PlanKinds.{plan_kinds, plain_kind, plain_agg_kind, kept_kinds}
use Rattle.au_encode.specs.Encode.{encoded_kinds, triple_kinds}
use Rattle.au_rwexpr.specs.Cells.{run, cell_places, three_places}
use Rattle.au_rwexpr.specs.Counts.{zero_term, one_term, positive}
use Rattle.au_rwexpr.specs.Flatten.{sg}
use Rattle.au_rwexpr.specs.Meets.{meets_term}
use Rattle.au_rwexpr.proofs.Coded.{own}
use Rattle.au_rwexpr.proofs.Columns.{AllMean, add_columns, adds, then_adds, means_now}
use Rattle.au_rwexpr.proofs.Gives.{HasKinds, kinds-keep, kinds-extend_all}
use Rattle.au_rwexpr.proofs.MeetingKinds.{meets_kind, same_kind}
use Rattle.au_rwexpr.proofs.OnKinds.{HasKind, column_kind, add_kind, and_kind, case_kind, positive_kind}
use Rattle.au_rwexpr.proofs.Picks.{Picks, kinds_kept, picks_more, pick_cells, pick_three, all_ends_long, all_ends-append, coded_cells, ends_past}
use Rattle.au_rwexpr.proofs.Places.{At, at_more, at_past, Ends, ends_more, ends_at, EndsOfAll, all_ends_at, all_ends_more}
use Rattle.au_combine.proofs.BoxKinds.{twice}
use Rattle.au_combine.proofs.BoxPlaces.{first_picks}
use Rattle.au_rwgroup.specs.declared.folding.Folding.{Folding}
use Rattle.au_rwgroup.specs.Folds.{fold_width, folds}
use Rattle.au_rwgroup.specs.Groups.{all_sure, first_grouping}
use Rattle.au_rwgroup.specs.GroupPlan as plans
use Rattle.au_rwgroup.specs.GroupPlan.{Places, kept_for, all_member_columns, each_member_columns, all_member_aggs, all_result_columns, second_grouping, result_places, group_over, group_plan}
use Rattle.au_rwgroup.proofs.AggregatesOn.{kind_on, OnColumn}
use Rattle.au_rwgroup.proofs.FoldKinds.{fold_kinds, folds_typed, fives, fives_long, FiveAt, five_at, five_more}
use Rattle.au_rwgroup.proofs.FirstKinds.{first_kinds, sure_kind, four}

module _ (row : List Kind) where
  -- two columns for each kind, and four
  abbrev TwoAt : ℕ → List Kind → Type 0
  TwoAt q [] = Unit {0}
  TwoAt q (e ∷ es) = (At row q e × At row (q + 1) e) × TwoAt (q + 2) es

  abbrev FourAt : ℕ → List Kind → Type 0
  FourAt z [] = At row z Int
  FourAt z (e ∷ es) = (At row z e × At row (z + 1) e × At row (z + 2) e × At row (z + 3) e) × FourAt (z + 4) es

-- each kind four times, and that of a count
abbrev pub fours : List Kind → List Kind
fours [] = Int ∷ []
fours (e ∷ es) = e ∷ e ∷ e ∷ e ∷ fours es

fours_long : (es : List Kind) → length (fours es) ≡ 4 * length es + 1
fours_long [] = refl
fours_long (e ∷ es) = omega (arith, fours_long es)

two_at : (pre added : List Kind) (q : ℕ) (es : List Kind) → length pre ≡ q → TwoAt ((pre ++ twice es) ++ added) q es
two_at pre added q [] e = tt
two_at pre added q (x ∷ es) e =
    let both = x ∷ x ∷ [] in
    let row = pre ++ twice (x ∷ es) in (
      (
        at_more row added q x (at_past pre (twice (x ∷ es)) 0 q x (omega (arith, e)) refl),
        at_more row added (q + 1) x (at_past pre (twice (x ∷ es)) 1 (q + 1) x (omega (arith, e)) refl),
      ),
      subst (λ r. TwoAt (r ++ added) (q + 2) es) (append_assoc pre both (twice es)) (two_at (pre ++ both) added (q + 2) es (omega (arith, e, length-append pre both))),
    )

four_at : (pre : List Kind) (z : ℕ) (es : List Kind) → length pre ≡ z → FourAt (pre ++ fours es) z es
four_at pre z [] e = at_past pre (Int ∷ []) 0 z Int (omega (arith, e)) refl
four_at pre z (x ∷ es) e =
    let all = x ∷ x ∷ x ∷ x ∷ [] in
    let rest = fours (x ∷ es) in (
      (
        at_past pre rest 0 z x (omega (arith, e)) refl,
        at_past pre rest 1 (z + 1) x (omega (arith, e)) refl,
        at_past pre rest 2 (z + 2) x (omega (arith, e)) refl,
        at_past pre rest 3 (z + 3) x (omega (arith, e)) refl,
      ),
      subst (λ r. FourAt r (z + 4) es) (append_assoc pre all (fours es)) (four_at (pre ++ all) (z + 4) es (omega (arith, e, length-append pre all))),
    )

last_kind : (row : List Kind) (z : ℕ) (es : List Kind) → FourAt row z es → At row (z + 4 * length es) Int
last_kind row z [] at = subst (λ i. At row i Int) (let e : z ≡ z + 0 = omega arith in e) at
last_kind row z (x ∷ es) at =
    subst (λ i. At row i Int) (let e : z + 4 + 4 * length es ≡ z + 4 * length (x ∷ es) = omega arith in e) (last_kind row (z + 4) es at.1)

module _ (ks js : List Kind) (k : ℕ) (long : length js ≡ k) (part : (row : List Kind) (i : ℕ) → EndsOfAll own own own row i ks → EndsOfAll own own own row i js) (aggs : List Agg) (on : AllByRecursion (OnColumn ks) aggs) where
  abbrev c : ℕ
  c = length ks

  abbrev kinds_of : List Agg → List Kind
  kinds_of bs = map (kind_on ks) bs

  abbrev es : List Kind
  es = kinds_of aggs

  abbrev kept : List PAgg
  kept = flat_map kept_for aggs

  -- the kinds of those for which something is kept
  abbrev pub ends_of : List Agg → List Kind
  ends_of [] = []
  ends_of (agg.Sum d ∷ bs) = ends_of bs
  ends_of (agg.Min d ∷ bs) = kind_on ks (agg.Min d) ∷ ends_of bs
  ends_of (agg.Max d ∷ bs) = kind_on ks (agg.Max d) ∷ ends_of bs

  pub kept_long : (bs : List Agg) → length (twice (ends_of bs)) ≡ length (flat_map kept_for bs)
  kept_long [] = refl
  kept_long (agg.Sum d ∷ bs) = kept_long bs
  kept_long (agg.Min d ∷ bs) = ap (λ n. suc (suc n)) (kept_long bs)
  kept_long (agg.Max d ∷ bs) = ap (λ n. suc (suc n)) (kept_long bs)

  abbrev pair : List Kind → Kind → Kind → List Kind
  pair rest a b = a ∷ b ∷ rest

  -- the kinds of what the first grouping keeps
  pub kept_kinds_are : (row : List Kind) → EndsOfAll own own own row 0 ks → (bs : List Agg) → AllByRecursion (OnColumn ks) bs → all_kinds (map (plain_agg_kind row) (flat_map kept_for bs)) ≡ Some (twice (ends_of bs))
  kept_kinds_are row at [] h = refl
  kept_kinds_are row at (agg.Sum d ∷ bs) h = kept_kinds_are row at bs h.1
  kept_kinds_are row at (agg.Min d ∷ bs) h =
      let x = ends_at own own own row 0 d (3 * d) ks (kind_on ks (agg.Min d)) at h.0 (let e : 3 * d ≡ 0 + 3 * d = omega arith in e) in
      let rest = kept_kinds_are row at bs h.1 in
      λ i. option_and_then (λ a. option_and_then (λ more. Some (a ∷ more)) (option_and_then (λ b. option_and_then (λ more. Some (b ∷ more)) (rest i)) (x.sg i))) (x.hi i)
  kept_kinds_are row at (agg.Max d ∷ bs) h =
      let x = ends_at own own own row 0 d (3 * d) ks (kind_on ks (agg.Max d)) at h.0 (let e : 3 * d ≡ 0 + 3 * d = omega arith in e) in
      let rest = kept_kinds_are row at bs h.1 in
      λ i. option_and_then (λ a. option_and_then (λ more. Some (a ∷ more)) (option_and_then (λ b. option_and_then (λ more. Some (b ∷ more)) (rest i)) (x.sg i))) (x.lo i)

  -- a box with its triple and what is kept
  abbrev counts_kinds : List Kind
  counts_kinds = Int ∷ Int ∷ Int ∷ []

  abbrev pub box_kinds : List Kind
  box_kinds = triple_kinds js ++ (counts_kinds ++ twice (ends_of aggs))

  abbrev b : ℕ
  b = 3 * k + 3 + length kept

  abbrev t : ℕ
  t = b + fold_width k (length aggs)

  abbrev places : Places
  places = plans.places k b t

  keys_long : length (triple_kinds js) ≡ 3 * k
  keys_long = all_ends_long own own own js ∙ ap (λ n. 3 * n) long

  box_long : length box_kinds ≡ b
  box_long = omega (arith, length-append (triple_kinds js) (counts_kinds ++ twice (ends_of aggs)), keys_long, kept_long aggs)

  -- a joined row
  abbrev pub folded : List Kind
  folded = fold_kinds js es

  abbrev row : List Kind
  row = box_kinds ++ folded

  row_long : length row ≡ t
  row_long = omega (arith, length-append box_kinds folded, box_long, length-append (triple_kinds js) (Flag ∷ Flag ∷ fives es), keys_long, fives_long es, length-map aggs (kind_on ks))

  box_at : EndsOfAll own own own row 0 js
  box_at = all_ends_more own own own box_kinds folded 0 js (all_ends_at own own own [] (counts_kinds ++ twice (ends_of aggs)) 0 js refl)

  keys_at : EndsOfAll own own own row b js
  keys_at = all_ends_at own own own box_kinds (Flag ∷ Flag ∷ fives es) b js box_long

  -- the fold's tests, and its values
  flags_at : At row (b + 3 * k) Flag × At row (b + 3 * k + 1) Flag
  flags_at =
      let front = box_kinds ++ triple_kinds js in
      let behind = Flag ∷ Flag ∷ fives es in
      subst (λ r. At r (b + 3 * k) Flag × At r (b + 3 * k + 1) Flag) (append_assoc box_kinds (triple_kinds js) behind) (
        at_past front behind 0 (b + 3 * k) Flag (omega (arith, length-append box_kinds (triple_kinds js), box_long, keys_long)) refl,
        at_past front behind 1 (b + 3 * k + 1) Flag (omega (arith, length-append box_kinds (triple_kinds js), box_long, keys_long)) refl,
      )

  values_there : FiveAt row (b + 3 * k + 2) es
  values_there =
      let front = box_kinds ++ triple_kinds js in
      let both = Flag ∷ Flag ∷ [] in
      subst (λ r. FiveAt r (b + 3 * k + 2) es) (append_assoc front both (fives es) ∙ append_assoc box_kinds (triple_kinds js) (Flag ∷ Flag ∷ fives es))
      (five_at (front ++ both) (b + 3 * k + 2) es (omega (arith, length-append front both, length-append box_kinds (triple_kinds js), box_long, keys_long)))

  kept_at : TwoAt row (3 * k + 3) (ends_of aggs)
  kept_at =
      let front = triple_kinds js ++ counts_kinds in
      subst (λ r. TwoAt (r ++ folded) (3 * k + 3) (ends_of aggs)) (append_assoc (triple_kinds js) counts_kinds (twice (ends_of aggs)))
      (two_at front folded (3 * k + 3) (ends_of aggs) (omega (arith, length-append (triple_kinds js) counts_kinds, keys_long)))

  abbrev test_kinds : List Kind
  test_kinds = Flag ∷ Flag ∷ []

  abbrev weight_kinds : List Kind
  weight_kinds = Flag ∷ Flag ∷ []

  abbrev tested : List Kind
  tested = row ++ test_kinds

  abbrev weighed : List Kind
  weighed = tested ++ weight_kinds

  tested_long : length tested ≡ t + 2
  tested_long = omega (arith, length-append row test_kinds, row_long)

  tests_kinds : AllMean plain_kind row (plans.tests places) test_kinds
  tests_kinds = (and_kind row (all_sure b k) (all_sure 0 k) (sure_kind row b k js long keys_at) (sure_kind row 0 k js long box_at), (same_kind row 0 b k js long box_at keys_at, tt))

  sure_at : At tested t Flag
  sure_at = at_past row test_kinds 0 t Flag (omega (arith, row_long)) refl

  belongs_at : At tested (t + 1) Flag
  belongs_at = at_past row test_kinds 1 (t + 1) Flag (omega (arith, row_long)) refl

  weights_kinds : AllMean plain_kind tested (plans.weights places) weight_kinds
  weights_kinds = (
    and_kind tested (plans.is_sure places) (Column (b + 3 * k)) (column_kind tested t Flag sure_at) (column_kind tested (b + 3 * k) Flag (at_more row test_kinds (b + 3 * k) Flag flags_at.0)),
    (
      and_kind tested (plans.belongs places) (Column (b + 3 * k + 1)) (column_kind tested (t + 1) Flag belongs_at) (column_kind tested (b + 3 * k + 1) Flag (at_more row test_kinds (b + 3 * k + 1) Flag flags_at.1)),
      tt,
    ),
  )

  two_more : (r more : List Kind) (q : ℕ) (xs : List Kind) → TwoAt r q xs → TwoAt (r ++ more) q xs
  two_more r more q [] h = tt
  two_more r more q (x ∷ xs) h = ((at_more r more q x h.0.0, at_more r more (q + 1) x h.0.1), two_more r more (q + 2) xs h.1)

  weighed_values : FiveAt weighed (b + 3 * k + 2) es
  weighed_values = five_more tested weight_kinds (b + 3 * k + 2) es (five_more row test_kinds (b + 3 * k + 2) es values_there)

  sure_flag : HasKind weighed (plans.is_sure places) Flag
  sure_flag = column_kind weighed t Flag (at_more tested weight_kinds t Flag sure_at)

  surely_kind : HasKind weighed (plans.surely places) Flag
  surely_kind = column_kind weighed (t + 2) Flag (at_past tested weight_kinds 0 (t + 2) Flag (omega (arith, tested_long)) refl)

  guessed_kind : HasKind weighed (plans.guessed places) Flag
  guessed_kind = column_kind weighed (t + 3) Flag (at_past tested weight_kinds 1 (t + 3) Flag (omega (arith, tested_long)) refl)

  belongs_kind : HasKind weighed (plans.belongs places) Flag
  belongs_kind = column_kind weighed (t + 1) Flag (at_more tested weight_kinds (t + 1) Flag belongs_at)

  with_sure_kind : (y z : ℕ) → At weighed y Int → At weighed z Int → HasKind weighed (plans.with_sure places y z) Int
  with_sure_kind y z p q =
      case_kind weighed (Add (Column y) (Column z)) (Column y) Int (plans.is_sure places) sure_flag (add_kind weighed (Column y) (Column z) (column_kind weighed y Int p) (column_kind weighed z Int q)) (column_kind weighed y Int p)

  -- the four columns of an end
  ends_kinds : (q y : ℕ) (e : Kind) → At weighed q e × At weighed (q + 1) e → At weighed y e × At weighed (y + 1) e × At weighed (y + 2) e × At weighed (y + 3) e × At weighed (y + 4) Int → AllMean plain_kind weighed (plans.end_columns places q y) (e ∷ e ∷ e ∷ e ∷ [])
  ends_kinds q y e two five = (
    column_kind weighed y e five.0,
    (
      case_kind weighed (Column (y + 1)) (Column (q + 1)) e (plans.guessed places) guessed_kind (column_kind weighed (y + 1) e five.1) (column_kind weighed (q + 1) e two.1),
      (
        case_kind weighed (Column (y + 2)) (Column q) e (plans.surely places) surely_kind (column_kind weighed (y + 2) e five.2) (column_kind weighed q e two.0),
        (column_kind weighed (y + 3) e five.3, tt),
      ),
    ),
  )

  members_kinds : (q y : ℕ) (bs : List Agg) → TwoAt weighed q (ends_of bs) → FiveAt weighed y (kinds_of bs) → AllMean plain_kind weighed (each_member_columns places q y bs) (fours (kinds_of bs))
  members_kinds q y [] two five = (case_kind weighed one_term zero_term Int (plans.surely places) surely_kind (λ more. refl) (λ more. refl), tt)
  members_kinds q y (agg.Sum d ∷ bs) two five = (
    with_sure_kind y (y + 3) five.0.0 five.0.3,
    (
      case_kind weighed (Column (y + 1)) zero_term Int (plans.belongs places) belongs_kind (column_kind weighed (y + 1) Int five.0.1) (λ more. refl),
      (with_sure_kind (y + 2) (y + 4) five.0.2 five.0.4, ((λ more. refl), members_kinds q (y + 5) bs two five.1)),
    ),
  )
  members_kinds q y (agg.Min d ∷ bs) two five =
      let own = ends_kinds q y (kind_on ks (agg.Min d)) two.0 five.0 in
      (own.0, (own.1.0, (own.1.1.0, (own.1.1.1.0, members_kinds (q + 2) (y + 5) bs two.1 five.1))))
  members_kinds q y (agg.Max d ∷ bs) two five =
      let own = ends_kinds q y (kind_on ks (agg.Max d)) two.0 five.0 in
      (own.0, (own.1.0, (own.1.1.0, (own.1.1.1.0, members_kinds (q + 2) (y + 5) bs two.1 five.1))))

  abbrev columns : List PTerm
  columns = all_member_columns places (3 * k + 3) aggs

  abbrev added : List Kind
  added = test_kinds ++ (weight_kinds ++ fours es)

  columns_added : add_columns plain_kind columns row ≡ Some (row ++ added)
  columns_added =
      let each = each_member_columns places (3 * k + 3) (b + 3 * k + 2) aggs in
      let two = two_more tested weight_kinds (3 * k + 3) (ends_of aggs) (two_more row test_kinds (3 * k + 3) (ends_of aggs) kept_at) in
      then_adds plain_kind (plans.tests places) (plans.weights places ++ each) row tested (Some (row ++ added)) (adds plain_kind row (plans.tests places) test_kinds tests_kinds)
      (then_adds plain_kind (plans.weights places) each tested weighed (Some (row ++ added)) (adds plain_kind tested (plans.weights places) weight_kinds weights_kinds)
      (adds plain_kind weighed each (fours es) (members_kinds (3 * k + 3) (b + 3 * k + 2) aggs two weighed_values)
      ∙ ap Some (append_assoc tested weight_kinds (fours es) ∙ append_assoc row test_kinds (weight_kinds ++ fours es))))

  abbrev wide : List Kind
  wide = row ++ added

  fours_there : FourAt wide (t + 4) es
  fours_there =
      subst (λ r. FourAt r (t + 4) es) (append_assoc tested weight_kinds (fours es) ∙ append_assoc row test_kinds (weight_kinds ++ fours es))
      (four_at weighed (t + 4) es (omega (arith, length-append tested weight_kinds, tested_long)))

  -- the kinds of the results
  results_are : (n : ℕ) (bs : List Agg) → FourAt wide n (kinds_of bs) → all_kinds (map (plain_agg_kind wide) (all_member_aggs n bs)) ≡ Some (fours (kinds_of bs))
  results_are n [] at = λ i. option_and_then (λ a. Some (a ∷ [])) (at i)
  results_are n (agg.Sum d ∷ bs) at =
      let rest = results_are (n + 4) bs at.1 in
      let int = λ (i : ℕ) (h : At wide i Int). ap (λ o. if is_kind Int o then Some Int else None) h in
      λ i.
      option_and_then (λ u. option_and_then (λ more. Some (u ∷ more)) (option_and_then (λ v. option_and_then (λ more. Some (v ∷ more)) (option_and_then (λ w. option_and_then (λ more. Some (w ∷ more)) (option_and_then (λ x. option_and_then (λ more. Some (x ∷ more)) (rest i)) (int (n + 3) at.0.3 i))) (int (n + 2) at.0.2 i))) (int (n + 1) at.0.1 i))) (int n at.0.0 i)
  results_are n (agg.Min d ∷ bs) at =
      let rest = results_are (n + 4) bs at.1 in
      λ i.
      option_and_then (λ u. option_and_then (λ more. Some (u ∷ more)) (option_and_then (λ v. option_and_then (λ more. Some (v ∷ more)) (option_and_then (λ w. option_and_then (λ more. Some (w ∷ more)) (option_and_then (λ x. option_and_then (λ more. Some (x ∷ more)) (rest i)) (at.0.3 i))) (at.0.2 i))) (at.0.1 i))) (at.0.0 i)
  results_are n (agg.Max d ∷ bs) at =
      let rest = results_are (n + 4) bs at.1 in
      λ i.
      option_and_then (λ u. option_and_then (λ more. Some (u ∷ more)) (option_and_then (λ v. option_and_then (λ more. Some (v ∷ more)) (option_and_then (λ w. option_and_then (λ more. Some (w ∷ more)) (option_and_then (λ x. option_and_then (λ more. Some (x ∷ more)) (rest i)) (at.0.3 i))) (at.0.2 i))) (at.0.1 i))) (at.0.0 i)

  -- a box with its results
  abbrev pub grouped_kinds : List Kind
  grouped_kinds = box_kinds ++ fours es

  abbrev aggs_over : List PAgg
  aggs_over = all_member_aggs (t + 4) aggs

  module _ (tk : List (List Kind)) (boxes p : PlanTree) (boxed : plan_kinds tk boxes ≡ Some box_kinds) (typed : plan_kinds tk p ≡ Some folded) where
    join_kinds : plan_kinds tk (Join (meets_term b 0 k) boxes p) ≡ Some row
    join_kinds =
        ap (option_and_then (λ xs. option_and_then (λ ys. kinds_if (is_kind Flag (plain_kind (xs ++ ys) (meets_term b 0 k))) (xs ++ ys)) (plan_kinds tk p))) boxed
        ∙ ap (option_and_then (λ ys. kinds_if (is_kind Flag (plain_kind (box_kinds ++ ys) (meets_term b 0 k))) (box_kinds ++ ys))) typed
        ∙ ap (λ o. kinds_if (is_kind Flag o) row) (means_now plain_kind row (meets_term b 0 k) Flag (meets_kind row b 0 k js long keys_at box_at))

    -- the second grouping is typed
    pub second_kinds : plan_kinds tk (second_grouping k b columns aggs_over boxes p) ≡ Some grouped_kinds
    second_kinds =
        let wider = kinds-extend_all tk columns (Join (meets_term b 0 k) boxes p) row wide join_kinds columns_added in
        let picks = subst (λ r. Picks r (run 0 b) box_kinds) (sym (append_assoc box_kinds folded added)) (first_picks box_kinds (folded ++ added) b box_long) in
        ap (option_and_then (λ xs. option_and_then (λ ys. option_and_then (λ more. Some (ys ++ more)) (all_kinds (map (plain_agg_kind xs) aggs_over))) (kept_kinds (run 0 b) xs))) wider
        ∙ (λ i. option_and_then (λ ys. option_and_then (λ more. Some (ys ++ more)) (results_are (t + 4) aggs fours_there i)) (kinds_kept wide (run 0 b) box_kinds picks i))

    finals : (z : ℕ) (bs : List Agg) (there has_guess : PTerm) → HasKind grouped_kinds there Flag → HasKind grouped_kinds has_guess Flag → FourAt grouped_kinds z (kinds_of bs) → AllMean plain_kind grouped_kinds (all_result_columns there has_guess z bs) (triple_kinds (kinds_of bs))
    finals z [] there has_guess u v at = tt
    finals z (agg.Sum d ∷ bs) there has_guess u v at =
        let low = column_kind grouped_kinds z Int at.0.0 in (
          low,
          (
            case_kind grouped_kinds (Column (z + 1)) (Column z) Int has_guess v (column_kind grouped_kinds (z + 1) Int at.0.1) low,
            (column_kind grouped_kinds (z + 2) Int at.0.2, finals (z + 4) bs there has_guess u v at.1),
          ),
        )
    finals z (agg.Min d ∷ bs) there has_guess u v at =
        let e = kind_on ks (agg.Min d) in
        let low = column_kind grouped_kinds z e at.0.0 in (
          low,
          (
            case_kind grouped_kinds (Column (z + 1)) (Column z) e has_guess v (column_kind grouped_kinds (z + 1) e at.0.1) low,
            (
              case_kind grouped_kinds (Column (z + 2)) (Column (z + 3)) e there u (column_kind grouped_kinds (z + 2) e at.0.2) (column_kind grouped_kinds (z + 3) e at.0.3),
              finals (z + 4) bs there has_guess u v at.1,
            ),
          ),
        )
    finals z (agg.Max d ∷ bs) there has_guess u v at =
        let e = kind_on ks (agg.Max d) in
        let inner = Case there (Column (z + 2)) (Column (z + 3)) in
        let low = case_kind grouped_kinds (Column (z + 2)) (Column (z + 3)) e there u (column_kind grouped_kinds (z + 2) e at.0.2) (column_kind grouped_kinds (z + 3) e at.0.3) in (
          low,
          (
            case_kind grouped_kinds (Column (z + 1)) inner e has_guess v (column_kind grouped_kinds (z + 1) e at.0.1) low,
            (column_kind grouped_kinds z e at.0.0, finals (z + 4) bs there has_guess u v at.1),
          ),
        )

    abbrev there : ℕ
    there = b + 4 * length aggs

    abbrev has_guess : PTerm
    has_guess = positive (sg (3 * k))

    abbrev finish : List PTerm
    finish = all_result_columns (positive (Column there)) has_guess b aggs

    abbrev whole : List Kind
    whole = grouped_kinds ++ triple_kinds es

    grouped_long : length grouped_kinds ≡ there + 1
    grouped_long = omega (arith, length-append box_kinds (fours es), box_long, fours_long es, length-map aggs (kind_on ks))

    counts_at : Ends own own own grouped_kinds (3 * k) Int
    counts_at = ends_more own own own box_kinds (fours es) (3 * k) Int (ends_past own own own (triple_kinds js) (twice (ends_of aggs)) (3 * k) Int keys_long)

    shown_picks : Picks whole (result_places k (there + 1) (length aggs)) (encoded_kinds (js ++ es))
    shown_picks =
        let keys_there = all_ends_more own own own grouped_kinds (triple_kinds es) 0 js (all_ends_more own own own box_kinds (fours es) 0 js (all_ends_at own own own [] (counts_kinds ++ twice (ends_of aggs)) 0 js refl)) in
        let first = pick_cells own own own whole 0 k js long keys_there in
        let second = pick_cells own own own whole (there + 1) (length aggs) es (length-map aggs (kind_on ks))
        (subst (λ q. EndsOfAll own own own (grouped_kinds ++ q) (there + 1) es) (append-nil (triple_kinds es)) (all_ends_at own own own grouped_kinds [] (there + 1) es grouped_long)) in
        let last = pick_three own own own whole (3 * k) Int (ends_more own own own grouped_kinds (triple_kinds es) (3 * k) Int counts_at) in
        let turned : triple_kinds js ++ (triple_kinds es ++ counts_kinds) ≡ encoded_kinds (js ++ es) =
        sym (append_assoc (triple_kinds js) (triple_kinds es) counts_kinds) ∙ ap (λ q. q ++ counts_kinds) (sym (all_ends-append own own own js es)) in
        subst (λ vs. Picks whole (result_places k (there + 1) (length aggs)) vs) turned
        (picks_more whole (cell_places 0 k) (cell_places (there + 1) (length aggs) ++ three_places (3 * k)) (triple_kinds js) (triple_kinds es ++ counts_kinds) first
        (picks_more whole (cell_places (there + 1) (length aggs)) (three_places (3 * k)) (triple_kinds es) counts_kinds second last))

    -- and so are the ranges from its results
    pub shown_kinds : plan_kinds tk (Keep (result_places k (there + 1) (length aggs)) (extend_all finish (second_grouping k b columns aggs_over boxes p))) ≡ Some (encoded_kinds (js ++ es))
    shown_kinds =
        let second = second_grouping k b columns aggs_over boxes p in
        let found = four_at box_kinds b es box_long in
        let last = subst (λ n. At grouped_kinds (b + 4 * n) Int) (length-map aggs (kind_on ks)) (last_kind grouped_kinds b es found) in
        let u = positive_kind grouped_kinds (Column there) (column_kind grouped_kinds there Int last) in
        let v = positive_kind grouped_kinds (sg (3 * k)) (column_kind grouped_kinds (3 * k + 1) Int counts_at.sg) in
        let grown = adds plain_kind grouped_kinds finish (triple_kinds es) (finals b aggs (positive (Column there)) has_guess u v found) in
        kinds-keep tk (result_places k (there + 1) (length aggs)) (extend_all finish second) whole (encoded_kinds (js ++ es)) (kinds-extend_all tk finish second grouped_kinds whole second_kinds grown) shown_picks

  -- The boxes have their kinds, and Group's plan those of the keys and of the aggregates.
  module _ (tk : List (List Kind)) (p : PlanTree) (typed : HasKinds tk p ks) where
    pub boxes_typed : plan_kinds tk (first_grouping c k kept p) ≡ Some box_kinds
    boxes_typed =
        let cells = coded_cells own own own own own own c ks Int refl in
        first_kinds tk ks js k kept (twice (ends_of aggs)) p long (kept_long aggs) (part (encoded_kinds ks) 0 cells)
        (kept_kinds_are (encoded_kinds ks ++ four) (all_ends_more own own own (encoded_kinds ks) four 0 ks cells) aggs on) typed

    pub folds_there : (how : Folding) → plan_kinds tk (folds how c k aggs p) ≡ Some folded
    folds_there how = folds_typed ks js k long part aggs on tk p typed how

    -- with any boxes of these kinds
    pub over_typed : (boxes : PlanTree) → plan_kinds tk boxes ≡ Some box_kinds → (how : Folding) → HasKinds tk (group_over how c k aggs boxes p) (js ++ es)
    over_typed boxes boxed how = shown_kinds tk boxes (folds how c k aggs p) boxed (folds_there how)

    pub group_typed : (how : Folding) → HasKinds tk (group_plan how c k aggs p) (js ++ es)
    group_typed how = over_typed (first_grouping c k kept p) boxes_typed how
