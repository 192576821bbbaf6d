-- The plan of the folds is typed, however rows are folded.
use Rattle.std.specs.Prelude.{◌≡◌, ℕ, ◌+◌, ◌*◌, List, [], ◌∷◌, ◌++◌, length, map, Some, None, option_and_then, if◌then◌else◌}
use Rattle.std.specs.List.{AllByRecursion}
use Rattle.std.proofs.Common.{arith, refl, ◌∙◌, ap, subst, append_assoc}
use Rattle.std.proofs.lemmas.List.{length-append, length-map}
use Rattle.au_value.specs.declared.kinds.Kind.{Kind}
use Rattle.au_value.specs.declared.kinds.Kind.TheVariants.{Int, Flag}
use Rattle.au_expr.specs.Kinds.{is_kind}
use Rattle.au_algebra.specs.declared.query.Agg.{Agg}
use Rattle.au_algebra.specs.declared.query.Agg.TheVariants as agg
use Rattle.au_algebra.specs.Typing.{all_kinds}
use Rattle.au_plain.specs.declared.expr.Comparison2.TheVariants.{Less}
use Rattle.au_plain.specs.PTerms.{PTerm, Compare, Multiply}
use Rattle.au_plain.specs.Plans.{PlanTree, extend_all}
use Rattle.au_plain.specs.PlanKinds.{plan_kinds, plain_kind, plain_agg_kind, kept_kinds}
use Rattle.au_encode.specs.Encode.{encoded_kinds, triple_kinds}
use Rattle.au_rwexpr.specs.Cells.{cell_places, run}
use Rattle.au_rwexpr.specs.Counts.{zero_term}
use Rattle.au_rwexpr.specs.Flatten.{lo, sg, hi}
use Rattle.au_rwexpr.proofs.Coded.{own}
use Rattle.au_rwexpr.proofs.Columns.{AllMean, adds}
use Rattle.au_rwexpr.proofs.Gives.{HasKinds, kinds-extend_all, kinds-keep}
use Rattle.au_rwexpr.proofs.OnKinds.{HasKind, column_kind, test_kind, case_kind, multiply_kind, positive_kind}
use Rattle.au_rwexpr.proofs.Picks.{Picks, kinds_kept, picks_more, pick_cells, coded_cells, coded_triple, coded_long}
use Rattle.au_rwexpr.proofs.Places.{At, at_more, at_past, Ends, ends_at, EndsOfAll, all_ends_more}
use Rattle.au_rwgroup.specs.declared.folding.Folding.{Folding}
use Rattle.au_rwgroup.specs.declared.folding.Folding.TheVariants as folding
use Rattle.au_rwgroup.specs.Folds.{all_fold_terms, fold_columns, fold_aggs, fold_places, folds, times_above, times_below}
use Rattle.au_rwgroup.proofs.AggregatesOn.{kind_on, OnColumn}
use Rattle.au_rwgroup.proofs.FoldRows.{last_picks}

-- each kind four times, and that of a sum
abbrev pub fives : List Kind → List Kind
fives [] = []
fives (e ∷ es) = e ∷ e ∷ e ∷ e ∷ Int ∷ fives es

pub fives_long : (es : List Kind) → length (fives es) ≡ 5 * length es
fives_long [] = refl
fives_long (e ∷ es) = omega (arith, fives_long es)

-- five columns for each kind
abbrev pub FiveAt : List Kind → ℕ → List Kind → Type 0
FiveAt row y [] = Unit {0}
FiveAt row y (e ∷ es) = (At row y e × At row (y + 1) e × At row (y + 2) e × At row (y + 3) e × At row (y + 4) Int) × FiveAt row (y + 5) es

pub five_at : (pre : List Kind) (y : ℕ) (es : List Kind) → length pre ≡ y → FiveAt (pre ++ fives es) y es
five_at pre y [] e = tt
five_at pre y (x ∷ es) e =
    let all = x ∷ x ∷ x ∷ x ∷ Int ∷ [] in
    let rest = fives (x ∷ es) in (
      (
        at_past pre rest 0 y x (omega (arith, e)) refl,
        at_past pre rest 1 (y + 1) x (omega (arith, e)) refl,
        at_past pre rest 2 (y + 2) x (omega (arith, e)) refl,
        at_past pre rest 3 (y + 3) x (omega (arith, e)) refl,
        at_past pre rest 4 (y + 4) Int (omega (arith, e)) refl,
      ),
      subst (λ r. FiveAt r (y + 5) es) (append_assoc pre all (fives es)) (five_at (pre ++ all) (y + 5) es (omega (arith, e, length-append pre all))),
    )

pub five_more : (row more : List Kind) (y : ℕ) (es : List Kind) → FiveAt row y es → FiveAt (row ++ more) y es
five_more row more y [] h = tt
five_more row more y (x ∷ es) h = (
  (at_more row more y x h.0.0, at_more row more (y + 1) x h.0.1, at_more row more (y + 2) x h.0.2, at_more row more (y + 3) x h.0.3, at_more row more (y + 4) Int h.0.4),
  five_more row more (y + 5) es h.1,
)

module _ (row : List Kind) where
  -- a count times a number, or 0
  below_kind : (a x : PTerm) → HasKind row a Int → HasKind row x Int → HasKind row (times_below a x) Int
  below_kind a x p r =
      case_kind row (Multiply a x) zero_term Int (Compare Less x zero_term) (test_kind row x zero_term Less Int r (λ more. refl)) (multiply_kind row a x p r) (λ more. refl)

  above_kind : (a x : PTerm) → HasKind row a Int → HasKind row x Int → HasKind row (times_above a x) Int
  above_kind a x p r =
      case_kind row zero_term (Multiply a x) Int (Compare Less x zero_term) (test_kind row x zero_term Less Int r (λ more. refl)) (λ more. refl) (multiply_kind row a x p r)

-- the kinds of a fold of keys of these kinds, for aggregates of these
abbrev pub fold_kinds : List Kind → List Kind → List Kind
fold_kinds js es = triple_kinds js ++ (Flag ∷ Flag ∷ fives es)

module _ (ks js : List Kind) (k : ℕ) (long : length js ≡ k) (part : (row : List Kind) (i : ℕ) → EndsOfAll own own own row i ks → EndsOfAll own own own row i js) (aggs : List Agg) (on : AllByRecursion (OnColumn ks) aggs) where
  abbrev c : ℕ
  c = length ks

  abbrev t : ℕ
  t = 3 * c

  abbrev kinds_of : List Agg → List Kind
  kinds_of bs = map (kind_on ks) bs

  abbrev es : List Kind
  es = kinds_of aggs

  abbrev row : List Kind
  row = encoded_kinds ks

  cells : EndsOfAll own own own row 0 ks
  cells = coded_cells own own own own own own c ks Int refl

  triple : Ends own own own row t Int
  triple = coded_triple own own own own own own c ks Int refl

  zero_kind : HasKind row zero_term Int
  zero_kind more = refl

  terms_kinds : (bs : List Agg) → AllByRecursion (OnColumn ks) bs → AllMean plain_kind row (all_fold_terms t bs) (fives (kinds_of bs))
  terms_kinds [] h = tt
  terms_kinds (agg.Sum d ∷ bs) h =
      let x = ends_at own own own row 0 d (3 * d) ks Int cells h.0 (let e : 3 * d ≡ 0 + 3 * d = omega arith in e) in
      let low = column_kind row (3 * d) Int x.lo in
      let high = column_kind row (3 * d + 2) Int x.hi in
      let least = column_kind row t Int triple.lo in
      let guess = column_kind row (t + 1) Int triple.sg in
      let most = column_kind row (t + 2) Int triple.hi in (
        below_kind row (hi t) (lo (3 * d)) most low,
        (
          multiply_kind row (sg t) (sg (3 * d)) guess (column_kind row (3 * d + 1) Int x.sg),
          (
            above_kind row (hi t) (hi (3 * d)) most high,
            (
              above_kind row (lo t) (lo (3 * d)) least low,
              (below_kind row (lo t) (hi (3 * d)) least high, terms_kinds bs h.1),
            ),
          ),
        ),
      )
  terms_kinds (agg.Min d ∷ bs) h =
      let e = kind_on ks (agg.Min d) in
      let x = ends_at own own own row 0 d (3 * d) ks e cells h.0 (let q : 3 * d ≡ 0 + 3 * d = omega arith in q) in
      let low = column_kind row (3 * d) e x.lo in
      let high = column_kind row (3 * d + 2) e x.hi in
      (low, (column_kind row (3 * d + 1) e x.sg, (high, (high, (zero_kind, terms_kinds bs h.1)))))
  terms_kinds (agg.Max d ∷ bs) h =
      let e = kind_on ks (agg.Max d) in
      let x = ends_at own own own row 0 d (3 * d) ks e cells h.0 (let q : 3 * d ≡ 0 + 3 * d = omega arith in q) in
      let low = column_kind row (3 * d) e x.lo in
      let high = column_kind row (3 * d + 2) e x.hi in
      (high, (column_kind row (3 * d + 1) e x.sg, (low, (low, (zero_kind, terms_kinds bs h.1)))))

  abbrev added : List Kind
  added = Flag ∷ Flag ∷ fives es

  abbrev wide : List Kind
  wide = row ++ added

  columns_kinds : AllMean plain_kind row (fold_columns t aggs) added
  columns_kinds = (
    positive_kind row (lo t) (column_kind row t Int triple.lo),
    (positive_kind row (sg t) (column_kind row (t + 1) Int triple.sg), terms_kinds aggs on),
  )

  row_long : length row ≡ 3 * c + 3
  row_long = coded_long own own own own own own c ks Int refl

  fives_there : FiveAt wide (3 * c + 5) es
  fives_there =
      subst (λ r. FiveAt r (3 * c + 5) es) (append_assoc row (Flag ∷ Flag ∷ []) (fives es))
      (five_at (row ++ Flag ∷ Flag ∷ []) (3 * c + 5) es (omega (arith, row_long, length-append row (Flag ∷ Flag ∷ []))))

  -- the kinds of the aggregates
  aggs_are : (n : ℕ) (bs : List Agg) → FiveAt wide n (kinds_of bs) → all_kinds (map (plain_agg_kind wide) (fold_aggs n bs)) ≡ Some (fives (kinds_of bs))
  aggs_are n [] at = refl
  aggs_are n (agg.Sum d ∷ bs) at =
      let rest = aggs_are (n + 5) bs at.1 in
      let int = λ (i : ℕ) (h : At wide i Int). ap (λ o. if is_kind Int o then Some Int else None) h in
      λ i.
      option_and_then (λ u. option_and_then (λ more. Some (u ∷ more)) (option_and_then (λ v. option_and_then (λ more. Some (v ∷ more)) (option_and_then (λ w. option_and_then (λ more. Some (w ∷ more)) (option_and_then (λ x. option_and_then (λ more. Some (x ∷ more)) (option_and_then (λ z. option_and_then (λ more. Some (z ∷ more)) (rest i)) (int (n + 4) at.0.4 i))) (int (n + 3) at.0.3 i))) (int (n + 2) at.0.2 i))) (int (n + 1) at.0.1 i))) (int n at.0.0 i)
  aggs_are n (agg.Min d ∷ bs) at =
      let rest = aggs_are (n + 5) bs at.1 in
      let int = λ (i : ℕ) (h : At wide i Int). ap (λ o. if is_kind Int o then Some Int else None) h in
      λ i.
      option_and_then (λ u. option_and_then (λ more. Some (u ∷ more)) (option_and_then (λ v. option_and_then (λ more. Some (v ∷ more)) (option_and_then (λ w. option_and_then (λ more. Some (w ∷ more)) (option_and_then (λ x. option_and_then (λ more. Some (x ∷ more)) (option_and_then (λ z. option_and_then (λ more. Some (z ∷ more)) (rest i)) (int (n + 4) at.0.4 i))) (at.0.3 i))) (at.0.2 i))) (at.0.1 i))) (at.0.0 i)
  aggs_are n (agg.Max d ∷ bs) at =
      let rest = aggs_are (n + 5) bs at.1 in
      let int = λ (i : ℕ) (h : At wide i Int). ap (λ o. if is_kind Int o then Some Int else None) h in
      λ i.
      option_and_then (λ u. option_and_then (λ more. Some (u ∷ more)) (option_and_then (λ v. option_and_then (λ more. Some (v ∷ more)) (option_and_then (λ w. option_and_then (λ more. Some (w ∷ more)) (option_and_then (λ x. option_and_then (λ more. Some (x ∷ more)) (option_and_then (λ z. option_and_then (λ more. Some (z ∷ more)) (rest i)) (int (n + 4) at.0.4 i))) (at.0.3 i))) (at.0.2 i))) (at.0.1 i))) (at.0.0 i)

  abbrev both : List Kind
  both = Flag ∷ Flag ∷ []

  -- the keys and the tests, and then the values
  picks : Picks wide (fold_places c k) (triple_kinds js ++ both)
  picks =
      picks_more wide (cell_places 0 k) ((3 * c + 3) ∷ (3 * c + 4) ∷ []) (triple_kinds js) both
      (pick_cells own own own wide 0 k js long (part wide 0 (all_ends_more own own own row added 0 ks cells))) (
        at_past row added 0 (3 * c + 3) Flag (omega (arith, row_long)) refl,
        (at_past row added 1 (3 * c + 4) Flag (omega (arith, row_long)) refl, tt),
      )

  values_picks : Picks wide (run (3 * c + 5) (5 * length aggs)) (fives es)
  values_picks =
      subst (λ r. Picks r (run (3 * c + 5) (5 * length aggs)) (fives es)) (append_assoc row both (fives es))
      (last_picks (row ++ both) (fives es) (3 * c + 5) (5 * length aggs) (omega (arith, row_long, length-append row both)) (omega (arith, fives_long es, length-map aggs (kind_on ks))))

  -- The folds have their kinds.
  module _ (tk : List (List Kind)) (p : PlanTree) (typed : HasKinds tk p ks) where
    wider : plan_kinds tk (extend_all (fold_columns t aggs) p) ≡ Some wide
    wider = kinds-extend_all tk (fold_columns t aggs) p row wide typed (adds plain_kind row (fold_columns t aggs) added columns_kinds)

    pub folds_typed : (how : Folding) → plan_kinds tk (folds how c k aggs p) ≡ Some (fold_kinds js es)
    folds_typed folding.EqualKeys =
        let places = fold_places c k in
        let over = fold_aggs (3 * c + 5) aggs in
        ap (option_and_then (λ xs. option_and_then (λ ys. option_and_then (λ more. Some (ys ++ more)) (all_kinds (map (plain_agg_kind xs) over))) (kept_kinds places xs))) wider
        ∙ (λ i. option_and_then (λ ys. option_and_then (λ more. Some (ys ++ more)) (aggs_are (3 * c + 5) aggs fives_there i)) (kinds_kept wide places (triple_kinds js ++ both) picks i))
        ∙ ap Some (append_assoc (triple_kinds js) both (fives es))
    folds_typed folding.Rows =
        let behind = run (3 * c + 5) (5 * length aggs) in
        kinds-keep tk (fold_places c k ++ behind) (extend_all (fold_columns t aggs) p) wide ((triple_kinds js ++ both) ++ fives es) wider
        (picks_more wide (fold_places c k) behind (triple_kinds js ++ both) (fives es) picks values_picks)
        ∙ ap Some (append_assoc (triple_kinds js) both (fives es))
