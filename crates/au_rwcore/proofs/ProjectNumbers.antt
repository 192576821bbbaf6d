-- The numbers of Project's plan fit where those of the items do.
use Rattle.std.specs.Prelude.{◌≡◌, ℕ, ◌+◌, ◌*◌, List, ◌++◌, length, flat_map, Some, ℤ}
use Rattle.std.specs.List.{AllByRecursion}
use Rattle.std.proofs.Common.{sym, subst}
use Rattle.au_value.specs.declared.kinds.Kind.{Kind}
use Rattle.au_value.specs.declared.value.Value.{Value}
use Rattle.au_value.specs.Ranges.{IsRangeOf}
use Rattle.au_expr.specs.Terms.{Term}
use Rattle.au_expr.specs.OnRanges.{range_of}
use Rattle.au_expr.specs.Figures.{Fit}
use Rattle.au_expr.specs.Numbers.{expr_numbers}
use Rattle.au_algebra.specs.Ordinary.{Rows}
use Rattle.au_algebra.specs.Bounded.{RangeRow, Bounded}
use Rattle.au_algebra.specs.Laws.{IsRangeRow, IsRelation}
use Rattle.au_algebra.specs.Typing.{items_kinds}
use Rattle.au_plain.specs.Plans.{PlanTree}
use Rattle.au_plain.specs.PlanNumbers.{plan_numbers}
use Rattle.au_encode.specs.Encode.{encode_row}
use Rattle.au_encode.proofs.Decoded.{cells_length}
use Rattle.au_rwexpr.specs.Adding.{grow_numbers}
use Rattle.au_rwexpr.specs.Flatten.{flatten_items}
use Rattle.au_rwcore.specs.Core.{project_plan}
use Rattle.au_rwexpr.proofs.Careful.{careful, careful_grow}
use Rattle.au_rwexpr.proofs.Coded.{rl, rs, rh, cl, cg, cm}
use Rattle.au_rwexpr.proofs.Gives.{GivesEncoded}
use Rattle.au_rwexpr.proofs.OnNumbers.{Fine, below_fine, careful_steps}
use Rattle.au_rwexpr.proofs.Picks.{coded_long, coded_cells}
use Rattle.au_rwexpr.proofs.PlanNumbersOf.{all_fit, all_made, numbers-extend_all}
use Rattle.au_rwexpr.proofs.Structure.{items_added, items_law}
use Rattle.au_rwexpr.proofs.Allowed.{all_both}

module _ (ks : List Kind) (items : List Term) (js : List Kind) (typed : items_kinds ks items ≡ Some js) where
  abbrev c : ℕ
  c = length ks

  abbrev n : ℕ
  n = 3 * c + 3

  abbrev numbers_on : RangeRow → List ℤ
  numbers_on r = flat_map (λ e. expr_numbers e r.cells) items

  abbrev Sound : RangeRow → Type 0
  Sound r = IsRangeRow ks r × Fit (numbers_on r)

  abbrev FitRow : List Value → Type 0
  FitRow row = Fit (grow_numbers (flatten_items n items) row)

  items_fit : (r : RangeRow) → IsRangeRow ks r → Fit (numbers_on r) → FitRow (encode_row r)
  items_fit r v f =
      let long = cells_length IsRangeOf ks r.cells v.cells in
      let result : Term → _ = λ t. range_of t r.cells in
      let fine : AllByRecursion (Fine ks r.cells long) items = all_fit (λ e. expr_numbers e r.cells) items f in
      let row = encode_row r in
      (careful_grow (flatten_items n items) row (row ++ items_added rl rs rh careful ks r.cells result items)
      (items_law rl rs rh careful ks r.cells result (Fine ks r.cells long) (below_fine ks r.cells long) (careful_steps ks r.cells long) items js fine typed row n
      (coded_long rl rs rh cl cg cm c r.cells r.annot long) (coded_cells rl rs rh cl cg cm c r.cells r.annot long))).1

  -- Project's plan adds no number that does not fit.
  pub project_fits : (ts : List Rows) (p : PlanTree) (rows : Bounded) → IsRelation ks rows → GivesEncoded ts p rows → Fit (flat_map (λ r. flat_map (λ e. expr_numbers e r.cells) items) rows) → Fit (plan_numbers p ts) → Fit (plan_numbers (project_plan c items p) ts)
  project_fits ts p rows ok g f np =
      let sound : AllByRecursion Sound rows = all_both (IsRangeRow ks) (λ r. Fit (numbers_on r)) rows ok (all_fit numbers_on rows f) in
      numbers-extend_all ts (flatten_items n items) p np
      (subst (λ rows. AllByRecursion FitRow rows) (sym g) (all_made Sound FitRow encode_row rows sound (λ r q. items_fit r q.0 q.1)))
