-- A plan over tables with their rows in another order: the same rows, up to order, and numbers that fit just as well.
use Rattle.std.specs.Prelude.{ℕ, zero, suc, List, [], ◌∷◌, ◌++◌, map, flat_map, unwrap_or, slice_get}
use Rattle.std.specs.List.{AllZip}
use Rattle.std.proofs.Common.{refl}
use Rattle.au_expr.specs.Figures.{Fit}
use Rattle.au_expr.proofs.Fits.{fit_both, fit_parts}
use Rattle.au_algebra.specs.Ordinary.{Rows}
use Rattle.au_algebra.proofs.Occurring.{SameCopies, same_map}
use Rattle.au_plain.specs.Meaning.{extended, kept, passes, plain_rows}
use Rattle.au_plain.specs.PlanNumbers.{group_numbers, plan_numbers, term_numbers}
use Rattle.au_plain.specs.Plans.{PlanTree}
use Rattle.au_plain.specs.Plans as plan
use Rattle.au_plan.proofs.Groups.{same_group, same_group_fit}
use Rattle.au_plan.proofs.UpToOrder.{same_append, same_filter, same_fit, same_product}

table_same : (ts us : List Rows) → AllZip SameCopies ts us → (i : ℕ) → SameCopies (unwrap_or (slice_get ts i) []) (unwrap_or (slice_get us i) [])
table_same [] [] same i = λ v. refl
table_same [] (u ∷ us) same i = elim same [ ]
table_same (t ∷ ts) [] same i = elim same [ ]
table_same (t ∷ ts) (u ∷ us) same zero = same.0
table_same (t ∷ ts) (u ∷ us) same (suc i) = table_same ts us same.1 i

module _ (ts us : List Rows) (same : AllZip SameCopies ts us) where
  -- its rows
  pub rows_same : (p : PlanTree) → SameCopies (plain_rows p ts) (plain_rows p us)
  rows_same (plan.Scan t w) = table_same ts us same t
  rows_same (plan.Rows w rows) = λ v. refl
  rows_same (plan.Extend e p) = same_map (extended e) (plain_rows p ts) (plain_rows p us) (rows_same p)
  rows_same (plan.Keep places p) = same_map (kept places) (plain_rows p ts) (plain_rows p us) (rows_same p)
  rows_same (plan.Filter e p) = same_filter (passes e) (plain_rows p ts) (plain_rows p us) (rows_same p)
  rows_same (plan.Join e p q) =
      same_filter (passes e) (flat_map (λ a. map (λ b. a ++ b) (plain_rows q ts)) (plain_rows p ts))
      (flat_map (λ a. map (λ b. a ++ b) (plain_rows q us)) (plain_rows p us))
      (same_product (plain_rows p ts) (plain_rows q ts) (plain_rows p us) (plain_rows q us) (rows_same p) (rows_same q))
  rows_same (plan.Union p q) = same_append (plain_rows p ts) (plain_rows q ts) (plain_rows p us) (plain_rows q us) (rows_same p) (rows_same q)
  rows_same (plan.Group keys aggs p) = same_group keys aggs (plain_rows p ts) (plain_rows p us) (rows_same p)

  -- its numbers
  pub numbers_fit : (p : PlanTree) → Fit (plan_numbers p us) → Fit (plan_numbers p ts)
  numbers_fit (plan.Scan t w) f = refl
  numbers_fit (plan.Rows w rows) f = refl
  numbers_fit (plan.Extend e p) f =
      let n = fit_parts (plan_numbers p us) (flat_map (term_numbers e) (plain_rows p us)) f in
      fit_both (plan_numbers p ts) (flat_map (term_numbers e) (plain_rows p ts)) (numbers_fit p n.0)
      (same_fit (term_numbers e) (plain_rows p ts) (plain_rows p us) (rows_same p) n.1)
  numbers_fit (plan.Keep places p) f = numbers_fit p f
  numbers_fit (plan.Filter e p) f =
      let n = fit_parts (plan_numbers p us) (flat_map (term_numbers e) (plain_rows p us)) f in
      fit_both (plan_numbers p ts) (flat_map (term_numbers e) (plain_rows p ts)) (numbers_fit p n.0)
      (same_fit (term_numbers e) (plain_rows p ts) (plain_rows p us) (rows_same p) n.1)
  numbers_fit (plan.Join e p q) f =
      let pairs = flat_map (λ a. map (λ b. a ++ b) (plain_rows q ts)) (plain_rows p ts) in
      let others = flat_map (λ a. map (λ b. a ++ b) (plain_rows q us)) (plain_rows p us) in
      let n = fit_parts (plan_numbers p us ++ plan_numbers q us) (flat_map (term_numbers e) others) f in
      let m = fit_parts (plan_numbers p us) (plan_numbers q us) n.0 in
      fit_both (plan_numbers p ts ++ plan_numbers q ts) (flat_map (term_numbers e) pairs)
      (fit_both (plan_numbers p ts) (plan_numbers q ts) (numbers_fit p m.0) (numbers_fit q m.1))
      (same_fit (term_numbers e) pairs others
      (same_product (plain_rows p ts) (plain_rows q ts) (plain_rows p us) (plain_rows q us) (rows_same p) (rows_same q)) n.1)
  numbers_fit (plan.Union p q) f =
      let m = fit_parts (plan_numbers p us) (plan_numbers q us) f in
      fit_both (plan_numbers p ts) (plan_numbers q ts) (numbers_fit p m.0) (numbers_fit q m.1)
  numbers_fit (plan.Group keys aggs p) f =
      let n = fit_parts (plan_numbers p us) (group_numbers keys aggs (plain_rows p us)) f in
      fit_both (plan_numbers p ts) (group_numbers keys aggs (plain_rows p ts)) (numbers_fit p n.0)
      (same_group_fit keys aggs (plain_rows p ts) (plain_rows p us) (rows_same p) n.1)
