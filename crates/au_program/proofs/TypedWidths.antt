-- The widths of a typed plan fit.
use Rattle.std.specs.Prelude.{◌≡◌, ◌+◌, ◌&&◌, ◌==◌, ℕ, true, List, [], ◌∷◌, length, map, Some}
use Rattle.std.specs.List.{list_all}
use Rattle.std.proofs.Common.{refl, sym, ◌∙◌, ap, eq-eqb}
use Rattle.std.proofs.lemmas.Bool.{and_parts}
use Rattle.au_value.specs.declared.kinds.Kind.{Kind}
use Rattle.au_value.specs.declared.value.Value.{Value}
use Rattle.au_value.specs.Order.{kind_of}
use Rattle.au_algebra.specs.Typing.{same_kinds}
use Rattle.au_algebra.proofs.Items.{and_then_is, chosen_is}
use Rattle.au_algebra.proofs.PositiveRelation.{same_kinds_is}
use Rattle.au_plain.specs.PlanKinds.{list_kinds, plan_kinds, row_fits}
use Rattle.au_plain.specs.Plans.{PlanTree}
use Rattle.au_plain.specs.Plans as plan
use Rattle.au_plain.specs.Widths.{plan_width}
use Rattle.au_plain.proofs.Widths.{width_is}
use Rattle.au_sqltext.specs.Fitting.{widths_fit}
use Rattle.au_sqltext.specs.Texts.{width}

-- the width of a text is that of the plan
same_width : (p : PlanTree) → width p ≡ plan_width p
same_width (plan.Scan t n) = refl
same_width (plan.Rows n rows) = refl
same_width (plan.Extend e p) = ap (λ n. n + 1) (same_width p)
same_width (plan.Keep places p) = refl
same_width (plan.Filter e p) = same_width p
same_width (plan.Join e p q) = λ i. same_width p i + same_width q i
same_width (plan.Union p q) = same_width p
same_width (plan.Group keys aggs p) = refl

-- rows with kinds have their width
listed_wide : (w : ℕ) (ks : List Kind) (rows : List (List Value)) → list_all (λ r. (length r == w) && (same_kinds (map kind_of r) ks && row_fits r)) rows ≡ true → list_all (λ row. length row == w) rows ≡ true
listed_wide w ks [] h = refl
listed_wide w ks (r ∷ rows) h =
    let p = and_parts _ (list_all (λ r'. (length r' == w) && (same_kinds (map kind_of r') ks && row_fits r')) rows) h in
    let q = and_parts (length r == w) (same_kinds (map kind_of r) ks && row_fits r) p.0 in
    let rest = listed_wide w ks rows p.1 in
    λ i. q.0 i && rest i

rows_wide : (w : ℕ) (rows : List (List Value)) (ks : List Kind) → list_kinds w rows ≡ Some ks → list_all (λ row. length row == w) rows ≡ true
rows_wide w [] ks h = refl
rows_wide w (r ∷ rows) ks h = listed_wide w (map kind_of r) (r ∷ rows) (chosen_is _ (Some (map kind_of r)) ks h).0

module _ (tk : List (List Kind)) where
  pub typed_widths : (p : PlanTree) (ks : List Kind) → plan_kinds tk p ≡ Some ks → widths_fit p ≡ true
  typed_widths (plan.Scan t w) ks h = refl
  typed_widths (plan.Rows w rows) ks h = rows_wide w rows ks h
  typed_widths (plan.Extend e q) ks h = let p = and_then_is _ (plan_kinds tk q) ks h in typed_widths q p.0 p.1
  typed_widths (plan.Keep places q) ks h = let p = and_then_is _ (plan_kinds tk q) ks h in typed_widths q p.0 p.1
  typed_widths (plan.Filter e q) ks h = let p = and_then_is _ (plan_kinds tk q) ks h in typed_widths q p.0 p.1
  typed_widths (plan.Join e q r) ks h =
      let p = and_then_is _ (plan_kinds tk q) ks h in
      let s = and_then_is _ (plan_kinds tk r) ks p.2 in
      let left = typed_widths q p.0 p.1 in
      let right = typed_widths r s.0 s.1 in
      λ i. left i && right i
  typed_widths (plan.Union q r) ks h =
      let p = and_then_is _ (plan_kinds tk q) ks h in
      let s = and_then_is _ (plan_kinds tk r) ks p.2 in
      let u = chosen_is _ (Some p.0) ks s.2 in
      let left = typed_widths q p.0 p.1 in
      let right = typed_widths r s.0 s.1 in
      let alike : width q ≡ width r =
      same_width q ∙ sym (width_is tk q p.0 p.1) ∙ ap length (same_kinds_is p.0 s.0 u.0) ∙ width_is tk r s.0 s.1 ∙ sym (same_width r) in
      let equal : (width q == width r) ≡ true = eq-eqb (width q) (width r) alike in
      λ i. left i && right i && equal i
  typed_widths (plan.Group keys aggs q) ks h = let p = and_then_is _ (plan_kinds tk q) ks h in typed_widths q p.0 p.1
