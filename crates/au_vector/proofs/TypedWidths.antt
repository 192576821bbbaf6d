-- A plan that is typed for tables has its widths over their cells.
use Rattle.std.specs.Prelude.{◌≡◌, ◌+◌, ◌&&◌, ◌==◌, ℕ, zero, suc, IsTrue, List, [], ◌∷◌, ◌++◌, length, map, slice_get, unwrap_or, Some}
use Rattle.std.specs.List.{AllZip, list_all}
use Rattle.std.proofs.Common.{sym, ◌∙◌, ap, subst, length-append}
use Rattle.std.proofs.lemmas.Bool.{and_parts}
use Rattle.std.proofs.lemmas.List.{length-map}
use Rattle.au_value.specs.declared.kinds.Kind.{Kind}
use Rattle.au_value.specs.Order.{kind_of}
use Rattle.au_algebra.specs.Ordinary.{Rows}
use Rattle.au_algebra.specs.Typing.{all_kinds, same_kinds}
use Rattle.au_algebra.proofs.Items.{and_then_is, chosen_is, some_is}
use Rattle.au_algebra.proofs.PositiveRelation.{same_kinds_is}
use Rattle.au_algebra.proofs.TreeRelation.{its_kinds}
use Rattle.au_plain.specs.PlanKinds.{HaveKinds, kept_kinds, list_kinds, plain_agg_kind, plain_kind, row_fits}
use Rattle.au_plain.proofs.Widths.{aggs_long, kept_long, same_number}
use Rattle.au_physical.specs.PhysicalKinds.{physical_kinds}
use Rattle.au_physical.specs.Physicals.{PhysicalTree}
use Rattle.au_physical.specs.Physicals as physical
use Rattle.au_codes.specs.Codes.{Code, code, coded_rows, coded_tables}
use Rattle.au_codes.specs.CodedPlans.{coded_literal, coded_tree}
use Rattle.au_vector.specs.Widths.{AreWide, HaveWidth, TypedPlansAreWide, plan_width}

mapped_wide : {A B : Type 0} (f : A → B) (w : ℕ) (rows : List (List A)) → HaveWidth w rows → HaveWidth w (map (map f) rows)
mapped_wide f w [] h = tt
mapped_wide f w (r ∷ rows) h = (length-map r f ∙ h.0, mapped_wide f w rows h.1)

kinds_wide : (ks : List Kind) (rows : Rows) → HaveKinds ks rows → HaveWidth (length ks) rows
kinds_wide ks [] h = tt
kinds_wide ks (r ∷ rows) h = (sym (length-map r kind_of) ∙ ap length h.0, kinds_wide ks rows h.1)

listed_wide : (w : ℕ) (ks : List Kind) (rows : Rows) → IsTrue (list_all (λ r. (length r == w) && (same_kinds (map kind_of r) ks && row_fits r)) rows) → HaveWidth w rows
listed_wide w ks [] h = tt
listed_wide w ks (r ∷ rows) h =
    let p = and_parts _ (list_all (λ r'. (length r' == w) && (same_kinds (map kind_of r') ks && row_fits r')) rows) h in
    let q = and_parts (length r == w) (same_kinds (map kind_of r) ks && row_fits r) p.0 in
    (same_number (length r) w q.0, listed_wide w ks rows p.1)

listed_width : (w : ℕ) (rows : Rows) (ks : List Kind) → list_kinds w rows ≡ Some ks → length ks ≡ w
listed_width w [] ks h =
    let p = chosen_is (w == 0) (Some []) ks h in
    ap length (sym (some_is [] ks p.1)) ∙ sym (same_number w 0 p.0)
listed_width w (r ∷ rows) ks h =
    let p = chosen_is _ (Some (map kind_of r)) ks h in
    let q = and_parts _ (list_all (λ r'. (length r' == w) && (same_kinds (map kind_of r') (map kind_of r) && row_fits r')) rows) p.0 in
    let s = and_parts (length r == w) (same_kinds (map kind_of r) (map kind_of r) && row_fits r) q.0 in
    ap length (sym (some_is (map kind_of r) ks p.1)) ∙ (length-map r kind_of ∙ same_number (length r) w s.0)

rows_listed : (w : ℕ) (rows : Rows) (ks : List Kind) → list_kinds w rows ≡ Some ks → HaveWidth w rows
rows_listed w [] ks h = tt
rows_listed w (r ∷ rows) ks h = listed_wide w (map kind_of r) (r ∷ rows) (chosen_is _ (Some (map kind_of r)) ks h).0

module _ (c : Code) where
  table_wide : (tk : List (List Kind)) (ts : List Rows) → AllZip HaveKinds tk ts → (t : ℕ) (ks : List Kind) → slice_get tk t ≡ Some ks → HaveWidth (length ks) (unwrap_or (slice_get (coded_tables c ts) t) [])
  table_wide [] [] z t ks h = tt
  table_wide [] (rows ∷ ts) z t ks h = elim z [ ]
  table_wide (k ∷ tk) [] z t ks h = elim z [ ]
  table_wide (k ∷ tk) (rows ∷ ts) z zero ks h =
      subst (λ js. HaveWidth (length js) (coded_rows c rows)) (some_is k ks h) (mapped_wide (code c) (length k) rows (kinds_wide k rows z.0))
  table_wide (k ∷ tk) (rows ∷ ts) z (suc t) ks h = table_wide tk ts z.1 t ks h

  module _ (tk : List (List Kind)) (ts : List Rows) (ok : AllZip HaveKinds tk ts) where
    -- a typed plan has a kind for each column
    width_is : (p : PhysicalTree) (ks : List Kind) → physical_kinds tk p ≡ Some ks → length ks ≡ plan_width (coded_tree c p)
    width_is (physical.Scan t w) ks h =
        let p = and_then_is _ (slice_get tk t) ks h in
        let s = chosen_is (length p.0 == w) (Some p.0) ks p.2 in
        ap length (sym (some_is p.0 ks s.1)) ∙ same_number (length p.0) w s.0
    width_is (physical.Rows w rows) ks h = listed_width w rows ks h
    width_is (physical.Extend e q) ks h =
        let p = and_then_is _ (physical_kinds tk q) ks h in
        let s = and_then_is _ (plain_kind p.0 e) ks p.2 in
        ap length (sym (some_is (p.0 ++ s.0 ∷ []) ks s.2)) ∙ length-append p.0 (s.0 ∷ []) ∙ ap (λ n. n + 1) (width_is q p.0 p.1)
    width_is (physical.Keep places q) ks h =
        let p = and_then_is _ (physical_kinds tk q) ks h in
        kept_long places p.0 ks p.2
    width_is (physical.Filter e q) ks h =
        let p = and_then_is _ (physical_kinds tk q) ks h in
        let s = chosen_is _ (Some p.0) ks p.2 in
        ap length (sym (some_is p.0 ks s.1)) ∙ width_is q p.0 p.1
    width_is (physical.Nested e q r) ks h =
        let p = and_then_is _ (physical_kinds tk q) ks h in
        let s = and_then_is _ (physical_kinds tk r) ks p.2 in
        let u = chosen_is _ (Some (p.0 ++ s.0)) ks s.2 in
        ap length (sym (some_is (p.0 ++ s.0) ks u.1)) ∙ length-append p.0 s.0 ∙ (λ i. width_is q p.0 p.1 i + width_is r s.0 s.1 i)
    width_is (physical.Hash places e q r) ks h =
        let p = and_then_is _ (physical_kinds tk q) ks h in
        let s = and_then_is _ (physical_kinds tk r) ks p.2 in
        let u = chosen_is _ (Some (p.0 ++ s.0)) ks s.2 in
        ap length (sym (some_is (p.0 ++ s.0) ks u.1)) ∙ length-append p.0 s.0 ∙ (λ i. width_is q p.0 p.1 i + width_is r s.0 s.1 i)
    width_is (physical.Overlap at e q r) ks h =
        let p = and_then_is _ (physical_kinds tk q) ks h in
        let s = and_then_is _ (physical_kinds tk r) ks p.2 in
        let u = chosen_is _ (Some (p.0 ++ s.0)) ks s.2 in
        ap length (sym (some_is (p.0 ++ s.0) ks u.1)) ∙ length-append p.0 s.0 ∙ (λ i. width_is q p.0 p.1 i + width_is r s.0 s.1 i)
    width_is (physical.Union q r) ks h =
        let p = and_then_is _ (physical_kinds tk q) ks h in
        let s = and_then_is _ (physical_kinds tk r) ks p.2 in
        let u = chosen_is _ (Some p.0) ks s.2 in
        ap length (sym (some_is p.0 ks u.1)) ∙ width_is q p.0 p.1
    width_is (physical.Group keys aggs q) ks h =
        let p = and_then_is _ (physical_kinds tk q) ks h in
        let s = and_then_is _ (kept_kinds keys p.0) ks p.2 in
        let u = and_then_is _ (all_kinds (map (plain_agg_kind p.0) aggs)) ks s.2 in
        ap length (sym (some_is (s.0 ++ u.0) ks u.2)) ∙ length-append s.0 u.0 ∙ (λ i. kept_long keys p.0 s.0 s.1 i + aggs_long aggs p.0 u.0 u.1 i)

    wide : (p : PhysicalTree) (ks : List Kind) → physical_kinds tk p ≡ Some ks → AreWide (coded_tree c p) (coded_tables c ts)
    wide (physical.Scan t w) ks h =
        let p = and_then_is _ (slice_get tk t) ks h in
        let s = chosen_is (length p.0 == w) (Some p.0) ks p.2 in
        subst (λ n. HaveWidth n (unwrap_or (slice_get (coded_tables c ts) t) [])) (same_number (length p.0) w s.0) (table_wide tk ts ok t p.0 p.1)
    wide (physical.Rows w rows) ks h = mapped_wide (coded_literal c) w rows (rows_listed w rows ks h)
    wide (physical.Extend e q) ks h = let p = and_then_is _ (physical_kinds tk q) ks h in wide q p.0 p.1
    wide (physical.Keep places q) ks h = let p = and_then_is _ (physical_kinds tk q) ks h in wide q p.0 p.1
    wide (physical.Filter e q) ks h = let p = and_then_is _ (physical_kinds tk q) ks h in wide q p.0 p.1
    wide (physical.Nested e q r) ks h =
        let p = and_then_is _ (physical_kinds tk q) ks h in
        let s = and_then_is _ (physical_kinds tk r) ks p.2 in
        (wide q p.0 p.1, wide r s.0 s.1)
    wide (physical.Hash places e q r) ks h =
        let p = and_then_is _ (physical_kinds tk q) ks h in
        let s = and_then_is _ (physical_kinds tk r) ks p.2 in
        (wide q p.0 p.1, wide r s.0 s.1)
    wide (physical.Overlap at e q r) ks h =
        let p = and_then_is _ (physical_kinds tk q) ks h in
        let s = and_then_is _ (physical_kinds tk r) ks p.2 in
        (wide q p.0 p.1, wide r s.0 s.1)
    wide (physical.Union q r) ks h =
        let p = and_then_is _ (physical_kinds tk q) ks h in
        let s = and_then_is _ (physical_kinds tk r) ks p.2 in
        let u = chosen_is _ (Some p.0) ks s.2 in
        (wide q p.0 p.1, wide r s.0 s.1, sym (width_is r s.0 s.1) ∙ (ap length (sym (same_kinds_is p.0 s.0 u.0)) ∙ width_is q p.0 p.1))
    wide (physical.Group keys aggs q) ks h = let p = and_then_is _ (physical_kinds tk q) ks h in wide q p.0 p.1

pub typed_wide : TypedPlansAreWide
typed_wide c p ts typed =
    let k = its_kinds (physical_kinds typed.kinds p) typed.typed in
    wide c typed.kinds ts typed.tables p k.0 k.1
