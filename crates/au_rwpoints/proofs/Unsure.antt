-- The rows with unsure keys as a plan.
use Rattle.std.specs.Prelude.{◌≡◌, ◌≤◌, ℕ, zero, suc, Bool, true, false, not, cond, List, [], ◌∷◌, filter, length, take, ℤ}
use Rattle.std.specs.List.{AllByRecursion}
use Rattle.std.proofs.Common.{arith, refl, sym, ◌∙◌, ap, subst}
use Rattle.std.proofs.lemmas.List.{append-nil, length-take-le}
use Rattle.au_value.specs.declared.kinds.Kind.{Kind}
use Rattle.au_value.specs.declared.kinds.Kind.TheVariants as kind
use Rattle.au_value.specs.declared.value.Value.TheVariants as value
use Rattle.au_value.specs.Ranges.{IsRangeOf, Span, all_certain}
use Rattle.au_expr.specs.Figures.{Fit}
use Rattle.au_expr.specs.Ordinary as on_values
use Rattle.au_expr.specs.Ordinary.{is_true}
use Rattle.au_algebra.specs.Bounded.{RangeRow, Bounded}
use Rattle.au_algebra.specs.Laws.{IsRangeRow, IsRelation}
use Rattle.au_algebra.specs.Ordinary.{Rows}
use Rattle.au_algebra.proofs.Each.{all_filter}
use Rattle.au_plain.specs.Meaning.{passes}
use Rattle.au_plain.specs.PTerms.{PTerm, Not, plain_value}
use Rattle.au_plain.specs.PlanKinds.{FitTables, plain_kind}
use Rattle.au_plain.specs.PlanNumbers.{term_numbers}
use Rattle.au_plain.specs.Plans.{PlanTree, Filter}
use Rattle.au_encode.specs.Encode.{encode, encode_row, encoded_kinds}
use Rattle.au_encode.specs.Gives.{GivesRelation}
use Rattle.au_encode.proofs.Decoded.{cells_length}
use Rattle.au_encode.proofs.HeldCells.{AllFit, FitRow, gives_held}
use Rattle.au_rwexpr.proofs.Careful.{Fits, not_fits}
use Rattle.au_rwexpr.proofs.Coded.{cg, cl, cm, own, rh, rl, rs}
use Rattle.au_rwexpr.proofs.Columns.{means_now}
use Rattle.au_rwexpr.proofs.Gives.{kinds-filter}
use Rattle.au_rwexpr.proofs.OnKinds.{HasKind, not_kind}
use Rattle.au_rwexpr.proofs.OnValues.{Has}
use Rattle.au_rwexpr.proofs.Picks.{coded_cells}
use Rattle.au_rwexpr.proofs.PlanNumbersOf.{numbers-filter}
use Rattle.au_rwgroup.specs.Groups.{all_sure}
use Rattle.au_rwgroup.proofs.FirstGroup.{sure_has}
use Rattle.au_rwgroup.proofs.FirstKinds.{sure_kind}
use Rattle.au_rwgroup.proofs.FirstNumbers.{sure_fits}
use Rattle.au_rwgroup.proofs.GroupGives.{take_there}
use Rattle.au_points.specs.Points.{unsure_rows}
use Rattle.au_rwpoints.proofs.RowMaps.{terms_fit}

first_fit : (m : ℕ) (xs : List Span) → AllFit xs → AllFit (take m xs)
first_fit zero xs f = tt
first_fit (suc m) [] f = tt
first_fit (suc m) (x ∷ xs) f = (f.0, first_fit m xs f.1)

-- ---- the test of certain ranges

module _ (ks : List Kind) (k : ℕ) (within : k ≤ length ks) where
  long : (r : RangeRow) → IsRangeRow ks r → length r.cells ≡ length ks
  long r v = cells_length IsRangeOf ks r.cells v.cells

  keys_long : (r : RangeRow) → IsRangeRow ks r → length (take k r.cells) ≡ k
  keys_long r v = length-take-le k r.cells (let e = long r v in omega (arith, e, within))

  pub row_sure : (r : RangeRow) → IsRangeRow ks r → Has (encode_row r) (all_sure 0 k) (value.Flag (all_certain (take k r.cells)))
  row_sure r v =
      sure_has (encode_row r) 0 k (take k r.cells) (keys_long r v)
      (take_there rl rs rh (encode_row r) 0 k r.cells (coded_cells rl rs rh cl cg cm (length ks) r.cells r.annot (long r v)))

  pub kind_sure : HasKind (encoded_kinds ks) (all_sure 0 k) kind.Flag
  kind_sure =
      sure_kind (encoded_kinds ks) 0 k (take k ks) (length-take-le k ks within)
      (take_there own own own (encoded_kinds ks) 0 k ks (coded_cells own own own own own own (length ks) ks kind.Int refl))

  pub fit_sure : (r : RangeRow) → IsRangeRow ks r → FitRow r → Fits (encode_row r) (all_sure 0 k)
  fit_sure r v h =
      sure_fits (encode_row r) 0 k (take k r.cells) (keys_long r v)
      (take_there rl rs rh (encode_row r) 0 k r.cells (coded_cells rl rs rh cl cg cm (length ks) r.cells r.annot (long r v)))
      (first_fit k r.cells h.cells)

  -- ---- the rows that fail it

  abbrev unsure : PTerm
  unsure = Not (all_sure 0 k)

  abbrev is_unsure : RangeRow → Bool
  is_unsure r = not (all_certain (take k r.cells))

  passes_if : (r : RangeRow) → IsRangeRow ks r → passes unsure (encode_row r) ≡ is_unsure r
  passes_if r v =
      ap (λ b. is_true (on_values.opposite b)) (ap (plain_value (all_sure 0 k)) (sym (append-nil (encode_row r))) ∙ row_sure r v [])

  kept_if : (b : Bool) (r : RangeRow) (xs : Bounded) → cond b (encode_row r ∷ encode xs) (encode xs) ≡ encode (cond b (r ∷ xs) xs)
  kept_if true r xs = refl
  kept_if false r xs = refl

  filtered : (rows : Bounded) → IsRelation ks rows → filter (passes unsure) (encode rows) ≡ encode (unsure_rows (take k) rows)
  filtered [] ok = refl
  filtered (r ∷ rows) ok =
      (λ i. cond (passes_if r ok.0 i) (encode_row r ∷ filtered rows ok.1 i) (filtered rows ok.1 i))
      ∙ kept_if (is_unsure r) r (unsure_rows (take k) rows)

  pub unsure_gives :
      (kinds : List (List Kind)) (tables : List Rows) (p : PlanTree) (rows : Bounded) (ns : List ℤ) →
      FitTables tables → GivesRelation kinds tables p ks rows ns → GivesRelation kinds tables (Filter unsure p) ks (unsure_rows (take k) rows) ns
  unsure_gives kinds tables p rows ns tables_fit g = record {
    typed =
        kinds-filter kinds unsure p (encoded_kinds ks) g.typed
        (means_now plain_kind (encoded_kinds ks) unsure kind.Flag (not_kind (encoded_kinds ks) (all_sure 0 k) kind_sure));
    relation = all_filter (IsRangeRow ks) is_unsure rows g.relation;
    encoded = ap (filter (passes unsure)) g.encoded ∙ filtered rows g.relation;
    fit = λ fn.
        (let held = gives_held kinds tables p ks rows ns g tables_fit fn in
        let all = terms_fit unsure (IsRangeRow ks) (λ r v h. not_fits (encode_row r) (all_sure 0 k) (fit_sure r v h)) rows g.relation held in
        numbers-filter tables unsure p (g.fit fn) (subst (AllByRecursion (λ row. Fit (term_numbers unsure row))) (sym g.encoded) all));
  }
