-- The numbers of Combine's plan are those of the summed triples.
use Rattle.std.specs.Prelude.{◌≡◌, ℕ, zero, suc, ◌+◌, ◌*◌, List, [], ◌∷◌, ◌++◌, length, map, flat_map, sum_by, pos, nat_abs, unwrap_or, ℤ}
use Rattle.std.specs.List.{AllByRecursion}
use Rattle.std.proofs.Common.{refl, sym, ◌∙◌, subst}
use Rattle.std.proofs.lemmas.List.Sums.{sum_by-cons}
use Rattle.std.proofs.lemmas.List.Folds.{flat_map-map}
use Rattle.au_value.specs.declared.kinds.Kind.{Kind}
use Rattle.au_value.specs.declared.value.Value.{Value}
use Rattle.au_value.specs.declared.value.Value.TheVariants as value
use Rattle.au_value.specs.Ranges.{IsRangeOf, guesses}
use Rattle.au_value.specs.Lists.{distinct}
use Rattle.au_annot.specs.Triples.{total_counts}
use Rattle.au_expr.specs.Figures.{Fit}
use Rattle.au_expr.specs.Ordinary.{number}
use Rattle.au_expr.proofs.Fits.{fit_both}
use Rattle.au_algebra.specs.Lists.{same_row, value_at}
use Rattle.au_algebra.specs.Ordinary.{Rows}
use Rattle.au_algebra.specs.Bounded as bounded
use Rattle.au_algebra.specs.Bounded.{RangeRow, Bounded, guessing, merged}
use Rattle.au_algebra.specs.Fits.{triple_numbers}
use Rattle.au_algebra.specs.Laws.{IsRangeRow, IsRelation}
use Rattle.au_algebra.proofs.Each.{all_filter}
use Rattle.au_plain.specs.declared.plan.PAgg.{PAgg}
use Rattle.au_plain.specs.declared.plan.PAgg.TheVariants.{Sum}
use Rattle.au_plain.specs.Plans.{PlanTree}
use Rattle.au_plain.specs.Meaning.{plain_rows}
use Rattle.au_plain.specs.PlanNumbers.{plan_numbers, magnitudes, group_numbers}
use Rattle.au_encode.specs.Encode.{encode, encode_row}
use Rattle.au_encode.proofs.Decoded.{cells_length}
use Rattle.au_combine.specs.Boxes.{sg_places, box_aggs, combine_plan}
use Rattle.au_rwexpr.proofs.Places.{At, Ends}
use Rattle.au_rwexpr.proofs.Picks.{coded_cells, coded_triple}
use Rattle.au_rwexpr.proofs.Gives.{GivesEncoded}
use Rattle.au_rwexpr.proofs.Coded.{rl, rs, rh, cl, cg, cm}
use Rattle.au_combine.proofs.BoxRows.{keys_are}
use Rattle.au_combine.proofs.Grouping.{numbers_made}

-- the ends of boxes are no sums
pub box_magnitudes : (rows : Rows) (i k : ℕ) (further : List PAgg) → flat_map (magnitudes rows) (box_aggs i k ++ further) ≡ flat_map (magnitudes rows) further
box_magnitudes rows i zero further = refl
box_magnitudes rows i (suc k) further = box_magnitudes rows (i + 3) k further

-- the magnitudes of a column that holds a part of the triples
pub sum_magnitudes : {S : Type 0} (P : S → Type 0) (f : S → List Value) (m : ℕ) (n : S → ℕ) → ((s : S) → P s → At (f s) m (value.Int (pos (n s)))) → (part : List S → ℕ) → (0 ≡ part []) → ((s : S) (ss : List S) → n s + part ss ≡ part (s ∷ ss)) → (xs : List S) → AllByRecursion P xs → sum_by (λ row. nat_abs (number (value_at row m))) (map f xs) ≡ part xs
sum_magnitudes P f m n at part none more [] v = none
sum_magnitudes P f m n at part none more (x ∷ xs) v =
    sum_by-cons (λ row. nat_abs (number (value_at row m))) (f x) (map f xs)
    ∙ (λ i. nat_abs (number (unwrap_or (at x v.0 i) (value.Int (pos 0)))) + sum_magnitudes P f m n at part none more xs v.1 i)
    ∙ more x xs

module _ (ks : List Kind) where
  abbrev c : ℕ
  c = length ks

  abbrev sums : List PAgg
  sums = Sum (3 * c) ∷ Sum (3 * c + 1) ∷ Sum (3 * c + 2) ∷ []

  triple_at : (r : RangeRow) → IsRangeRow ks r → Ends cl cg cm (encode_row r) (3 * c) r.annot
  triple_at r v = coded_triple rl rs rh cl cg cm c r.cells r.annot (cells_length IsRangeOf ks r.cells v.cells)

  abbrev triple_of : RangeRow → List ℤ
  triple_of r = pos r.annot.least ∷ pos r.annot.guess ∷ pos r.annot.most ∷ []

  each_magnitude : (rows : Bounded) → IsRelation ks rows → flat_map (magnitudes (encode rows)) sums ≡ triple_of (merged rows)
  each_magnitude rows ok = λ i.
      pos (sum_magnitudes (IsRangeRow ks) encode_row (3 * c) (λ r. r.annot.least) (λ r v. (triple_at r v).lo) (λ rs. (total_counts (map (λ r. r.annot) rs)).least) refl (λ s ss. refl) rows ok i)
      ∷ pos (sum_magnitudes (IsRangeRow ks) encode_row (3 * c + 1) (λ r. r.annot.guess) (λ r v. (triple_at r v).sg) (λ rs. (total_counts (map (λ r. r.annot) rs)).guess) refl (λ s ss. refl) rows ok i)
      ∷ pos (sum_magnitudes (IsRangeRow ks) encode_row (3 * c + 2) (λ r. r.annot.most) (λ r v. (triple_at r v).hi) (λ rs. (total_counts (map (λ r. r.annot) rs)).most) refl (λ s ss. refl) rows ok i)
      ∷ []

  -- the magnitudes of the groups are the triples of the combined rows
  pub grouping_numbers : (rows : Bounded) → IsRelation ks rows → group_numbers (sg_places 0 c) (box_aggs 0 c ++ sums) (encode rows) ≡ triple_numbers (bounded.combine rows)
  grouping_numbers rows ok =
      let aggs = box_aggs 0 c ++ sums in
      let all = distinct same_row (map (λ r. guesses r.cells) rows) in
      let same = keys_are (IsRangeRow ks) encode_row (λ r. r.cells) c (λ r v. coded_cells rl rs rh cl cg cm c r.cells r.annot (cells_length IsRangeOf ks r.cells v.cells)) (λ r v. cells_length IsRangeOf ks r.cells v.cells) in
      numbers_made (IsRangeRow ks) encode_row (λ r. guesses r.cells) (sg_places 0 c) same aggs rows ok
      ∙ (λ i. flat_map (λ key. box_magnitudes (encode (guessing key rows)) 0 c sums i) all)
      ∙ (λ i. flat_map (λ key. each_magnitude (guessing key rows) (all_filter (IsRangeRow ks) (λ r. same_row key (guesses r.cells)) rows ok) i) all)
      ∙ sym (flat_map-map triple_of (λ key. merged (guessing key rows)) all)

  -- Combine's plan adds no number that does not fit.
  pub combine_fits : (ts : List Rows) (p : PlanTree) (rows : Bounded) → IsRelation ks rows → GivesEncoded ts p rows → Fit (triple_numbers (bounded.combine rows)) → Fit (plan_numbers p ts) → Fit (plan_numbers (combine_plan c p) ts)
  combine_fits ts p rows ok g f np =
      let aggs = box_aggs 0 c ++ sums in
      fit_both (plan_numbers p ts) (group_numbers (sg_places 0 c) aggs (plain_rows p ts)) np
      (subst (λ rs. Fit (group_numbers (sg_places 0 c) aggs rs)) (sym g) (subst (λ ns. Fit ns) (sym (grouping_numbers rows ok)) f))
