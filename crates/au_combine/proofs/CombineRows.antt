-- The rows of Combine as a plan are those of the bounded operator.
use Rattle.std.specs.Prelude.{◌≡◌, ℕ, ◌+◌, ◌*◌, List, [], ◌∷◌, ◌++◌, length, map, pos, ◌+ℤ◌, unwrap_or}
use Rattle.std.specs.List.{AllByRecursion}
use Rattle.std.proofs.Common.{refl, sym, ◌∙◌, ap}
use Rattle.au_value.specs.declared.kinds.Kind.{Kind}
use Rattle.au_value.specs.declared.value.Value.{Value}
use Rattle.au_value.specs.declared.value.Value.TheVariants as value
use Rattle.au_value.specs.Ranges.{IsRangeOf, guesses}
use Rattle.au_value.specs.Lists.{distinct}
use Rattle.au_annot.specs.Triples.{Counts, total_counts}
use Rattle.au_expr.specs.Ordinary.{number}
use Rattle.au_algebra.specs.Lists.{same_row, int_sum, value_at}
use Rattle.au_algebra.specs.Ordinary.{Rows}
use Rattle.au_algebra.specs.Bounded as bounded
use Rattle.au_algebra.specs.Bounded.{RangeRow, Bounded, hull_of, guessing, merged}
use Rattle.au_algebra.specs.Laws.{IsRangeRow, IsRelation}
use Rattle.au_algebra.proofs.Each.{all_filter}
use Rattle.au_plain.specs.declared.plan.PAgg.{PAgg}
use Rattle.au_plain.specs.declared.plan.PAgg.TheVariants.{Sum}
use Rattle.au_plain.specs.Plans.{PlanTree}
use Rattle.au_plain.specs.Meaning.{plain_aggregate}
use Rattle.au_encode.specs.Encode.{encode, encode_row, encode_cells, encode_counts}
use Rattle.au_encode.proofs.Decoded.{cells_length}
use Rattle.au_combine.specs.Boxes.{combine_plan}
use Rattle.au_rwexpr.proofs.Places.{At, Ends}
use Rattle.au_rwexpr.proofs.Picks.{coded_cells, coded_triple}
use Rattle.au_rwexpr.proofs.Gives.{GivesEncoded, map-map}
use Rattle.au_combine.proofs.BoxRows.{boxes_rows}
use Rattle.au_rwexpr.proofs.Coded.{rl, rs, rh, cl, cg, cm}

-- counts add up as whole numbers
pub pos_plus : (a b : ℕ) → pos a +ℤ pos b ≡ pos (a + b)
pos_plus a b = refl

-- the sum of a column that holds a part of the triples
pub sum_column : {S : Type 0} (P : S → Type 0) (f : S → List Value) (m : ℕ) (n : S → ℕ) → ((s : S) → P s → At (f s) m (value.Int (pos (n s)))) → (part : List S → ℕ) → (0 ≡ part []) → ((s : S) (ss : List S) → n s + part ss ≡ part (s ∷ ss)) → (xs : List S) → AllByRecursion P xs → int_sum (map (λ row. number (value_at row m)) (map f xs)) ≡ pos (part xs)
sum_column P f m n at part none more [] v = ap pos none
sum_column P f m n at part none more (x ∷ xs) v =
    (λ i. number (unwrap_or (at x v.0 i) (value.Int (pos 0))) +ℤ sum_column P f m n at part none more xs v.1 i)
    ∙ pos_plus (n x) (part xs)
    ∙ ap pos (more x xs)

module _ (ks : List Kind) where
  abbrev c : ℕ
  c = length ks

  abbrev sums : List PAgg
  sums = Sum (3 * c) ∷ Sum (3 * c + 1) ∷ Sum (3 * c + 2) ∷ []

  triple_at : (r : RangeRow) → IsRangeRow ks r → Ends cl cg cm (encode_row r) (3 * c) r.annot
  triple_at r v = coded_triple rl rs rh cl cg cm c r.cells r.annot (cells_length IsRangeOf ks r.cells v.cells)

  triples : Bounded → Counts
  triples rows = total_counts (map (λ r. r.annot) rows)

  each_sum : (rows : Bounded) → IsRelation ks rows → map (plain_aggregate (encode rows)) sums ≡ encode_counts (total_counts (map (λ r. r.annot) rows))
  each_sum rows ok = λ i.
      value.Int (sum_column (IsRangeRow ks) encode_row (3 * c) (λ r. r.annot.least) (λ r v. (triple_at r v).lo) (λ rs. (total_counts (map (λ r. r.annot) rs)).least) refl (λ s ss. refl) rows ok i)
      ∷ value.Int (sum_column (IsRangeRow ks) encode_row (3 * c + 1) (λ r. r.annot.guess) (λ r v. (triple_at r v).sg) (λ rs. (total_counts (map (λ r. r.annot) rs)).guess) refl (λ s ss. refl) rows ok i)
      ∷ value.Int (sum_column (IsRangeRow ks) encode_row (3 * c + 2) (λ r. r.annot.most) (λ r v. (triple_at r v).hi) (λ rs. (total_counts (map (λ r. r.annot) rs)).most) refl (λ s ss. refl) rows ok i)
      ∷ []

  -- Combine's plan gives the rows of the bounded combine.
  pub combine_gives : (ts : List Rows) (p : PlanTree) (rows : Bounded) → IsRelation ks rows → GivesEncoded ts p rows → GivesEncoded ts (combine_plan c p) (bounded.combine rows)
  combine_gives ts p rows ok g =
      boxes_rows (IsRangeRow ks) encode_row (λ r. r.cells) c (λ r v. coded_cells rl rs rh cl cg cm c r.cells r.annot (cells_length IsRangeOf ks r.cells v.cells))
      (λ r v. cells_length IsRangeOf ks r.cells v.cells) sums ts p rows ok g
      ∙ (λ i. map (λ key. encode_cells (hull_of (map (λ r. r.cells) (guessing key rows))) ++ each_sum (guessing key rows) (all_filter (IsRangeRow ks) (λ r. same_row key (guesses r.cells)) rows ok) i) (distinct same_row (map (λ r. guesses r.cells) rows)))
      ∙ sym (map-map (λ key. merged (guessing key rows)) encode_row (distinct same_row (map (λ r. guesses r.cells) rows)))
