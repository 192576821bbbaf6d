-- The rows of Product as a plan are those of the bounded operator.
use Rattle.std.specs.Prelude.{◌≡◌, ◌≤◌, ℕ, ◌+◌, ◌*◌, true, not, List, [], ◌∷◌, ◌++◌, length, map, flat_map, Some}
use Rattle.std.proofs.Common.{arith, refl, sym, ◌∙◌, ap}
use Rattle.std.proofs.lemmas.List.{map-append}
use Rattle.au_value.specs.declared.kinds.Kind.{Kind}
use Rattle.au_value.specs.declared.value.Value.{Value}
use Rattle.au_value.specs.declared.value.Value.TheVariants as value
use Rattle.au_value.specs.Ranges.{IsRangeOf}
use Rattle.au_annot.specs.Triples.{times, is_none}
use Rattle.au_expr.specs.Ordinary as on_values
use Rattle.au_algebra.specs.Entries.{entry}
use Rattle.au_algebra.specs.Ordinary.{Rows}
use Rattle.au_algebra.specs.Bounded as bounded
use Rattle.au_algebra.specs.Bounded.{RangeRow, Bounded, present}
use Rattle.au_algebra.specs.Laws.{IsRangeRow, IsRelation}
use Rattle.au_algebra.proofs.Filters.{filter_all}
use Rattle.std.proofs.lemmas.List.Elements.{filter-append}
use Rattle.au_plain.specs.PTerms.{PTerm, Literal}
use Rattle.au_plain.specs.Plans.{PlanTree, Join}
use Rattle.au_plain.specs.Meaning.{plain_rows, kept}
use Rattle.au_encode.specs.Encode.{encode, encode_row}
use Rattle.au_encode.proofs.Decoded.{cells_length}
use Rattle.au_rwexpr.specs.Adding.{grow}
use Rattle.au_rwexpr.specs.Cells.{cell_places, three_places}
use Rattle.au_rwcore.specs.Core.{product_plan, products}
use Rattle.au_rwexpr.proofs.Places.{ends}
use Rattle.au_rwexpr.proofs.Columns.{adds}
use Rattle.au_rwexpr.proofs.OnValues.{reading, column_has}
use Rattle.au_rwexpr.proofs.Picks.{kept_are, pair_picks, left_triple, right_triple}
use Rattle.au_rwexpr.proofs.Gives.{GivesEncoded, grow_is, rows-extend_all, map-map}
use Rattle.au_rwexpr.proofs.Coded.{rl, rs, rh, cl, cg, cm}
use Rattle.au_rwexpr.proofs.Present.{present_map}
use Rattle.au_rwexpr.proofs.Places.{Ends}
use Rattle.au_rwexpr.proofs.Columns.{AllMean}

module _ (ks js : List Kind) where
  abbrev left : ℕ
  left = length ks

  abbrev right : ℕ
  right = length js

  abbrev t : ℕ
  t = 3 * left

  abbrev u : ℕ
  u = 3 * left + 3 + 3 * right

  abbrev pub new : List PTerm
  new = products t u

  abbrev pair_places : List ℕ
  pair_places = cell_places 0 left ++ (cell_places (3 * left + 3) right ++ three_places (u + 3))

  abbrev pub joined : RangeRow → RangeRow → RangeRow
  joined x y = entry (x.cells ++ y.cells) (times x.annot y.annot)

  abbrev made : List Value → List Value
  made row = kept pair_places (grow new row)

  module _ (x y : RangeRow) (v : IsRangeRow ks x) (w : IsRangeRow js y) where
    long : length x.cells ≡ left
    long = cells_length IsRangeOf ks x.cells v.cells

    wide : length y.cells ≡ right
    wide = cells_length IsRangeOf js y.cells w.cells

    abbrev pub both : List Value
    both = encode_row x ++ encode_row y

    pub at_left : Ends cl cg cm both t x.annot
    at_left = left_triple rl rs rh cl cg cm left right x.cells y.cells x.annot y.annot long wide

    pub at_right : Ends cl cg cm both u y.annot
    at_right = right_triple rl rs rh cl cg cm left right x.cells y.cells x.annot y.annot long wide

    pub new_mean : AllMean reading both new (ends cl cg cm (times x.annot y.annot))
    new_mean = (
      (λ more. λ i. Some (on_values.multiply (column_has both t (cl x.annot) at_left.lo more i) (column_has both u (cl y.annot) at_right.lo more i))),
      (
        (λ more. λ i. Some (on_values.multiply (column_has both (t + 1) (cg x.annot) at_left.sg more i) (column_has both (u + 1) (cg y.annot) at_right.sg more i))),
        ((λ more. λ i. Some (on_values.multiply (column_has both (t + 2) (cm x.annot) at_left.hi more i) (column_has both (u + 2) (cm y.annot) at_right.hi more i))), tt),
      ),
    )

    each_joined : made both ≡ encode_row (joined x y)
    each_joined =
        let k = times x.annot y.annot in
        let row = both ++ ends cl cg cm k in
        ap (kept pair_places) (grow_is new both row (adds reading both new (ends cl cg cm k) new_mean))
        ∙ kept_are row pair_places (encode_row (joined x y)) (pair_picks rl rs rh cl cg cm left right x.cells y.cells x.annot y.annot long wide k)

  row_joined : (x : RangeRow) (ys : Bounded) → IsRangeRow ks x → IsRelation js ys → map made (map (λ b. encode_row x ++ b) (encode ys)) ≡ encode (map (joined x) ys)
  row_joined x [] v w = refl
  row_joined x (y ∷ ys) v w = λ i. each_joined x y v w.0 i ∷ row_joined x ys v w.1 i

  all_joined : (xs ys : Bounded) → IsRelation ks xs → IsRelation js ys → map made (flat_map (λ a. map (λ b. a ++ b) (encode ys)) (encode xs)) ≡ encode (flat_map (λ x. map (joined x) ys) xs)
  all_joined [] ys v w = refl
  all_joined (x ∷ xs) ys v w =
      map-append made (map (λ b. encode_row x ++ b) (encode ys)) (flat_map (λ a. map (λ b. a ++ b) (encode ys)) (encode xs))
      ∙ (λ i. row_joined x ys v.0 w i ++ all_joined xs ys v.1 w i)
      ∙ sym (map-append encode_row (map (joined x) ys) (flat_map (λ z. map (joined z) ys) xs))

  some_product : (m k : ℕ) → 1 ≤ m → 1 ≤ k → 1 ≤ m * k
  some_product m k p q = grind arith

  pub all_present : (xs ys : Bounded) → IsRelation ks xs → IsRelation js ys → present (flat_map (λ x. map (joined x) ys) xs) ≡ flat_map (λ x. map (joined x) ys) xs
  all_present [] ys v w = refl
  all_present (x ∷ xs) ys v w =
      filter-append (λ r. not (is_none r.annot)) (map (joined x) ys) (flat_map (λ z. map (joined z) ys) xs)
      ∙ (λ i. present_map (IsRangeRow js) (joined x) ys w (λ y z. some_product x.annot.most y.annot.most v.0.present z.present) i ++ all_present xs ys v.1 w i)

  -- each pair of encoded rows
  abbrev pub pairs : Bounded → Bounded → Rows
  pairs xs ys = flat_map (λ a. map (λ b. a ++ b) (encode ys)) (encode xs)

  pub joined_rows : (ts : List Rows) (p q : PlanTree) (xs ys : Bounded) → GivesEncoded ts p xs → GivesEncoded ts q ys → plain_rows (Join (Literal (value.Flag true)) p q) ts ≡ pairs xs ys
  joined_rows ts p q xs ys g h =
      filter_all (flat_map (λ a. map (λ b. a ++ b) (plain_rows q ts)) (plain_rows p ts)) ∙ (λ i. flat_map (λ a. map (λ b. a ++ b) (h i)) (g i))

  -- Product's plan gives the rows of the bounded product.
  pub product_gives : (ts : List Rows) (p q : PlanTree) (xs ys : Bounded) → IsRelation ks xs → IsRelation js ys → GivesEncoded ts p xs → GivesEncoded ts q ys → GivesEncoded ts (product_plan left right p q) (bounded.product xs ys)
  product_gives ts p q xs ys v w g h =
      let join = Join (Literal (value.Flag true)) p q in
      ap (map (kept pair_places)) (rows-extend_all new join ts ∙ ap (map (grow new)) (joined_rows ts p q xs ys g h))
      ∙ map-map (grow new) (kept pair_places) (pairs xs ys)
      ∙ all_joined xs ys v w
      ∙ ap encode (sym (all_present xs ys v w))
