-- The rows of Project as a plan are those of the bounded operator.
use Rattle.std.specs.Prelude.{◌≡◌, ℕ, ◌+◌, ◌*◌, List, ◌++◌, length, map, Some}
use Rattle.std.proofs.Common.{sym, ◌∙◌, ap}
use Rattle.au_value.specs.declared.kinds.Kind.{Kind}
use Rattle.au_value.specs.declared.value.Value.{Value}
use Rattle.au_value.specs.Ranges.{Span, IsRangeOf}
use Rattle.au_expr.specs.Terms.{Term}
use Rattle.au_expr.specs.OnRanges.{range_of}
use Rattle.au_algebra.specs.Entries.{entry}
use Rattle.au_algebra.specs.Ordinary.{Rows}
use Rattle.au_algebra.specs.Typing.{items_kinds}
use Rattle.au_algebra.specs.Bounded as bounded
use Rattle.au_algebra.specs.Bounded.{RangeRow, Bounded, present}
use Rattle.au_algebra.specs.Laws.{IsRangeRow, IsRelation}
use Rattle.au_plain.specs.Plans.{PlanTree}
use Rattle.au_plain.specs.Meaning.{kept}
use Rattle.au_encode.specs.Encode.{encode, encode_row}
use Rattle.au_encode.proofs.Decoded.{cells_length}
use Rattle.au_rwexpr.specs.Flatten.{flatten_items, item_places}
use Rattle.au_rwexpr.specs.Adding.{grow}
use Rattle.au_rwexpr.specs.Cells.{three_places}
use Rattle.au_rwcore.specs.Core.{project_plan}
use Rattle.au_rwexpr.proofs.Places.{ends_more, ends, all_ends}
use Rattle.au_rwexpr.proofs.Structure.{items_law, items_picked, items_added, Any, any_of, below_any}
use Rattle.au_rwexpr.proofs.OnValues.{reading, value_steps}
use Rattle.au_rwexpr.proofs.Picks.{kept_are, coded_long, coded_cells, coded_triple, picks_more, pick_three}
use Rattle.au_rwexpr.proofs.Gives.{GivesEncoded, grow_is, rows-extend_all, map-map, map_valid}
use Rattle.au_rwexpr.proofs.Coded.{rl, rs, rh, cl, cg, cm}
use Rattle.au_rwexpr.proofs.Present.{present_map}

module _ (ks : List Kind) (items : List Term) (js : List Kind) (typed : items_kinds ks items ≡ Some js) where
  abbrev c : ℕ
  c = length ks

  abbrev n : ℕ
  n = 3 * c + 3

  abbrev pub result : RangeRow → Term → Span
  result r t = range_of t r.cells

  abbrev pub wide : RangeRow → List Value
  wide r = items_added rl rs rh reading ks r.cells (result r) items

  abbrev places : List ℕ
  places = item_places n items ++ three_places (3 * c)

  abbrev pub projected : RangeRow → RangeRow
  projected r = entry (map (λ e. range_of e r.cells) items) r.annot

  each_projected : (r : RangeRow) → IsRangeRow ks r → kept places (grow (flatten_items n items) (encode_row r)) ≡ encode_row (projected r)
  each_projected r v =
      let long = cells_length IsRangeOf ks r.cells v.cells in
      let row_long = coded_long rl rs rh cl cg cm c r.cells r.annot long in
      let row = encode_row r ++ wide r in
      let grown =
      grow_is (flatten_items n items) (encode_row r) row
      (items_law rl rs rh reading ks r.cells (result r) Any below_any (value_steps ks r.cells long) items js (any_of items) typed (encode_row r) n row_long
      (coded_cells rl rs rh cl cg cm c r.cells r.annot long)) in
      let triple = ends_more cl cg cm (encode_row r) (wide r) (3 * c) r.annot (coded_triple rl rs rh cl cg cm c r.cells r.annot long) in
      let picks =
      picks_more row (item_places n items) (three_places (3 * c)) (all_ends rl rs rh (map (result r) items)) (ends cl cg cm r.annot)
      (items_picked rl rs rh reading ks r.cells (result r) items (encode_row r) n row_long) (pick_three cl cg cm row (3 * c) r.annot triple) in
      ap (kept places) grown ∙ kept_are row places (encode_row (projected r)) picks

  -- Project's plan gives the rows of the bounded project.
  pub project_gives : (ts : List Rows) (p : PlanTree) (rows : Bounded) → IsRelation ks rows → GivesEncoded ts p rows → GivesEncoded ts (project_plan c items p) (bounded.project items rows)
  project_gives ts p rows ok g =
      ap (map (kept places)) (rows-extend_all (flatten_items n items) p ts ∙ ap (map (grow (flatten_items n items))) g)
      ∙ map-map (grow (flatten_items n items)) (kept places) (encode rows)
      ∙ map-map encode_row (λ row. kept places (grow (flatten_items n items) row)) rows
      ∙ map_valid (IsRangeRow ks) (λ r. kept places (grow (flatten_items n items) (encode_row r))) (λ r. encode_row (projected r)) rows ok each_projected
      ∙ sym (map-map projected encode_row rows)
      ∙ ap encode (sym (present_map (IsRangeRow ks) projected rows ok (λ r v. v.present)))
