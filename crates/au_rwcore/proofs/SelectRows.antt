-- The rows of Select as a plan are those of the bounded operator.
use Rattle.std.specs.Prelude.{◌≡◌, ◌≤◌, ℕ, ◌+◌, ◌*◌, ◌==◌, Bool, true, false, not, List, [], ◌∷◌, ◌++◌, length, map, filter, Some, pos, if◌then◌else◌}
use Rattle.std.proofs.Common.{arith, sym, ◌∙◌, ap}
use Rattle.std.proofs.lemmas.List.{length-append, append-nil}
use Rattle.au_value.specs.declared.kinds.Kind.{Kind}
use Rattle.au_value.specs.declared.kinds.Kind.TheVariants.{Flag}
use Rattle.au_value.specs.declared.value.Value.{Value}
use Rattle.au_value.specs.declared.value.Value.TheVariants as value
use Rattle.au_value.specs.Ranges.{IsRangeOf}
use Rattle.au_annot.specs.Triples.{times, is_none}
use Rattle.au_expr.specs.Terms.{Term}
use Rattle.au_expr.specs.Kinds.{kind_in}
use Rattle.au_expr.specs.Ordinary as on_values
use Rattle.au_expr.specs.Ordinary.{is_true}
use Rattle.au_expr.specs.OnRanges.{range_of}
use Rattle.au_algebra.specs.Entries.{entry}
use Rattle.au_algebra.specs.Ordinary.{Rows}
use Rattle.au_algebra.specs.Bounded as bounded
use Rattle.au_algebra.specs.Bounded.{RangeRow, Bounded, present, weight, truth}
use Rattle.au_algebra.specs.Laws.{IsRangeRow, IsRelation}
use Rattle.au_plain.specs.PTerms.{PTerm, plain_value}
use Rattle.au_plain.specs.Plans.{PlanTree, Filter, extend_all}
use Rattle.au_plain.specs.Meaning.{plain_rows, kept, passes}
use Rattle.au_encode.specs.Encode.{encode_row, encode_cells}
use Rattle.au_encode.proofs.Decoded.{cells_length}
use Rattle.au_rwexpr.specs.Flatten.{before, flatten, hi}
use Rattle.au_rwexpr.specs.Adding.{grow}
use Rattle.au_rwexpr.specs.Cells.{cell_places}
use Rattle.au_rwcore.specs.Core.{select_plan, weighed}
use Rattle.au_rwexpr.proofs.Places.{Ends, ends_more}
use Rattle.au_rwexpr.proofs.Columns.{AllMean, adds}
use Rattle.au_rwexpr.proofs.Structure.{flattened, found, added, added_long, Any, below_any}
use Rattle.au_rwexpr.proofs.Coded.{rl, rs, rh, cl, cg, cm, some_not_none}
use Rattle.au_rwexpr.proofs.OnValues.{reading, value_steps, EndsAt, lo_has, sg_has, hi_has, column_has}
use Rattle.au_rwexpr.proofs.Picks.{kept_are, coded_long, coded_cells, coded_triple, select_picks}
use Rattle.au_rwexpr.proofs.Gives.{GivesEncoded, grow_is, rows-extend_all, map-map, map_valid, passing}

-- a count that stays where a condition holds
count_if : (b : Bool) (n : ℕ) → (if b then value.Int (pos n) else value.Int (pos 0)) ≡ value.Int (pos (n * (if b then 1 else 0)))
count_if true n = ap (λ m. value.Int (pos m)) (let e : n ≡ n * 1 = omega arith in e)
count_if false n = ap (λ m. value.Int (pos m)) (let e : 0 ≡ n * 0 = omega arith in e)

left_if : (b : Bool) (n : ℕ) → 1 ≤ n → b ≡ not ((n * (if b then 1 else 0)) == 0)
left_if true n h = sym (some_not_none n h) ∙ ap (λ m. not (m == 0)) (let e : n ≡ n * 1 = omega arith in e)
left_if false n h = ap (λ m. not (m == 0)) (let e : 0 ≡ n * 0 = omega arith in e)

most_if : (b : Bool) (n : ℕ) → b ≡ true → n ≡ n * (if b then 1 else 0)
most_if true n h = omega arith
most_if false n h = cc

module _ (ks : List Kind) where
  abbrev c : ℕ
  c = length ks

  abbrev n : ℕ
  n = 3 * c + 3

  pub long : (r : RangeRow) → IsRangeRow ks r → length r.cells ≡ c
  long r v = cells_length IsRangeOf ks r.cells v.cells

  pub row_long : (r : RangeRow) → IsRangeRow ks r → length (encode_row r) ≡ n
  row_long r v = coded_long rl rs rh cl cg cm c r.cells r.annot (long r v)

  -- ---- Select

  module _ (e : Term) (typed : kind_in ks e ≡ Some Flag) where
    abbrev i : ℕ
    i = n + before e

    abbrev m : ℕ
    m = n + (before e + 3)

    abbrev pub flat : RangeRow → List Value
    flat r = added rl rs rh reading ks r.cells (λ t. range_of t r.cells) e

    abbrev pub one : RangeRow → List Value
    one r = encode_row r ++ flat r

    abbrev pub new : List PTerm
    new = weighed i (3 * c)

    -- least and guess that are left
    abbrev pub least_left : RangeRow → Value
    least_left r = on_values.choose (range_of e r.cells).lo (cl r.annot) (value.Int (pos 0))

    abbrev pub guess_left : RangeRow → Value
    guess_left r = on_values.choose (range_of e r.cells).sg (cg r.annot) (value.Int (pos 0))

    abbrev places : List ℕ
    places = cell_places 0 c ++ (m ∷ (m + 1) ∷ (3 * c + 2) ∷ [])

    abbrev pub selected : RangeRow → RangeRow
    selected r = entry r.cells (times r.annot (weight (range_of e r.cells)))

    pub grown : (r : RangeRow) → IsRangeRow ks r → grow (flatten n e) (encode_row r) ≡ one r
    grown r v =
        grow_is (flatten n e) (encode_row r) (one r)
        (flattened rl rs rh reading ks r.cells (λ t. range_of t r.cells) Any below_any (value_steps ks r.cells (long r v)) e Flag tt typed (encode_row r) n (row_long r v)
        (coded_cells rl rs rh cl cg cm c r.cells r.annot (long r v)))

    pub at_whole : (r : RangeRow) → IsRangeRow ks r → EndsAt (one r) i (range_of e r.cells)
    at_whole r v = found rl rs rh reading ks r.cells (λ t. range_of t r.cells) (encode_row r) n e (row_long r v)

    pub at_triple : (r : RangeRow) → IsRangeRow ks r → Ends cl cg cm (one r) (3 * c) r.annot
    at_triple r v = ends_more cl cg cm (encode_row r) (flat r) (3 * c) r.annot (coded_triple rl rs rh cl cg cm c r.cells r.annot (long r v))

    now : (r : RangeRow) (t : PTerm) (x : Value) → ((more : List Value) → plain_value t (one r ++ more) ≡ x) → plain_value t (one r) ≡ x
    now r t x h = ap (plain_value t) (sym (append-nil (one r))) ∙ h []

    passes_if : (r : RangeRow) → IsRangeRow ks r → passes (hi i) (one r) ≡ is_true (range_of e r.cells).hi
    passes_if r v = ap is_true (now r (hi i) (range_of e r.cells).hi (hi_has (one r) i (range_of e r.cells) (at_whole r v)))

    pub same_test : (r : RangeRow) → IsRangeRow ks r → passes (hi i) (one r) ≡ not (is_none (selected r).annot)
    same_test r v = passes_if r v ∙ left_if (is_true (range_of e r.cells).hi) r.annot.most v.present

    pub new_mean : (r : RangeRow) → IsRangeRow ks r → AllMean reading (one r) new (least_left r ∷ guess_left r ∷ [])
    new_mean r v =
        let t = at_triple r v in
        let w = at_whole r v in
        let a = range_of e r.cells in (
          (λ more. λ k. Some (on_values.choose (lo_has (one r) i a w more k) (column_has (one r) (3 * c) (cl r.annot) t.lo more k) (value.Int (pos 0)))),
          ((λ more. λ k. Some (on_values.choose (sg_has (one r) i a w more k) (column_has (one r) (3 * c + 1) (cg r.annot) t.sg more k) (value.Int (pos 0)))), tt),
        )

    same : (r : RangeRow) → IsRangeRow ks r → passes (hi i) (one r) ≡ true → kept places (grow new (one r)) ≡ encode_row (selected r)
    same r v h =
        let a = range_of e r.cells in
        let x = least_left r in
        let y = guess_left r in
        let row = one r ++ (x ∷ y ∷ []) in
        let grew : grow new (one r) ≡ row = grow_is new (one r) row (adds reading (one r) new (x ∷ y ∷ []) (new_mean r v)) in
        let long_one : length (one r) ≡ m =
        length-append (encode_row r) (flat r)
        ∙ (λ k. row_long r v k + added_long rl rs rh reading ks r.cells (λ t. range_of t r.cells) e k) in
        let picks = select_picks rl rs rh cl cg cm c r.cells r.annot (long r v) (flat r) x y m long_one in
        let possible : is_true a.hi ≡ true = sym (passes_if r v) ∙ h in
        ap (kept places) grew
        ∙ kept_are row places (encode_cells r.cells ++ (x ∷ y ∷ cm r.annot ∷ [])) picks
        ∙ (λ k. encode_cells r.cells
        ++ (count_if (is_true a.lo) r.annot.least k ∷ count_if (is_true a.sg) r.annot.guess k ∷ value.Int (pos (most_if (is_true a.hi) r.annot.most possible k)) ∷ []))

    -- the rows with the columns of the condition
    pub inner_rows : (ts : List Rows) (p : PlanTree) (rows : Bounded) → IsRelation ks rows → GivesEncoded ts p rows → plain_rows (extend_all (flatten n e) p) ts ≡ map one rows
    inner_rows ts p rows ok g =
        rows-extend_all (flatten n e) p ts
        ∙ ap (map (grow (flatten n e))) g
        ∙ map-map encode_row (grow (flatten n e)) rows
        ∙ map_valid (IsRangeRow ks) (λ r. grow (flatten n e) (encode_row r)) one rows ok grown

    -- Select's plan gives the rows of the bounded select.
    pub select_gives : (ts : List Rows) (p : PlanTree) (rows : Bounded) → IsRelation ks rows → GivesEncoded ts p rows → GivesEncoded ts (select_plan c e p) (bounded.select e rows)
    select_gives ts p rows ok g =
        let inner = extend_all (flatten n e) p in
        ap (map (kept places)) (rows-extend_all new (Filter (hi i) inner) ts)
        ∙ map-map (grow new) (kept places) (filter (passes (hi i)) (plain_rows inner ts))
        ∙ ap (λ rs. map (λ row. kept places (grow new row)) (filter (passes (hi i)) rs)) (inner_rows ts p rows ok g)
        ∙ passing (IsRangeRow ks) one (passes (hi i)) (λ row. kept places (grow new row)) selected (λ r. not (is_none r.annot)) encode_row same_test same rows ok
