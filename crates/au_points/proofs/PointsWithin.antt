-- The row of each point lies within the row of Group for these keys.
use Rattle.std.specs.Prelude.{◌≡◌, ℕ, ◌+◌, ◌≤◌, ◌<◌, Bool, true, false, not, ◌&&◌, ◌||◌, cond, List, [], ◌∷◌, length, map, filter, take}
use Rattle.std.specs.List.{AllByRecursion, AllZip, list_any}
use Rattle.std.proofs.Common.{arith, refl, sym, ◌∙◌, ap, subst}
use Rattle.std.proofs.lemmas.List.Sums.{sum_by-cons}
use Rattle.std.proofs.lemmas.Bool.{and_parts, and_from, eqb-true, true≢false}
use Rattle.au_value.specs.declared.kinds.Kind.{Kind}
use Rattle.au_value.specs.declared.value.Value.{Value}
use Rattle.au_value.specs.Order.{at_most, equal}
use Rattle.au_value.specs.Ranges.{Span, certain, holds, is_certain, certainly_equal, all_hold, all_overlap, all_certain, all_certainly_equal, guesses}
use Rattle.au_value.proofs.OrderLaws.{equal_is}
use Rattle.au_annot.specs.Triples.{is_none}
use Rattle.au_algebra.specs.declared.query.Agg.{Agg}
use Rattle.au_algebra.specs.Lists.{same_row, copies}
use Rattle.au_algebra.specs.Bounded.{RangeRow, Bounded, aggregate, grouped, output, guessed_keys, present, most_of, some_of}
use Rattle.au_algebra.specs.Ordinary.{Rows}
use Rattle.au_algebra.specs.Laws.{IsRangeRow, IsRelation}
use Rattle.au_algebra.proofs.Certain.{both_held, all_certain_overlap}
use Rattle.au_algebra.proofs.Copies.{same_row_refl}
use Rattle.au_algebra.proofs.DistinctKeys.{Keys, Occurs, occurs_distinct}
use Rattle.au_algebra.proofs.Each.{all_filter}
use Rattle.au_algebra.proofs.GuessParts.{guess_parts, guessing_row}
use Rattle.au_algebra.proofs.Hulls.{KeysWide}
use Rattle.au_algebra.proofs.KeptByGroup.{keys_wide, keys_valid}
use Rattle.au_algebra.proofs.MergedBy.{pick_parts}
use Rattle.au_algebra.proofs.Places.{At, at_each, at_filter, belongs, is_sure, row_keys, hull_wider}
use Rattle.au_algebra.proofs.PositiveRelation.{zip_append}
use Rattle.au_points.specs.Points.{at_point, point_output, points_of}
use Rattle.au_points.specs.BesideGroup.{Inside, RowWithin, PointsLieWithin}
use Rattle.au_points.proofs.Narrower.{aggregates_within}

-- ---- points and boxes

-- ranges overlap a point where they hold it
pub overlap_point : (rs : List Span) (vs : List Value) → all_overlap rs (map certain vs) ≡ all_hold rs vs
overlap_point [] [] = refl
overlap_point [] (v ∷ vs) = refl
overlap_point (r ∷ rs) [] = refl
overlap_point (r ∷ rs) (v ∷ vs) = ap (λ b. holds r v && b) (overlap_point rs vs)

-- a point lies within ranges that hold it
point_inside : (rs : List Span) (vs : List Value) → all_hold rs vs ≡ true → AllZip Inside (map certain vs) rs
point_inside [] [] h = tt
point_inside [] (v ∷ vs) h = absurd (true≢false (sym h))
point_inside (r ∷ rs) [] h = absurd (true≢false (sym h))
point_inside (r ∷ rs) (v ∷ vs) h =
    let p = and_parts (holds r v) (all_hold rs vs) h in
    let q = and_parts (at_most r.lo v) (at_most v r.hi) p.0 in
    (record { lo = q.0; hi = q.1 }, point_inside rs vs p.1)

holds_too : (a b : Span) (v : Value) → certainly_equal a b ≡ true → holds b v ≡ true → holds a v ≡ true
holds_too a b v c h =
    let k = and_parts (is_certain a && is_certain b) (equal a.lo b.lo) c in
    let j = and_parts (is_certain a) (is_certain b) k.0 in
    let p = and_parts (at_most b.lo v) (at_most v b.hi) h in
    let lo : a.lo ≡ b.lo = equal_is a.lo b.lo k.1 in
    let hi : a.hi ≡ b.hi = sym (equal_is a.lo a.hi j.0) ∙ lo ∙ equal_is b.lo b.hi j.1 in
    and_from (at_most a.lo v) (at_most v a.hi) (subst (λ x. at_most x v ≡ true) (sym lo) p.0) (subst (λ x. at_most v x ≡ true) (sym hi) p.1)

-- ranges that are certainly equal hold the same
all_hold_too : (rs ss : List Span) (vs : List Value) → all_certainly_equal rs ss ≡ true → all_hold ss vs ≡ true → all_hold rs vs ≡ true
all_hold_too [] [] vs c h = h
all_hold_too [] (b ∷ ss) vs c h = absurd (true≢false (sym c))
all_hold_too (a ∷ rs) [] vs c h = absurd (true≢false (sym c))
all_hold_too (a ∷ rs) (b ∷ ss) [] c h = absurd (true≢false (sym h))
all_hold_too (a ∷ rs) (b ∷ ss) (v ∷ vs) c h =
    let k = and_parts (certainly_equal a b) (all_certainly_equal rs ss) c in
    let p = and_parts (holds b v) (all_hold ss vs) h in
    and_from (holds a v) (all_hold rs vs) (holds_too a b v k.0 p.0) (all_hold_too rs ss vs k.1 p.1)

at_some : {r : RangeRow} {p : Rows} (rows : Bounded) (ps : List Rows) → At r p rows ps → 0 < length rows
at_some [] ps a = elim a [ ]
at_some (r ∷ rows) ps a = omega arith

-- ---- rows of which a copy is possible

pub all_present : (rows : Bounded) → AllByRecursion (λ r. 1 ≤ r.annot.most) rows → present rows ≡ rows
all_present [] h = refl
all_present (r ∷ rows) h = one (is_none r.annot) refl ∙ ap (λ q. r ∷ q) (all_present rows h.1)
  where
    one : (b : Bool) → is_none r.annot ≡ b → cond (not b) (r ∷ present rows) (present rows) ≡ r ∷ present rows
    one true e = let none = eqb-true r.annot.most 0 e in let never : ⊥ = omega (arith, none, h.0) in absurd never
    one false e = refl

module _ (key : List Span → List Span) where
  most_by : (b d : Bool) (r : RangeRow) (rows : Bounded) → 1 ≤ r.annot.most → 1 ≤ most_of (cond (not b) (r ∷ rows) rows) + cond (b || d) 1 0
  most_by true d r rows h = omega arith
  most_by false d r rows h = omega (arith, h, sum_by-cons (λ s. s.annot.most) r rows)

  -- an output of Group has a copy in some world
  most_some : (ks : List Kind) (own : Bounded) → IsRelation ks own → 0 < length own → 1 ≤ most_of (filter (λ r. not (is_sure key r)) own) + some_of (is_sure key) own
  most_some ks [] ok some = let never : ⊥ = omega (arith, some) in absurd never
  most_some ks (r ∷ own) ok some =
      most_by (is_sure key r) (list_any (is_sure key) own) r (filter (λ s. not (is_sure key s)) own) ok.0.present

  module _ (ks : List Kind) (aggs : List Agg) (n : ℕ) (rows : Bounded) (ok : IsRelation ks rows) (wide : KeysWide key n rows) (valid : AllByRecursion (λ r. all_hold (key r.cells) (guesses (key r.cells)) ≡ true) rows) where
    abbrev parts : List Rows
    parts = guess_parts (λ r. r.annot.most) rows

    -- a row that guesses these keys, which holds them
    record Own (g : List Value) : Type 0 where
      row : RangeRow
      part : Rows
      place : At row part rows parts
      belong : belongs key g row ≡ true
      held : all_hold (key row.cells) g ≡ true

    own : (g : List Value) → 0 < copies g (row_keys key rows) → Own g
    own g some =
        let f = guessing_row (λ r. r.annot.most) key g rows some in
        record {
          row = f.row;
          part = _;
          place = f.place;
          belong = ap (same_row g) (sym f.keys) ∙ same_row_refl g;
          held = subst (λ k. all_hold (key f.row.cells) k ≡ true) (sym f.keys) (at_each (λ r. all_hold (key r.cells) (guesses (key r.cells)) ≡ true) f.place valid);
        }

    -- the box of an output holds its guessed keys
    box_holds : (g : List Value) → 0 < copies g (row_keys key rows) → all_hold (grouped key rows g).box g ≡ true
    box_holds g some =
        let f = own g some in
        hull_wider key n (at_filter (belongs key g) f.place f.belong) (all_filter (λ r. length (key r.cells) ≡ n) (belongs key g) rows wide) g f.held

    abbrev at_p : List Value → RangeRow → Bool
    at_p g r = all_overlap (key r.cells) (map certain g)

    abbrev at_h : List Value → RangeRow → Bool
    at_h g r = all_overlap (key r.cells) (grouped key rows g).box

    some_belong : (g : List Value) → 0 < copies g (row_keys key rows) → 0 < length (filter (belongs key g) rows)
    some_belong g some =
        let f = own g some in at_some (filter (belongs key g) rows) (pick_parts (belongs key g) rows parts) (at_filter (belongs key g) f.place f.belong)

    pub some_member : (g : List Value) → 0 < copies g (row_keys key rows) → 0 < length (filter (at_p g) rows)
    some_member g some =
        let f = own g some in
        at_some (filter (at_p g) rows) (pick_parts (at_p g) rows parts) (at_filter (at_p g) f.place (overlap_point (key f.row.cells) g ∙ f.held))

    row_within : (g : List Value) → 0 < copies g (row_keys key rows) → RowWithin (point_output key aggs rows g) (output key aggs rows g)
    row_within g some =
        let few = at_point key rows g in
        let many = grouped key rows g in
        let box = box_holds g some in
        let member = λ (r : RangeRow) (e : at_p g r ≡ true). both_held (key r.cells) many.box g (sym (overlap_point (key r.cells) g) ∙ e) box in
        let surer = λ (r : RangeRow) (e : (all_certain (key r.cells) && all_certain many.box) ≡ true). (and_parts (all_certain (key r.cells)) (all_certain many.box) e).0 in
        let sure_member = λ (r : RangeRow) (m : at_h g r ≡ true) (e : (all_certain (key r.cells) && all_certain many.box) ≡ true).
        (let c = and_parts (all_certain (key r.cells)) (all_certain many.box) e in
        overlap_point (key r.cells) g ∙ all_hold_too (key r.cells) many.box g (all_certain_overlap (key r.cells) many.box c.0 c.1 m) box) in
        record {
          cells = zip_append Inside (map certain g) (map (aggregate few) aggs) many.box (map (aggregate many) aggs) (point_inside many.box g box)
              (aggregates_within few many rows (at_p g) (at_h g) refl refl member surer sure_member aggs (some_member g some));
          least = refl;
          guess = refl;
          most = most_some ks (filter (belongs key g) rows) (all_filter (IsRangeRow ks) (belongs key g) rows ok) (some_belong g some);
        }

    rows_within : (gs : Keys) → Occurs (row_keys key rows) gs → AllZip RowWithin (map (point_output key aggs rows) gs) (map (output key aggs rows) gs)
    rows_within [] o = tt
    rows_within (g ∷ gs) o = (row_within g o.0, rows_within gs o.1)

    outputs_possible : (gs : Keys) → Occurs (row_keys key rows) gs → AllByRecursion (λ r. 1 ≤ r.annot.most) (map (output key aggs rows) gs)
    outputs_possible [] o = tt
    outputs_possible (g ∷ gs) o =
        (most_some ks (filter (belongs key g) rows) (all_filter (IsRangeRow ks) (belongs key g) rows ok) (some_belong g o.0), outputs_possible gs o.1)

    all_within : AllZip RowWithin (map (point_output key aggs rows) (points_of key rows)) (present (map (output key aggs rows) (guessed_keys key rows)))
    all_within =
        let o = occurs_distinct (row_keys key rows) in
        subst (AllZip RowWithin (map (point_output key aggs rows) (points_of key rows)))
        (sym (all_present (map (output key aggs rows) (guessed_keys key rows)) (outputs_possible (guessed_keys key rows) o)))
        (rows_within (points_of key rows) o)

pub points_lie_within : PointsLieWithin
points_lie_within ks js keys aggs rows typed ok =
    all_within (take keys) ks aggs (length (take keys ks)) rows ok (keys_wide keys ks rows ok) (keys_valid keys ks rows ok)
