-- The outputs of points are rows of ranges of the kinds of the keys and aggregates.
use Rattle.std.specs.Prelude.{◌≡◌, ℕ, ◌≤◌, ◌<◌, true, List, [], ◌∷◌, ◌++◌, length, map, filter, Some}
use Rattle.std.specs.List.{AllByRecursion, AllZip, list_any}
use Rattle.std.proofs.Common.{arith, refl, sym, ap, subst}
use Rattle.std.proofs.lemmas.Bool.{leb-true}
use Rattle.au_value.specs.declared.kinds.Kind.{Kind}
use Rattle.au_value.specs.declared.value.Value.{Value}
use Rattle.au_value.specs.Ranges.{Span, IsRangeOf, certain, all_hold, all_overlap, guesses}
use Rattle.au_algebra.specs.declared.query.Agg.{Agg}
use Rattle.au_algebra.specs.Typing.{agg_kind, all_kinds}
use Rattle.au_algebra.specs.Lists.{same_row, copies}
use Rattle.au_algebra.specs.Bounded.{RangeRow, Bounded, aggregate}
use Rattle.au_algebra.specs.Ordinary as ordinary
use Rattle.au_algebra.specs.Ordinary.{Rows}
use Rattle.au_algebra.specs.Laws.{IsRangeRow, IsRelation}
use Rattle.au_algebra.proofs.AggregateGuesses.{aggregates_guess}
use Rattle.au_algebra.proofs.AggregateKinds.{typed_fitting}
use Rattle.au_algebra.proofs.AggregateRanges.{IsFitting, all_unless_sum}
use Rattle.au_algebra.proofs.Certain.{both_held}
use Rattle.au_algebra.proofs.Copies.{same_row_is}
use Rattle.au_algebra.proofs.DistinctKeys.{Keys, Occurs}
use Rattle.au_algebra.proofs.Each.{all_filter, all_from}
use Rattle.au_algebra.proofs.GroupHomes as homes
use Rattle.au_algebra.proofs.GroupRelation.{output_triple}
use Rattle.au_algebra.proofs.GuessedByGroup as guessed
use Rattle.au_algebra.proofs.GuessParts.{guess_parts, CountsWithin, parts_taken, at_part, guessing_row, group_occurs, joined_guesses}
use Rattle.au_algebra.proofs.GuessWorld.{guess_world, is_there}
use Rattle.au_algebra.proofs.Hulls.{KeysWide}
use Rattle.au_algebra.proofs.MergedBy.{pick_parts}
use Rattle.au_algebra.proofs.OutputRanges.{aggregates_range}
use Rattle.au_algebra.proofs.Parts.{joined}
use Rattle.au_algebra.proofs.Places.{At, at_each, at_filter, passing, belongs, row_keys}
use Rattle.au_algebra.proofs.PositiveRelation.{zip_append}
use Rattle.au_algebra.proofs.RelationRows.{HoldsGuesses, relation_holds, relation_triples, IsLooseRow, IsLoose}
use Rattle.au_points.specs.Points.{at_point, point_output}
use Rattle.au_points.proofs.PointBasics.{hold_themselves, certain_ranges}
use Rattle.au_points.proofs.PointsBound.{point_aggregates}
use Rattle.au_points.proofs.PointsGuess.{at_most_one}

abbrev most_copies : RangeRow → ℕ
most_copies r = r.annot.most

abbrev guess_copies : RangeRow → ℕ
guess_copies r = r.annot.guess

most_within : (ks : List Kind) (rows : Bounded) → IsRelation ks rows → CountsWithin most_copies rows
most_within ks rows ok =
    all_from (IsRangeRow ks) (λ r. (r.annot.least ≤ r.annot.most) × (r.annot.most ≤ r.annot.most)) rows
    (λ r k. (omega (arith, k.triple.least_guess, k.triple.guess_most), omega arith)) ok

guess_within : (ks : List Kind) (rows : Bounded) → IsRelation ks rows → CountsWithin guess_copies rows
guess_within ks rows ok =
    all_from (IsRangeRow ks) (λ r. (r.annot.least ≤ r.annot.guess) × (r.annot.guess ≤ r.annot.most)) rows
    (λ r k. (k.triple.least_guess, k.triple.guess_most)) ok

at_some : {r : RangeRow} {p : Rows} (rows : Bounded) (ps : List Rows) → At r p rows ps → 0 < length rows
at_some [] ps a = elim a [ ]
at_some (r ∷ rows) ps a = omega arith

module _ (key : List Span → List Span) (key_of : List Value → List Value) (keeps : (cells : List Span) (v : List Value) → all_hold cells v ≡ true → all_hold (key cells) (key_of v) ≡ true) (natural : (cells : List Span) → guesses (key cells) ≡ key_of (guesses cells)) where
  module _ (ks key_kinds js : List Kind) (aggs : List Agg) (typed : all_kinds (map (agg_kind ks) aggs) ≡ Some js) where
    fit : AllByRecursion (IsFitting ks) aggs
    fit = typed_fitting ks aggs js typed

    module _ (n : ℕ) (rows : Bounded) (ok : IsRelation ks rows) (wide : KeysWide key n rows) (valid : homes.HoldsGuessedKeys key key_of keeps rows) (ranges : AllByRecursion (λ r. AllZip IsRangeOf key_kinds (key r.cells)) rows) where
      holds : HoldsGuesses rows
      holds = relation_holds ks rows ok

      point_box : (g : List Value) → 0 < copies g (row_keys key rows) → AllZip IsRangeOf key_kinds (map certain g)
      point_box g some =
          let f = guessing_row most_copies key g rows some in
          subst (λ q. AllZip IsRangeOf key_kinds (map certain q)) (sym f.keys)
          (certain_ranges key_kinds (key f.row.cells) (at_each (λ r. AllZip IsRangeOf key_kinds (key r.cells)) f.place ranges))

      -- a row that guesses a point is a member
      some_member : (g : List Value) → 0 < copies g (row_keys key rows) → 0 < length (at_point key rows g).members
      some_member g some =
          let f = guessing_row most_copies key g rows some in
          let own = subst (λ k. all_hold (key f.row.cells) k ≡ true) (sym f.keys) (at_each (λ r. all_hold (key r.cells) (guesses (key r.cells)) ≡ true) f.place valid) in
          let meets = both_held (key f.row.cells) (map certain g) g own (hold_themselves g) in
          let test = λ (r : RangeRow). all_overlap (key r.cells) (map certain g) in
          at_some (filter test rows) (pick_parts test rows (guess_parts most_copies rows)) (at_filter test f.place meets)

      -- the group of a point has a copy, where each row has its most copies
      group_possible : (g : List Value) → 0 < copies g (row_keys key rows) → 0 < copies g (map key_of (joined (guess_parts most_copies rows)))
      group_possible g some =
          let f = guessing_row most_copies key g rows some in
          let ok_row = at_each (IsRangeRow ks) f.place ok in
          group_occurs most_copies key key_of keeps natural g rows f.row f.place f.keys (omega (arith, ok_row.present))

      -- the same in the guess world, where the point is guessed
      group_guessed : (g : List Value) → list_any is_there (filter (belongs key g) rows) ≡ true → 0 < copies g (map key_of (joined (guess_parts guess_copies rows)))
      group_guessed g h =
          let f = passing is_there (belongs key g) rows (guess_parts guess_copies rows) (parts_taken guess_copies rows (guess_within ks rows ok) holds) h in
          let place = subst (λ p. At f.row p rows (guess_parts guess_copies rows)) (at_part guess_copies rows f.place) f.place in
          group_occurs guess_copies key key_of keeps natural g rows f.row place (same_row_is g (guesses (key f.row.cells)) f.kept) (omega (arith, leb-true 1 f.row.annot.guess f.passes))

      world_same : (v : List Value) → copies v (guess_world rows) ≡ copies v (joined (guess_parts guess_copies rows))
      world_same v = ap (copies v) (sym (joined_guesses rows))

      guess_held : (g : List Value) → list_any is_there (filter (belongs key g) rows) ≡ true → all_hold (map (aggregate (at_point key rows g)) aggs) (guesses (map (aggregate (at_point key rows g)) aggs)) ≡ true
      guess_held g h =
          let out = at_point key rows g in
          let world = joined (guess_parts guess_copies rows) in
          let group = filter (λ row. same_row g (key_of row)) world in
          let same = aggregates_guess out group h (guessed.group_world key key_of natural aggs n rows wide (relation_triples ks rows ok) world world_same g) aggs in
          let takes = parts_taken guess_copies rows (guess_within ks rows ok) holds in
          subst (λ q. all_hold (map (aggregate out) aggs) q ≡ true) (sym same)
          (point_aggregates key key_of keeps ks aggs fit n rows ok wide valid (guess_parts guess_copies rows) world takes (λ v. refl) g (group_guessed g h))

      point_cells : (g : List Value) → 0 < copies g (row_keys key rows) → AllZip IsRangeOf (key_kinds ++ js) (point_output key aggs rows g).cells
      point_cells g some =
          let out = at_point key rows g in
          let world = joined (guess_parts most_copies rows) in
          let group = filter (λ row. same_row g (key_of row)) world in
          let takes = parts_taken most_copies rows (most_within ks rows ok) holds in
          let held = point_aggregates key key_of keeps ks aggs fit n rows ok wide valid (guess_parts most_copies rows) world takes (λ v. refl) g (group_possible g some) in
          let members = all_filter (IsRangeRow ks) (λ r. all_overlap (key r.cells) (map certain g)) rows ok in
          zip_append IsRangeOf key_kinds js (map certain g) (map (aggregate out) aggs) (point_box g some)
          (aggregates_range ks out members (ordinary.aggregate group) aggs js typed (all_unless_sum (0 < length out.members) aggs (some_member g some)) held (guess_held g))

      point_loose : (g : List Value) → 0 < copies g (row_keys key rows) → IsLooseRow (key_kinds ++ js) (point_output key aggs rows g)
      point_loose g some =
          let old = output_triple key key_of keeps natural ks key_kinds js aggs typed n rows ok wide valid ranges g in
          record {
            cells = point_cells g some;
            triple = record { least_guess = old.least_guess; guess_most = at_most_one (list_any is_there (filter (belongs key g) rows)) };
          }

      pub points_loose : (gs : Keys) → Occurs (row_keys key rows) gs → IsLoose (key_kinds ++ js) (map (point_output key aggs rows) gs)
      points_loose [] o = tt
      points_loose (g ∷ gs) o = (point_loose g o.0, points_loose gs o.1)
