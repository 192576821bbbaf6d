-- Grouping by points, where it is typed, gives rows of ranges and keeps a distribution and the counted guesses.
use Rattle.std.specs.Prelude.{◌≡◌, ◌≤◌, ℕ, not, nat_le, List, [], ◌∷◌, ◌++◌, length, map, take, Some}
use Rattle.std.specs.List.{AllByRecursion}
use Rattle.std.proofs.Common.{arith, refl, sym, ◌∙◌, ap, subst}
use Rattle.std.proofs.lemmas.List.{append-nil, map-id, take-map}
use Rattle.au_value.specs.declared.kinds.Kind.{Kind}
use Rattle.au_value.specs.declared.value.Value.{Value}
use Rattle.au_value.specs.Ranges.{all_certain}
use Rattle.au_value.specs.Lists.{distinct}
use Rattle.au_algebra.specs.declared.query.Agg.{Agg}
use Rattle.au_algebra.specs.Typing.{agg_kind, all_kinds, group_kinds}
use Rattle.au_algebra.specs.Lists.{same_row}
use Rattle.au_algebra.specs.Bounded.{RangeRow, Bounded, group, distinct_rows}
use Rattle.au_algebra.specs.Ordinary as ordinary
use Rattle.au_algebra.specs.Ordinary.{Rows}
use Rattle.au_algebra.specs.Distribution.{Bounds, guess_count}
use Rattle.au_algebra.specs.Laws.{IsRangeRow, IsRelation}
use Rattle.au_algebra.proofs.AggregateKinds.{typed_fitting}
use Rattle.au_algebra.proofs.DistinctKeys.{Keys, occurs_distinct}
use Rattle.au_algebra.proofs.Each.{all_append, all_filter}
use Rattle.au_algebra.proofs.GroupRelation.{group_relation, distinct_relation, keys_ranges}
use Rattle.au_algebra.proofs.GuessedByGroup.{group_guesses, distinct_guesses}
use Rattle.au_algebra.proofs.Items.{and_then_is, chosen_is, some_is}
use Rattle.au_algebra.proofs.KeptByGroup.{take_holds, keys_wide, keys_valid, rows_alone}
use Rattle.au_algebra.proofs.Outputs.{row_of}
use Rattle.au_algebra.proofs.Places.{row_keys}
use Rattle.au_algebra.proofs.PositiveRelation.{present_relation}
use Rattle.au_algebra.proofs.RelationRows.{IsLoose, IsLooseRow, relation_loose, relation_triples, relation_wide, relation_holds, relation_ranges}
use Rattle.au_points.specs.BesideGroup.{PointsGuessAlike}
use Rattle.au_points.specs.Groupings.{KeepsRows, KeepsGroups}
use Rattle.au_points.specs.Points.{point_output, point_outputs, points_of, unsure_rows, other_rows, group_points, distinct_points, by_points}
use Rattle.au_points.proofs.PointsBound.{group_by_points_bounds}
use Rattle.au_points.proofs.PointsGuess.{guessed_alike}
use Rattle.au_points.proofs.PointsRelation.{points_loose}
use Rattle.au_points.proofs.Possible.{possible_relation, possible_guess}

-- the rows with unsure keys are a relation of the same kinds, and guess nothing
loose_relation : (ks : List Kind) (keys : ℕ) (rows : Bounded) → IsRelation ks rows → IsRelation ks (other_rows (take keys) rows)
loose_relation ks keys rows ok =
    possible_relation ks (unsure_rows (take keys) rows) (all_filter (IsRangeRow ks) (λ r. not (all_certain (take keys r.cells))) rows ok)

own_loose : (ks : List Kind) (rows : Bounded) → IsRelation ks rows → IsRelation ks (other_rows (λ cells. cells) rows)
own_loose ks rows ok =
    possible_relation ks (unsure_rows (λ cells. cells) rows) (all_filter (IsRangeRow ks) (λ r. not (all_certain r.cells)) rows ok)

-- rows of ranges of which each may be there are a relation
once : (ks : List Kind) (f : List Value → RangeRow) → ((g : List Value) → 1 ≤ (f g).annot.most) → (gs : Keys) → IsLoose ks (map f gs) → IsRelation ks (map f gs)
once ks f h [] l = tt
once ks f h (g ∷ gs) l = (record { cells = l.0.cells; triple = l.0.triple; present = h g }, once ks f h gs l.1)

-- ---- the groups by the leading columns

module _ (ks js : List Kind) (keys : ℕ) (aggs : List Agg) (typed : all_kinds (map (agg_kind ks) aggs) ≡ Some js) (rows : Bounded) (ok : IsRelation ks rows) where
  other_relation : IsRelation (take keys ks ++ js) (group keys aggs (other_rows (take keys) rows))
  other_relation = group_relation ks js keys aggs (other_rows (take keys) rows) typed (loose_relation ks keys rows ok)

  nothing : (v : List Value) → guess_count (group keys aggs (other_rows (take keys) rows)) v ≡ 0
  nothing v =
      group_guesses ks keys aggs (other_rows (take keys) rows) [] (loose_relation ks keys rows ok) (λ u. possible_guess u (unsure_rows (take keys) rows)) v

  alike : (v : List Value) → guess_count (group_points keys aggs rows) v ≡ guess_count (group keys aggs rows) v
  alike v =
      guessed_alike (take keys) aggs (take keys) (λ cells. sym (take-map (λ r. r.sg) keys cells)) (length (take keys ks)) rows (keys_wide keys ks rows ok) (relation_triples ks rows ok)
      (relation_triples (take keys ks ++ js) (group keys aggs (other_rows (take keys) rows)) other_relation) nothing v

  loose_points : IsLoose (take keys ks ++ js) (point_outputs (take keys) aggs rows)
  loose_points =
      points_loose (take keys) (take keys) (take_holds keys) (λ cells. sym (take-map (λ r. r.sg) keys cells)) ks (take keys ks) js aggs typed (length (take keys ks)) rows ok (keys_wide keys ks rows ok) (keys_valid keys ks rows ok) (keys_ranges keys ks rows ok) (points_of (take keys) rows) (occurs_distinct (row_keys (take keys) rows))

  -- the rows of the points alone
  pub points_relation : IsRelation (take keys ks ++ js) (point_outputs (take keys) aggs rows)
  points_relation = once (take keys ks ++ js) (point_output (take keys) aggs rows) (λ g. omega arith) (points_of (take keys) rows) loose_points

  relation : IsRelation (take keys ks ++ js) (group_points keys aggs rows)
  relation =
      let kinds = take keys ks ++ js in
      let points = point_outputs (take keys) aggs rows in
      let others = group keys aggs (other_rows (take keys) rows) in
      present_relation kinds (points ++ others) (all_append (IsLooseRow kinds) points others loose_points (relation_loose kinds others other_relation))

  bounds : (w : Rows) → Bounds rows w → Bounds (group_points keys aggs rows) (ordinary.group keys aggs w)
  bounds w b =
      group_by_points_bounds (take keys) (take keys) (take_holds keys) ks aggs (length (take keys ks)) rows w (typed_fitting ks aggs js typed) ok (keys_wide keys ks rows ok) (keys_valid keys ks rows ok) b

points_keep : (ks js : List Kind) (keys : ℕ) (aggs : List Agg) → group_kinds keys aggs ks ≡ Some js → KeepsRows ks js (group_points keys aggs) (ordinary.group keys aggs)
points_keep ks js keys aggs h =
    let p = and_then_is _ (all_kinds (map (agg_kind ks) aggs)) js (chosen_is (nat_le keys (length ks)) _ js h).1 in
    record {
      relation = λ rows ok. subst (λ l. IsRelation l (group_points keys aggs rows)) (some_is (take keys ks ++ p.0) js p.2) (relation ks p.0 keys aggs p.1 rows ok);
      bounds = λ rows w ok b. bounds ks p.0 keys aggs p.1 rows ok w b;
      guesses = λ rows w ok g v. alike ks p.0 keys aggs p.1 rows ok v ∙ group_guesses ks keys aggs rows w ok g v;
    }

-- each row of values is guessed as often as by Group
pub points_guess_alike : PointsGuessAlike
points_guess_alike ks js keys aggs rows v h ok =
    let p = and_then_is _ (all_kinds (map (agg_kind ks) aggs)) js (chosen_is (nat_le keys (length ks)) _ js h).1 in
    alike ks p.0 keys aggs p.1 rows ok v

-- ---- the distinct rows

module _ (ks : List Kind) (rows : Bounded) (ok : IsRelation ks rows) where
  own_others : IsRelation ks (distinct_rows (other_rows (λ cells. cells) rows))
  own_others = distinct_relation ks (other_rows (λ cells. cells) rows) (own_loose ks rows ok)

  own_nothing : (v : List Value) → guess_count (distinct_rows (other_rows (λ cells. cells) rows)) v ≡ 0
  own_nothing v =
      distinct_guesses ks (other_rows (λ cells. cells) rows) [] (own_loose ks rows ok) (λ u. possible_guess u (unsure_rows (λ cells. cells) rows)) v

  own_alike : (v : List Value) → guess_count (distinct_points rows) v ≡ guess_count (distinct_rows rows) v
  own_alike v =
      guessed_alike (λ cells. cells) [] (λ u. u) (λ cells. refl) (length ks) rows (relation_wide ks rows ok) (relation_triples ks rows ok)
      (relation_triples ks (distinct_rows (other_rows (λ cells. cells) rows)) own_others) own_nothing v

  own_relation : IsRelation ks (distinct_points rows)
  own_relation =
      let points = map (point_output (λ cells. cells) [] rows) (points_of (λ cells. cells) rows) in
      let others = distinct_rows (other_rows (λ cells. cells) rows) in
      present_relation ks (points ++ others)
      (all_append (IsLooseRow ks) points others
      (subst (λ l. AllByRecursion (IsLooseRow l) points) (append-nil ks)
      (points_loose (λ cells. cells) (λ v. v) (λ cells v h. h) (λ cells. refl) ks ks [] [] refl (length ks) rows ok (relation_wide ks rows ok) (relation_holds ks rows ok) (relation_ranges ks rows ok) (points_of (λ cells. cells) rows) (occurs_distinct (row_keys (λ cells. cells) rows))))
      (relation_loose ks others own_others))

  own_bounds : (w : Rows) → Bounds rows w → Bounds (distinct_points rows) (distinct same_row w)
  own_bounds w b =
      let f = row_of (λ v. v) [] w in
      let d = distinct same_row (map (λ v. v) w) in
      let same : map f d ≡ distinct same_row w = rows_alone f d append-nil ∙ ap (distinct same_row) (map-id w) in
      subst (Bounds (distinct_points rows)) same
      (group_by_points_bounds (λ cells. cells) (λ v. v) (λ cells v h. h) ks [] (length ks) rows w tt ok (relation_wide ks rows ok) (relation_holds ks rows ok) b)

distinct_points_keep : (ks : List Kind) → KeepsRows ks ks distinct_points (distinct same_row)
distinct_points_keep ks = record {
  relation = λ rows ok. own_relation ks rows ok;
  bounds = λ rows w ok b. own_bounds ks rows ok w b;
  guesses = λ rows w ok g v. own_alike ks rows ok v ∙ distinct_guesses ks rows w ok g v;
}

-- grouping by points keeps what Group and Distinct keep
pub points_keep_groups : KeepsGroups by_points
points_keep_groups = record { groups = points_keep; distinct_of = distinct_points_keep }
