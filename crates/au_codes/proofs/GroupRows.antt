-- Rows of a grouping over cells.
use Rattle.std.specs.Prelude.{◌≡◌, ◌<◌, ℕ, Bool, true, false, cond, ◌||◌, List, [], ◌∷◌, ◌++◌, length, map, filter, slice_get, Some}
use Rattle.std.specs.List.{AllByRecursion, list_any}
use Rattle.std.proofs.Common.{refl, sym, ap, ◌∙◌, inl, inr, arith}
use Rattle.std.proofs.lemmas.Bool.{cases_Bool}
use Rattle.au_value.specs.declared.kinds.Kind.{Kind}
use Rattle.au_value.specs.declared.kinds.Kind.TheVariants as kind
use Rattle.au_value.specs.declared.value.Value.{Value}
use Rattle.au_value.specs.Lists.{distinct}
use Rattle.au_expr.specs.Ordinary.{number}
use Rattle.au_algebra.specs.Lists.{same_row, int_sum, least, greatest, value_at}
use Rattle.au_algebra.specs.Ordinary.{Rows}
use Rattle.au_algebra.specs.Typing.{all_kinds}
use Rattle.au_algebra.proofs.AggregateKinds.{kinds_parts, sum_kind}
use Rattle.au_algebra.proofs.Copies.{same_row_refl}
use Rattle.au_algebra.proofs.Each.{all_distinct, all_filter}
use Rattle.au_algebra.proofs.Items.{some_is}
use Rattle.au_plain.specs.declared.plan.PAgg.{PAgg}
use Rattle.au_plain.specs.declared.plan.PAgg.TheVariants.{Sum, Min, Max}
use Rattle.au_plain.specs.PlanKinds.{kept_kinds, plain_agg_kind}
use Rattle.au_plain.specs.Meaning.{kept, plain_aggregate, plain_group}
use Rattle.au_codes.specs.Codes.{Code, KeepsOrder, Cells, code, coded_row, coded_rows}
use Rattle.au_codes.specs.CellMeaning.{cell_in, cells_kept, same_cells, least_number, greatest_number, cell_aggregate, cell_members, cell_group}
use Rattle.au_codes.proofs.Lists.{map-append, map-map, map_same, filter_kept, distinct_kept, all_map}
use Rattle.au_codes.proofs.KeptOrder.{rows_equal}
use Rattle.au_codes.proofs.Terms.{IsRow, IsCell, HasCell, cell_at, cell_in_row, whole_cell, lesser_has, greater_has}
use Rattle.au_codes.proofs.JoinedRows.{AreRows, AreCoded, row_append, kept_row, kept_cells, keep_coded}

-- ---- each key is that of some row

abbrev pub Seen : Rows → List Value → Type 0
Seen xs k = list_any (same_row k) xs ≡ true

or_right : (b c : Bool) → c ≡ true → (b || c) ≡ true
or_right true c h = refl
or_right false c h = h

or_left : (b c : Bool) → b ≡ true → (b || c) ≡ true
or_left true c h = refl
or_left false c h = cc

seen_later : (x : List Value) (xs ys : Rows) → AllByRecursion (Seen xs) ys → AllByRecursion (Seen (x ∷ xs)) ys
seen_later x xs [] h = tt
seen_later x xs (y ∷ ys) h = (or_right (same_row y x) (list_any (same_row y) xs) h.0, seen_later x xs ys h.1)

all_seen : (xs : Rows) → AllByRecursion (Seen xs) xs
all_seen [] = tt
all_seen (x ∷ xs) = (or_left (same_row x x) (list_any (same_row x) xs) (same_row_refl x), seen_later x xs xs (all_seen xs))

some_if : (b : Bool) (r : List Value) (rows : Rows) → b ≡ true → 0 < length (cond b (r ∷ rows) rows)
some_if true r rows h = omega arith
some_if false r rows h = cc

more_if : (b : Bool) (r : List Value) (rows : Rows) → 0 < length rows → 0 < length (cond b (r ∷ rows) rows)
more_if true r rows h = omega arith
more_if false r rows h = h

-- the rows with a key
abbrev pub members : List ℕ → Rows → List Value → Rows
members keys rows key = filter (λ row. same_row key (kept keys row)) rows

pub some_members : (keys : List ℕ) (k : List Value) (rows : Rows) → Seen (map (kept keys) rows) k → 0 < length (members keys rows k)
some_members keys k [] h = cc
some_members keys k (r ∷ rows) h =
    elim (cases_Bool (same_row k (kept keys r))) [
      | inl here ↦ some_if (same_row k (kept keys r)) r (members keys rows k) here
      | inr here ↦ more_if (same_row k (kept keys r)) r (members keys rows k) (some_members keys k rows (rw here at h))
    ]

module _ (c : Code) (keeps : KeepsOrder c) where
  -- two rows of the same kinds are equal where their cells are
  pub equal_cells : (ks : List Kind) (a b : List Value) → IsRow c ks a → IsRow c ks b → same_cells (coded_row c a) (coded_row c b) ≡ same_row a b
  equal_cells ks a b h g = rows_equal c keeps a b (h.kinds ∙ sym g.kinds) h.known g.known

  -- the least and the greatest of some cells
  least_of : (k : Kind) (v : Value) (vs : List Value) → AllByRecursion (IsCell c k) (v ∷ vs) → HasCell c k (least (v ∷ vs)) (least_number (map (code c) (v ∷ vs)))
  least_of k v [] h = record { kind = h.0.kind; known = h.0.known; is = refl }
  least_of k v (w ∷ ws) h = lesser_has c keeps k _ _ _ _ (record { kind = h.0.kind; known = h.0.known; is = refl }) (least_of k w ws h.1)

  greatest_of : (k : Kind) (v : Value) (vs : List Value) → AllByRecursion (IsCell c k) (v ∷ vs) → HasCell c k (greatest (v ∷ vs)) (greatest_number (map (code c) (v ∷ vs)))
  greatest_of k v [] h = record { kind = h.0.kind; known = h.0.known; is = refl }
  greatest_of k v (w ∷ ws) h = greater_has c keeps k _ _ _ _ (record { kind = h.0.kind; known = h.0.known; is = refl }) (greatest_of k w ws h.1)

  -- a column of some rows
  column_cells : (i : ℕ) (rows : Rows) → map (λ row. cell_in row i) (coded_rows c rows) ≡ map (code c) (map (λ row. value_at row i) rows)
  column_cells i [] = refl
  column_cells i (r ∷ rows) = λ j. cell_in_row c keeps r i j ∷ column_cells i rows j

  column_values : (ks : List Kind) (i : ℕ) (k : Kind) → slice_get ks i ≡ Some k → (rows : Rows) → AreRows c ks rows → AllByRecursion (IsCell c k) (map (λ row. value_at row i) rows)
  column_values ks i k s rows h = all_map (IsRow c ks) (IsCell c k) (λ row. value_at row i) (λ row g. cell_at c keeps row ks i k g.kinds g.known s) rows h

  column_numbers : (ks : List Kind) (i : ℕ) → slice_get ks i ≡ Some kind.Int → (rows : Rows) → AreRows c ks rows → map (λ row. cell_in row i) (coded_rows c rows) ≡ map (λ row. number (value_at row i)) rows
  column_numbers ks i s rows h =
      map-map (coded_row c) (λ row. cell_in row i) rows
      ∙ map_same (IsRow c ks) (λ row. cell_in (coded_row c row) i) (λ row. number (value_at row i))
      (λ row g. cell_in_row c keeps row i ∙ whole_cell c keeps (value_at row i) (cell_at c keeps row ks i kind.Int g.kinds g.known s).kind) rows h

  -- an aggregate over some rows
  aggregate_coded : (ks : List Kind) (agg : PAgg) (k : Kind) → plain_agg_kind ks agg ≡ Some k → (rows : Rows) → AreRows c ks rows → 0 < length rows → HasCell c k (plain_aggregate rows agg) (cell_aggregate (coded_rows c rows) agg)
  aggregate_coded ks (Sum i) k t rows h some =
      let p = sum_kind (slice_get ks i) k t in
      record { kind = sym p.kind; known = tt; is = ap int_sum (column_numbers ks i p.column rows h) }
  aggregate_coded ks (Min i) k t [] h some = absurd (omega arith)
  aggregate_coded ks (Min i) k t (r ∷ rows) h some =
      let own = least_of k (value_at r i) (map (λ row. value_at row i) rows) (column_values ks i k t (r ∷ rows) h) in
      record { kind = own.kind; known = own.known; is = ap least_number (column_cells i (r ∷ rows)) ∙ own.is }
  aggregate_coded ks (Max i) k t [] h some = absurd (omega arith)
  aggregate_coded ks (Max i) k t (r ∷ rows) h some =
      let own = greatest_of k (value_at r i) (map (λ row. value_at row i) rows) (column_values ks i k t (r ∷ rows) h) in
      record { kind = own.kind; known = own.known; is = ap greatest_number (column_cells i (r ∷ rows)) ∙ own.is }

  -- a row and its cells
  record RowCoded (ks : List Kind) (plain : List Value) (on_cells : Cells) : Type 0 where
    row : IsRow c ks plain
    coded : on_cells ≡ coded_row c plain

  aggregates_coded : (ks : List Kind) (aggs : List PAgg) (more : List Kind) → all_kinds (map (plain_agg_kind ks) aggs) ≡ Some more → (rows : Rows) → AreRows c ks rows → 0 < length rows → RowCoded more (map (plain_aggregate rows) aggs) (map (cell_aggregate (coded_rows c rows)) aggs)
  aggregates_coded ks [] more t rows h some = record { row = record { kinds = some_is [] more t; known = tt }; coded = refl }
  aggregates_coded ks (agg ∷ aggs) more t rows h some =
      let p = kinds_parts (plain_agg_kind ks agg) (map (plain_agg_kind ks) aggs) more t in
      let first = aggregate_coded ks agg p.first p.first_is rows h some in
      let others = aggregates_coded ks aggs p.others p.others_are rows h some in
      record {
        row = record { kinds = (λ i. first.kind i ∷ others.row.kinds i) ∙ sym p.whole; known = (first.known, others.row.known) };
        coded = λ i. first.is i ∷ others.coded i;
      }

  module _ (ks : List Kind) (keys : List ℕ) (aggs : List PAgg) (js more : List Kind) (keyed : kept_kinds keys ks ≡ Some js) (typed : all_kinds (map (plain_agg_kind ks) aggs) ≡ Some more) (rows : Rows) (h : AreRows c ks rows) where
    -- a key of these kinds that some row has
    record IsKey (key : List Value) : Type 0 where
      row : IsRow c js key
      seen : Seen (map (kept keys) rows) key

    -- the rows with a key
    pub members_coded : (key : List Value) → IsRow c js key → cell_members keys (coded_rows c rows) (coded_row c key) ≡ coded_rows c (members keys rows key)
    members_coded key g =
        filter_kept (IsRow c ks) (coded_row c) (λ row. same_cells (coded_row c key) (cells_kept keys row)) (λ row. same_row key (kept keys row))
        (λ row k. ap (same_cells (coded_row c key)) (kept_cells c keeps keys row) ∙ equal_cells js key (kept keys row) g (kept_row c keeps ks keys js keyed row k)) rows h

    -- the row of a key
    abbrev group_row : List Value → List Value
    group_row key = key ++ map (plain_aggregate (members keys rows key)) aggs

    abbrev group_cells : Cells → Cells
    group_cells key = key ++ map (cell_aggregate (cell_members keys (coded_rows c rows) key)) aggs

    own_row : (key : List Value) → IsKey key → RowCoded (js ++ more) (group_row key) (group_cells (coded_row c key))
    own_row key g =
        let some = some_members keys key rows g.seen in
        let are = all_filter (IsRow c ks) (λ row. same_row key (kept keys row)) rows h in
        let values = aggregates_coded ks aggs more typed (members keys rows key) are some in
        record {
          row = row_append c keeps js more key (map (plain_aggregate (members keys rows key)) aggs) g.row values.row;
          coded =
              ap (λ all. coded_row c key ++ map (cell_aggregate all) aggs) (members_coded key g.row)
              ∙ ap (λ vs. coded_row c key ++ vs) values.coded
              ∙ sym (map-append (code c) key (map (plain_aggregate (members keys rows key)) aggs));
        }

    both_facts : (xs : Rows) → AllByRecursion (IsRow c js) xs → AllByRecursion (Seen (map (kept keys) rows)) xs → AllByRecursion IsKey xs
    both_facts [] p q = tt
    both_facts (x ∷ xs) p q = (record { row = p.0; seen = q.0 }, both_facts xs p.1 q.1)

    pub found_rows : AreRows c js (distinct same_row (map (kept keys) rows))
    found_rows = all_distinct (IsRow c js) same_row (map (kept keys) rows) (keep_coded c keeps ks keys js keyed rows h).rows

    found_keys : AllByRecursion IsKey (distinct same_row (map (kept keys) rows))
    found_keys =
        both_facts (distinct same_row (map (kept keys) rows)) found_rows
        (all_distinct (Seen (map (kept keys) rows)) same_row (map (kept keys) rows) (all_seen (map (kept keys) rows)))

    pub keys_coded : distinct same_cells (map (cells_kept keys) (coded_rows c rows)) ≡ coded_rows c (distinct same_row (map (kept keys) rows))
    keys_coded =
        let own = keep_coded c keeps ks keys js keyed rows h in
        ap (distinct same_cells) own.coded ∙ distinct_kept (IsRow c js) (coded_row c) same_row same_cells (equal_cells js) (map (kept keys) rows) own.rows

    -- Group
    pub group_coded : AreCoded c (js ++ more) (plain_group keys aggs rows) (cell_group keys aggs (coded_rows c rows))
    group_coded = record {
      rows = all_map IsKey (IsRow c (js ++ more)) group_row (λ key g. (own_row key g).row) (distinct same_row (map (kept keys) rows)) found_keys;
      coded =
          ap (map group_cells) keys_coded
          ∙ map-map (coded_row c) group_cells (distinct same_row (map (kept keys) rows))
          ∙ map_same IsKey (λ key. group_cells (coded_row c key)) (λ key. coded_row c (group_row key)) (λ key g. (own_row key g).coded) (distinct same_row (map (kept keys) rows)) found_keys
          ∙ sym (map-map group_row (coded_row c) (distinct same_row (map (kept keys) rows)));
    }
