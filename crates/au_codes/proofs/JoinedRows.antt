-- Rows of plans over cells, operator by operator: where rows are worked one by one, and where they are joined.
use Rattle.std.specs.Prelude.{◌≡◌, ℕ, Bool, true, ◌&&◌, ◌||◌, List, [], ◌∷◌, ◌++◌, map, filter, flat_map, slice_get, Some}
use Rattle.std.specs.List.{AllByRecursion}
use Rattle.std.specs.Ordering.{int_eq}
use Rattle.std.proofs.Common.{refl, sym, ap, ◌∙◌}
use Rattle.std.proofs.lemmas.Bool.{and_parts}
use Rattle.au_value.specs.declared.kinds.Kind.{Kind}
use Rattle.au_value.specs.declared.kinds.Kind.TheVariants as kind
use Rattle.au_value.specs.declared.value.Value.{Value}
use Rattle.au_value.specs.Order.{kind_of, at_most, below, equal}
use Rattle.au_expr.proofs.Along.{some_agreed}
use Rattle.au_algebra.specs.Lists.{value_at}
use Rattle.au_algebra.specs.Ordinary.{Rows}
use Rattle.au_algebra.proofs.AggregateKinds.{kinds_parts}
use Rattle.au_algebra.proofs.Each.{all_append, all_filter}
use Rattle.au_algebra.proofs.Items.{some_is}
use Rattle.au_algebra.proofs.Sorting.{all_sorted}
use Rattle.au_plain.specs.PTerms.{PTerm, plain_value}
use Rattle.au_plain.specs.PlanKinds.{plain_kind, kept_kinds}
use Rattle.au_plain.specs.Meaning.{extended, kept, passes}
use Rattle.au_physical.specs.declared.physical.Bounds.{Bounds}
use Rattle.au_physical.specs.PhysicalKinds.{one_kind, equal_kinds, bounds_kinds}
use Rattle.au_physical.specs.PhysicalMeaning.{equal_at, overlaps, range_at_most, by_range, pairs_where, equal_pairs, overlap_pairs}
use Rattle.au_codes.specs.Codes.{Code, KeepsOrder, Cells, CellRows, code, coded_row, coded_rows, number_at_most, Knows}
use Rattle.au_codes.specs.CodedPlans.{coded_term, KnowsTerm}
use Rattle.au_codes.specs.CellMeaning.{cell_value, cell_in, number_below, cells_extended, cells_kept, cells_pass, cell_pairs, cells_equal_at, cells_overlap, cells_at_most, cells_by_range}
use Rattle.au_codes.proofs.Lists.{map-append, map-map, map_same, filter_kept, flat_map-map, map-flat_map, flat_map_same, sorted_kept, all_map, all_flat_map}
use Rattle.au_codes.proofs.Terms.{IsRow, IsCell, cell_at, cell_in_row, truth_is, term_cell, at_most_number, below_number, equal_number}

-- rows of values of these kinds that the code knows
abbrev pub AreRows : Code → List Kind → Rows → Type 0
AreRows c ks rows = AllByRecursion (IsRow c ks) rows

-- such rows, and their cells
pub record AreCoded (c : Code) (ks : List Kind) (plain : Rows) (on_cells : CellRows) : Type 0 where
  pub rows : AreRows c ks plain
  pub coded : on_cells ≡ coded_rows c plain

module _ (c : Code) (keeps : KeepsOrder c) where
  -- two rows as one
  pub row_append : (ks js : List Kind) (a b : List Value) → IsRow c ks a → IsRow c js b → IsRow c (ks ++ js) (a ++ b)
  row_append ks js a b h g = record {
    kinds = map-append kind_of a b ∙ (λ i. h.kinds i ++ g.kinds i);
    known = all_append (Knows c) a b h.known g.known;
  }

  -- a row with one more value
  extended_row : (ks : List Kind) (e : PTerm) (k : Kind) → plain_kind ks e ≡ Some k → KnowsTerm c e → (row : List Value) → IsRow c ks row → IsRow c (ks ++ k ∷ []) (extended e row)
  extended_row ks e k typed knows row h =
      let v = term_cell c keeps ks row h.kinds h.known e k typed knows in
      row_append ks (k ∷ []) row (plain_value e row ∷ []) h (record { kinds = ap (λ j. j ∷ []) v.kind; known = (v.known, tt) })

  extended_cells : (ks : List Kind) (e : PTerm) (k : Kind) → plain_kind ks e ≡ Some k → KnowsTerm c e → (row : List Value) → IsRow c ks row → cells_extended (coded_term c e) (coded_row c row) ≡ coded_row c (extended e row)
  extended_cells ks e k typed knows row h =
      let v = term_cell c keeps ks row h.kinds h.known e k typed knows in
      (λ i. coded_row c row ++ v.is i ∷ []) ∙ sym (map-append (code c) row (plain_value e row ∷ []))

  -- Extend
  pub extend_coded : (ks : List Kind) (e : PTerm) (k : Kind) → plain_kind ks e ≡ Some k → KnowsTerm c e → (rows : Rows) → AreRows c ks rows →
      AreCoded c (ks ++ k ∷ []) (map (extended e) rows) (map (cells_extended (coded_term c e)) (coded_rows c rows))
  extend_coded ks e k typed knows rows h = record {
    rows = all_map (IsRow c ks) (IsRow c (ks ++ k ∷ [])) (extended e) (extended_row ks e k typed knows) rows h;
    coded =
        map-map (coded_row c) (cells_extended (coded_term c e)) rows
        ∙ map_same (IsRow c ks) (λ row. cells_extended (coded_term c e) (coded_row c row)) (λ row. coded_row c (extended e row)) (extended_cells ks e k typed knows) rows h
        ∙ sym (map-map (extended e) (coded_row c) rows);
  }

  -- the columns of some places
  pub kept_cells : (places : List ℕ) (row : List Value) → cells_kept places (coded_row c row) ≡ coded_row c (kept places row)
  kept_cells [] row = refl
  kept_cells (i ∷ places) row = λ j. cell_in_row c keeps row i j ∷ kept_cells places row j

  pub kept_row : (ks : List Kind) (places : List ℕ) (js : List Kind) → kept_kinds places ks ≡ Some js → (row : List Value) → IsRow c ks row → IsRow c js (kept places row)
  kept_row ks [] js t row h = record { kinds = some_is [] js t; known = tt }
  kept_row ks (i ∷ places) js t row h =
      let p = kinds_parts (slice_get ks i) (map (slice_get ks) places) js t in
      let cell = cell_at c keeps row ks i p.first h.kinds h.known p.first_is in
      let others = kept_row ks places p.others p.others_are row h in
      record { kinds = (λ j. cell.kind j ∷ others.kinds j) ∙ sym p.whole; known = (cell.known, others.known) }

  -- Keep
  pub keep_coded : (ks : List Kind) (places : List ℕ) (js : List Kind) → kept_kinds places ks ≡ Some js → (rows : Rows) → AreRows c ks rows →
      AreCoded c js (map (kept places) rows) (map (cells_kept places) (coded_rows c rows))
  keep_coded ks places js t rows h = record {
    rows = all_map (IsRow c ks) (IsRow c js) (kept places) (kept_row ks places js t) rows h;
    coded =
        map-map (coded_row c) (cells_kept places) rows
        ∙ map_same (IsRow c ks) (λ row. cells_kept places (coded_row c row)) (λ row. coded_row c (kept places row)) (λ row _. kept_cells places row) rows h
        ∙ sym (map-map (kept places) (coded_row c) rows);
  }

  -- whether a row passes
  pass_cells : (ks : List Kind) (e : PTerm) → plain_kind ks e ≡ Some kind.Flag → KnowsTerm c e → (row : List Value) → IsRow c ks row → cells_pass (coded_term c e) (coded_row c row) ≡ passes e row
  pass_cells ks e typed knows row h =
      truth_is c keeps (plain_value e row) (cell_value (coded_term c e) (coded_row c row)) (term_cell c keeps ks row h.kinds h.known e kind.Flag typed knows)

  -- Filter, over rows that are known to be coded
  pub filtered_coded : (ks : List Kind) (e : PTerm) → plain_kind ks e ≡ Some kind.Flag → KnowsTerm c e → (rows : Rows) (cells : CellRows) → AreCoded c ks rows cells →
      AreCoded c ks (filter (passes e) rows) (filter (cells_pass (coded_term c e)) cells)
  filtered_coded ks e typed knows rows cells h = record {
    rows = all_filter (IsRow c ks) (passes e) rows h.rows;
    coded =
        ap (filter (cells_pass (coded_term c e))) h.coded
        ∙ filter_kept (IsRow c ks) (coded_row c) (cells_pass (coded_term c e)) (passes e) (pass_cells ks e typed knows) rows h.rows;
  }

  -- ---- pairs

  -- one left row with each of some right rows
  beside_cells : (a : List Value) (ys : Rows) → map (λ b. coded_row c a ++ b) (coded_rows c ys) ≡ coded_rows c (map (λ b. a ++ b) ys)
  beside_cells a [] = refl
  beside_cells a (y ∷ ys) = λ i. sym (map-append (code c) a y) i ∷ beside_cells a ys i

  beside_rows : (ks js : List Kind) (a : List Value) → IsRow c ks a → (ys : Rows) → AreRows c js ys → AreRows c (ks ++ js) (map (λ b. a ++ b) ys)
  beside_rows ks js a h ys g = all_map (IsRow c js) (IsRow c (ks ++ js)) (λ b. a ++ b) (λ b k. row_append ks js a b h k) ys g

  -- each left row with each of the right rows that are picked for it
  picked_coded :
      (ks js : List Kind) (picks : List Value → Rows) (on_cells : Cells → CellRows) → ((a : List Value) → IsRow c ks a → AreCoded c js (picks a) (on_cells (coded_row c a))) →
      (xs : Rows) → AreRows c ks xs →
      AreCoded c (ks ++ js) (flat_map (λ a. map (λ b. a ++ b) (picks a)) xs) (flat_map (λ a. map (λ b. a ++ b) (on_cells a)) (coded_rows c xs))
  picked_coded ks js picks on_cells are xs h = record {
    rows = all_flat_map (IsRow c ks) (IsRow c (ks ++ js)) (λ a. map (λ b. a ++ b) (picks a)) (λ a k. beside_rows ks js a k (picks a) (are a k).rows) xs h;
    coded =
        flat_map-map (coded_row c) (λ a. map (λ b. a ++ b) (on_cells a)) xs
        ∙ flat_map_same (IsRow c ks) (λ a. map (λ b. coded_row c a ++ b) (on_cells (coded_row c a))) (λ a. coded_rows c (map (λ b. a ++ b) (picks a)))
        (λ a k. ap (map (λ b. coded_row c a ++ b)) (are a k).coded ∙ beside_cells a (picks a)) xs h
        ∙ sym (map-flat_map (λ a. map (λ b. a ++ b) (picks a)) (coded_row c) xs);
  }

  -- all pairs
  pub product_coded : (ks js : List Kind) (xs ys : Rows) → AreRows c ks xs → AreRows c js ys →
      AreCoded c (ks ++ js) (flat_map (λ a. map (λ b. a ++ b) ys) xs) (flat_map (λ a. map (λ b. a ++ b) (coded_rows c ys)) (coded_rows c xs))
  product_coded ks js xs ys h g = picked_coded ks js (λ a. ys) (λ a. coded_rows c ys) (λ a k. record { rows = g; coded = refl }) xs h

  -- the pairs that are chosen by a test that agrees on cells
  chosen_coded :
      (ks js : List Kind) (chosen : List Value → List Value → Bool) (on_cells : Cells → Cells → Bool) →
      ((a b : List Value) → IsRow c ks a → IsRow c js b → on_cells (coded_row c a) (coded_row c b) ≡ chosen a b) →
      (xs ys : Rows) → AreRows c ks xs → AreRows c js ys →
      AreCoded c (ks ++ js) (pairs_where chosen xs ys) (cell_pairs on_cells (coded_rows c xs) (coded_rows c ys))
  chosen_coded ks js chosen on_cells same xs ys h g =
      picked_coded ks js (λ a. filter (chosen a) ys) (λ a. filter (on_cells a) (coded_rows c ys))
      (λ a k. record {
        rows = all_filter (IsRow c js) (chosen a) ys g;
        coded = filter_kept (IsRow c js) (coded_row c) (on_cells (coded_row c a)) (chosen a) (λ b l. same a b k l) ys g;
      }) xs h

  -- a column of each side, both of one kind
  record TwoCells (a b : List Value) (i j : ℕ) : Type 0 where
    both : Kind
    left : IsCell c both (value_at a i)
    right : IsCell c both (value_at b j)

  two_cells : (ks js : List Kind) (a b : List Value) (i j : ℕ) → IsRow c ks a → IsRow c js b → one_kind ks js i j ≡ true → TwoCells a b i j
  two_cells ks js a b i j h g t =
      let p = some_agreed (slice_get ks i) (slice_get js j) t in
      record { both = p.0; left = cell_at c keeps a ks i p.0 h.kinds h.known p.1; right = cell_at c keeps b js j p.0 g.kinds g.known p.2 }

  equal_in : (a b : List Value) (i j : ℕ) → TwoCells a b i j → int_eq (cell_in (coded_row c a) i) (cell_in (coded_row c b) j) ≡ equal (value_at a i) (value_at b j)
  equal_in a b i j t = (λ l. int_eq (cell_in_row c keeps a i l) (cell_in_row c keeps b j l)) ∙ equal_number c keeps t.both (value_at a i) (value_at b j) t.left t.right

  at_most_in : (a b : List Value) (i j : ℕ) → TwoCells a b i j → number_at_most (cell_in (coded_row c a) i) (cell_in (coded_row c b) j) ≡ at_most (value_at a i) (value_at b j)
  at_most_in a b i j t = (λ l. number_at_most (cell_in_row c keeps a i l) (cell_in_row c keeps b j l)) ∙ at_most_number c keeps t.both (value_at a i) (value_at b j) t.left t.right

  below_in : (a b : List Value) (i j : ℕ) → TwoCells a b i j → number_below (cell_in (coded_row c a) i) (cell_in (coded_row c b) j) ≡ below (value_at a i) (value_at b j)
  below_in a b i j t = (λ l. number_below (cell_in_row c keeps a i l) (cell_in_row c keeps b j l)) ∙ below_number c keeps t.both (value_at a i) (value_at b j) t.left t.right

  turned_cells : (a b : List Value) (i j : ℕ) → TwoCells a b i j → TwoCells b a j i
  turned_cells a b i j t = record { both = t.both; left = t.right; right = t.left }

  -- Hash: equal columns
  equal_at_cells : (ks js : List Kind) (places : List (ℕ × ℕ)) → equal_kinds places ks js ≡ true → (a b : List Value) → IsRow c ks a → IsRow c js b → cells_equal_at places (coded_row c a) (coded_row c b) ≡ equal_at places a b
  equal_at_cells ks js [] t a b h g = refl
  equal_at_cells ks js (p ∷ places) t a b h g =
      let q = and_parts (one_kind ks js p.0 p.1) (equal_kinds places ks js) t in
      let here = equal_in a b p.0 p.1 (two_cells ks js a b p.0 p.1 h g q.0) in
      let there = equal_at_cells ks js places q.1 a b h g in
      λ i. here i && there i

  pub hash_coded : (ks js : List Kind) (places : List (ℕ × ℕ)) → equal_kinds places ks js ≡ true → (xs ys : Rows) → AreRows c ks xs → AreRows c js ys →
      AreCoded c (ks ++ js) (equal_pairs places xs ys) (cell_pairs (cells_equal_at places) (coded_rows c xs) (coded_rows c ys))
  hash_coded ks js places t xs ys h g = chosen_coded ks js (equal_at places) (cells_equal_at places) (equal_at_cells ks js places t) xs ys h g

  -- Overlap: ranges that meet, and right rows in the order of their ranges
  overlap_cells : (ks js : List Kind) (at : Bounds) → bounds_kinds at ks js ≡ true → (a b : List Value) → IsRow c ks a → IsRow c js b → cells_overlap at (coded_row c a) (coded_row c b) ≡ overlaps at a b
  overlap_cells ks js at t a b h g =
      let q = and_parts (one_kind ks js at.left_lo at.right_hi) (one_kind ks js at.left_hi at.right_lo) t in
      let low = at_most_in a b at.left_lo at.right_hi (two_cells ks js a b at.left_lo at.right_hi h g q.0) in
      let high = at_most_in b a at.right_lo at.left_hi (turned_cells a b at.left_hi at.right_lo (two_cells ks js a b at.left_hi at.right_lo h g q.1)) in
      λ i. low i && high i

  -- one column of two rows of one list
  same_column : (js : List Kind) (i : ℕ) (k : Kind) → slice_get js i ≡ Some k → (a b : List Value) → IsRow c js a → IsRow c js b → TwoCells a b i i
  same_column js i k s a b h g = record { both = k; left = cell_at c keeps a js i k h.kinds h.known s; right = cell_at c keeps b js i k g.kinds g.known s }

  range_cells : (js : List Kind) (at : Bounds) (k l : Kind) → slice_get js at.right_lo ≡ Some k → slice_get js at.right_hi ≡ Some l → (a b : List Value) → IsRow c js a → IsRow c js b → cells_at_most at (coded_row c a) (coded_row c b) ≡ range_at_most at a b
  range_cells js at k l p q a b h g =
      let lows = same_column js at.right_lo k p a b h g in
      let highs = same_column js at.right_hi l q a b h g in
      let first = below_in a b at.right_lo at.right_lo lows in
      let tie = equal_in a b at.right_lo at.right_lo lows in
      let second = at_most_in a b at.right_hi at.right_hi highs in
      λ i. first i || (tie i && second i)

  by_range_coded : (js : List Kind) (at : Bounds) (k l : Kind) → slice_get js at.right_lo ≡ Some k → slice_get js at.right_hi ≡ Some l → (ys : Rows) → AreRows c js ys → AreCoded c js (by_range at ys) (cells_by_range at (coded_rows c ys))
  by_range_coded js at k l p q ys g = record {
    rows = all_sorted (range_at_most at) (IsRow c js) ys g;
    coded = sorted_kept (IsRow c js) (coded_row c) (range_at_most at) (cells_at_most at) (range_cells js at k l p q) ys g;
  }

  pub overlap_coded : (ks js : List Kind) (at : Bounds) → bounds_kinds at ks js ≡ true → (xs ys : Rows) → AreRows c ks xs → AreRows c js ys →
      AreCoded c (ks ++ js) (overlap_pairs at xs ys) (cell_pairs (cells_overlap at) (coded_rows c xs) (cells_by_range at (coded_rows c ys)))
  overlap_coded ks js at t xs ys h g =
      let q = and_parts (one_kind ks js at.left_lo at.right_hi) (one_kind ks js at.left_hi at.right_lo) t in
      let high = some_agreed (slice_get ks at.left_lo) (slice_get js at.right_hi) q.0 in
      let low = some_agreed (slice_get ks at.left_hi) (slice_get js at.right_lo) q.1 in
      let sorted = by_range_coded js at low.0 high.0 low.2 high.2 ys g in
      let own = chosen_coded ks js (overlaps at) (cells_overlap at) (overlap_cells ks js at t) xs (by_range at ys) h sorted.rows in
      record { rows = own.rows; coded = ap (cell_pairs (cells_overlap at) (coded_rows c xs)) sorted.coded ∙ own.coded }

  -- Union
  pub union_coded : (ks : List Kind) (xs ys : Rows) (cs ds : CellRows) → AreCoded c ks xs cs → AreCoded c ks ys ds → AreCoded c ks (xs ++ ys) (cs ++ ds)
  union_coded ks xs ys cs ds h g = record {
    rows = all_append (IsRow c ks) xs ys h.rows g.rows;
    coded = (λ i. h.coded i ++ g.coded i) ∙ sym (map-append (coded_row c) xs ys);
  }
