-- The table of some rows: what more rows make of it, and the rows that it gives.
use Rattle.std.specs.Prelude.{◌≡◌, ℕ, Bool, true, false, ◌&&◌, List, [], ◌∷◌, ◌++◌, ℤ, pos, flat_map, map, nat_abs, sum_by}
use Rattle.std.proofs.Common.{refl, sym, ap, ◌∙◌, append_assoc}
use Rattle.std.proofs.lemmas.List.{append-nil}
use Rattle.std.proofs.lemmas.List.Folds.{list_all-append}
use Rattle.au_value.specs.Lists.{distinct}
use Rattle.au_value.specs.Numeral.{is_i128}
use Rattle.au_value.specs.Adding.{no_terms, with_term}
use Rattle.au_expr.specs.Figures.{fit}
use Rattle.au_plain.specs.declared.plan.PAgg.{PAgg}
use Rattle.au_plain.specs.declared.plan.PAgg.TheVariants as agg
use Rattle.au_codes.specs.Codes.{Cells, CellRows}
use Rattle.au_codes.specs.CellMeaning.{cell_aggregate, cell_group, cell_in, cell_members, greater_number, greatest_number, least_number, lesser_number, same_cells}
use Rattle.au_codes.specs.CellNumbers.{cell_group_numbers, cell_magnitudes}
use Rattle.au_columns.specs.Batches.{beside}
use Rattle.au_folds.specs.Kept.{Kept, Sums, Lowest, Highest, column_of, kept_numbers, kept_values, kept_with, nothing_kept}
use Rattle.au_folds.specs.Places.{places_among, seen_after}
use Rattle.au_folds.specs.Tables.{Table, beside_all, empty_table, finished, grown, keys_of, table_numbers, table_with}
use Rattle.au_folds.specs.Laws.{RowsComeInParts, TablesAreGroups}
use Rattle.au_folds.proofs.CellKeys.{kept_push, keys-push}
use Rattle.au_folds.proofs.Terms.{greatest_more, least_more, sum_more, sum_over}

-- ---- rows in parts

kept_none : (kept : List Kept) → map (kept_with [] []) kept ≡ kept
kept_none [] = refl
kept_none (Sums c ss ∷ kept) = ap (λ ks. Sums c ss ∷ ks) (kept_none kept)
kept_none (Lowest c zs ∷ kept) = ap (λ ks. Lowest c zs ∷ ks) (kept_none kept)
kept_none (Highest c zs ∷ kept) = ap (λ ks. Highest c zs ∷ ks) (kept_none kept)

kept_first : (p : ℕ) (ps : List ℕ) (row : Cells) (rows : CellRows) (kept : List Kept) → map (kept_with ps rows) (map (kept_with (p ∷ []) (row ∷ [])) kept) ≡ map (kept_with (p ∷ ps) (row ∷ rows)) kept
kept_first p ps row rows [] = refl
kept_first p ps row rows (Sums c ss ∷ kept) = ap (λ ks. kept_with (p ∷ ps) (row ∷ rows) (Sums c ss) ∷ ks) (kept_first p ps row rows kept)
kept_first p ps row rows (Lowest c zs ∷ kept) = ap (λ ks. kept_with (p ∷ ps) (row ∷ rows) (Lowest c zs) ∷ ks) (kept_first p ps row rows kept)
kept_first p ps row rows (Highest c zs ∷ kept) = ap (λ ks. kept_with (p ∷ ps) (row ∷ rows) (Highest c zs) ∷ ks) (kept_first p ps row rows kept)

-- no rows, and one row before others
pub grown_none : (t : Table) → grown t [] ≡ t
grown_none t = ap (table_with t.keys t.seen) (kept_none t.kept)

grown_first : (t : Table) (row : Cells) (rows : CellRows) → grown (grown t (row ∷ [])) rows ≡ grown t (row ∷ rows)
grown_first t row rows =
    let seen = seen_after t.seen (keys_of t.keys (row ∷ [])) in
    ap (table_with t.keys (seen_after seen (keys_of t.keys rows)))
    (kept_first _ (places_among seen (keys_of t.keys rows)) row rows t.kept)

pub in_parts : RowsComeInParts
in_parts t [] ys = ap (λ u. grown u ys) (grown_none t)
in_parts t (x ∷ xs) ys =
    ap (λ u. grown u ys) (sym (grown_first t x xs)) ∙ in_parts (grown t (x ∷ [])) xs ys ∙ grown_first t x (xs ++ ys)

-- ---- the table of some rows

module _ (keys : List ℕ) where
  abbrev pub first_keys : CellRows → CellRows
  first_keys rows = distinct same_cells (keys_of keys rows)

  abbrev pub kept_of : CellRows → PAgg → Kept
  kept_of rows (agg.Sum c) = Sums c (map (λ key. sum_over c (cell_members keys rows key)) (first_keys rows))
  kept_of rows (agg.Min c) = Lowest c (map (λ key. least_number (column_of c (cell_members keys rows key))) (first_keys rows))
  kept_of rows (agg.Max c) = Highest c (map (λ key. greatest_number (column_of c (cell_members keys rows key))) (first_keys rows))

  abbrev pub table_of : List PAgg → CellRows → Table
  table_of aggs rows = table_with keys (first_keys rows) (map (kept_of rows) aggs)

  none_kept : (aggs : List PAgg) → map nothing_kept aggs ≡ map (kept_of []) aggs
  none_kept [] = refl
  none_kept (agg.Sum c ∷ aggs) = ap (λ ks. Sums c [] ∷ ks) (none_kept aggs)
  none_kept (agg.Min c ∷ aggs) = ap (λ ks. Lowest c [] ∷ ks) (none_kept aggs)
  none_kept (agg.Max c ∷ aggs) = ap (λ ks. Highest c [] ∷ ks) (none_kept aggs)

  kept_more : (rows : CellRows) (r : Cells) (a : PAgg) → kept_with (places_among (first_keys rows) (keys_of keys (r ∷ []))) (r ∷ []) (kept_of rows a) ≡ kept_of (rows ++ r ∷ []) a
  kept_more rows r (agg.Sum c) = ap (Sums c) (kept_push keys rows r (sum_over c) (with_term no_terms) with_term (cell_in r c) (sum_more c [] r) (λ ms some. sum_more c ms r))
  kept_more rows r (agg.Min c) = ap (Lowest c) (kept_push keys rows r (λ ms. least_number (column_of c ms)) (λ z. z) lesser_number (cell_in r c) refl (λ ms some. least_more c ms r some))
  kept_more rows r (agg.Max c) = ap (Highest c) (kept_push keys rows r (λ ms. greatest_number (column_of c ms)) (λ z. z) greater_number (cell_in r c) refl (λ ms some. greatest_more c ms r some))

  all_more : (rows : CellRows) (r : Cells) (aggs : List PAgg) → map (kept_with (places_among (first_keys rows) (keys_of keys (r ∷ []))) (r ∷ [])) (map (kept_of rows) aggs) ≡ map (kept_of (rows ++ r ∷ [])) aggs
  all_more rows r [] = refl
  all_more rows r (a ∷ aggs) = λ i. kept_more rows r a i ∷ all_more rows r aggs i

  module _ (aggs : List PAgg) where
    one_more : (rows : CellRows) (r : Cells) → grown (table_of aggs rows) (r ∷ []) ≡ table_of aggs (rows ++ r ∷ [])
    one_more rows r = λ i. table_with keys (sym (keys-push keys rows r) i) (all_more rows r aggs i)

    more : (rows later : CellRows) → grown (table_of aggs rows) later ≡ table_of aggs (rows ++ later)
    more rows [] = grown_none (table_of aggs rows) ∙ ap (table_of aggs) (sym (append-nil rows))
    more rows (r ∷ later) =
        sym (grown_first (table_of aggs rows) r later)
        ∙ ap (λ t. grown t later) (one_more rows r)
        ∙ more (rows ++ r ∷ []) later
        ∙ ap (table_of aggs) (append_assoc rows (r ∷ []) later)

    pub is_table : (rows : CellRows) → grown (empty_table keys aggs) rows ≡ table_of aggs rows
    is_table rows = ap (λ kept. grown (table_with keys [] kept) rows) (none_kept aggs) ∙ more [] rows

-- ---- the rows that it gives

map_again : {A B C : Type 0} (f : B → C) (g : A → B) (h : A → C) (same : (x : A) → f (g x) ≡ h x) (xs : List A) → map f (map g xs) ≡ map h xs
map_again f g h same [] = refl
map_again f g h same (x ∷ xs) = λ i. same x i ∷ map_again f g h same xs i

map_alike : {A B : Type 0} (f g : A → B) (same : (x : A) → f x ≡ g x) (xs : List A) → map f xs ≡ map g xs
map_alike f g same [] = refl
map_alike f g same (x ∷ xs) = λ i. same x i ∷ map_alike f g same xs i

beside_each : (f : Cells → Cells) (g : Cells → ℤ) (ks : CellRows) → beside (map f ks) (map g ks) ≡ map (λ k. f k ++ g k ∷ []) ks
beside_each f g [] = refl
beside_each f g (k ∷ ks) = ap (λ (rows : CellRows). (f k ++ g k ∷ []) ∷ rows) (beside_each f g ks)

beside_aggregates : (value : PAgg → Cells → ℤ) (ks : CellRows) (f : Cells → Cells) (aggs : List PAgg) → beside_all (map f ks) (map (λ a. map (value a) ks) aggs) ≡ map (λ k. f k ++ map (λ a. value a k) aggs) ks
beside_aggregates value ks f [] = map_alike f (λ k. f k ++ []) (λ k. sym (append-nil (f k))) ks
beside_aggregates value ks f (a ∷ aggs) =
    ap (λ (rows : CellRows). beside_all rows (map (λ b. map (value b) ks) aggs)) (beside_each f (value a) ks)
    ∙ beside_aggregates value ks (λ k. f k ++ value a k ∷ []) aggs
    ∙ map_alike (λ k. (f k ++ value a k ∷ []) ++ map (λ b. value b k) aggs) (λ k. f k ++ value a k ∷ map (λ b. value b k) aggs)
    (λ k. append_assoc (f k) (value a k ∷ []) (map (λ b. value b k) aggs)) ks

map_itself : (ks : CellRows) → map (λ k. k) ks ≡ ks
map_itself [] = refl
map_itself (k ∷ ks) = ap (λ (rows : CellRows). k ∷ rows) (map_itself ks)

module _ (keys : List ℕ) (rows : CellRows) where
  values_of : (a : PAgg) → kept_values (kept_of keys rows a) ≡ map (λ key. cell_aggregate (cell_members keys rows key) a) (first_keys keys rows)
  values_of (agg.Sum c) = map_again (λ s. s.total) (λ key. sum_over c (cell_members keys rows key)) (λ key. cell_aggregate (cell_members keys rows key) (agg.Sum c)) (λ key. refl) (first_keys keys rows)
  values_of (agg.Min c) = refl
  values_of (agg.Max c) = refl

  gives : (aggs : List PAgg) → finished (table_of keys aggs rows) ≡ cell_group keys aggs rows
  gives aggs =
      let ks = first_keys keys rows in
      let value = λ (a : PAgg) (key : Cells). cell_aggregate (cell_members keys rows key) a in
      ap (beside_all ks) (map_again kept_values (kept_of keys rows) (λ a. map (value a) ks) values_of aggs)
      ∙ ap (λ (first : CellRows). beside_all first (map (λ a. map (value a) ks) aggs)) (sym (map_itself ks))
      ∙ beside_aggregates value ks (λ k. k) aggs

-- ---- and its numbers

fit_apart : (xs ys : List ℤ) → fit (xs ++ ys) ≡ fit xs && fit ys
fit_apart xs ys = list_all-append is_i128 xs ys

exchanged : (a b c d : Bool) → (a && b) && (c && d) ≡ (a && c) && (b && d)
exchanged true true c d = refl
exchanged true false true d = refl
exchanged true false false d = refl
exchanged false b c d = refl

none_fit : (ks : CellRows) → fit (flat_map (λ (k : Cells). []) ks) ≡ true
none_fit [] = refl
none_fit (k ∷ ks) = none_fit ks

two_fit : (f g : Cells → List ℤ) (ks : CellRows) → fit (flat_map (λ k. f k ++ g k) ks) ≡ fit (flat_map f ks) && fit (flat_map g ks)
two_fit f g [] = refl
two_fit f g (k ∷ ks) =
    fit_apart (f k ++ g k) (flat_map (λ j. f j ++ g j) ks)
    ∙ (λ i. fit_apart (f k) (g k) i && two_fit f g ks i)
    ∙ exchanged (fit (f k)) (fit (g k)) (fit (flat_map f ks)) (fit (flat_map g ks))
    ∙ (λ i. sym (fit_apart (f k) (flat_map f ks)) i && sym (fit_apart (g k) (flat_map g ks)) i)

turned_fit : (m : PAgg → Cells → List ℤ) (ks : CellRows) (aggs : List PAgg) → fit (flat_map (λ a. flat_map (m a) ks) aggs) ≡ fit (flat_map (λ k. flat_map (λ a. m a k) aggs) ks)
turned_fit m ks [] = sym (none_fit ks)
turned_fit m ks (a ∷ aggs) =
    fit_apart (flat_map (m a) ks) (flat_map (λ b. flat_map (m b) ks) aggs)
    ∙ ap (λ b. fit (flat_map (m a) ks) && b) (turned_fit m ks aggs)
    ∙ sym (two_fit (m a) (λ k. flat_map (λ b. m b k) aggs) ks)

abbrev none : List ℤ
none = []

module _ (keys : List ℕ) (rows : CellRows) where
  sums_numbers : (c : ℕ) (ks : CellRows) → kept_numbers (Sums c (map (λ key. sum_over c (cell_members keys rows key)) ks)) ≡ flat_map (λ key. cell_magnitudes (cell_members keys rows key) (agg.Sum c)) ks
  sums_numbers c [] = refl
  sums_numbers c (k ∷ ks) = ap (λ (ns : List ℤ). pos (sum_by (λ row. nat_abs (cell_in row c)) (cell_members keys rows k)) ∷ ns) (sums_numbers c ks)

  no_numbers : (ks : CellRows) → none ≡ flat_map (λ (k : Cells). none) ks
  no_numbers [] = refl
  no_numbers (k ∷ ks) = no_numbers ks

  numbers_of : (a : PAgg) → kept_numbers (kept_of keys rows a) ≡ flat_map (λ key. cell_magnitudes (cell_members keys rows key) a) (first_keys keys rows)
  numbers_of (agg.Sum c) = sums_numbers c (first_keys keys rows)
  numbers_of (agg.Min c) = no_numbers (first_keys keys rows)
  numbers_of (agg.Max c) = no_numbers (first_keys keys rows)

  all_numbers : (aggs : List PAgg) → flat_map kept_numbers (map (kept_of keys rows) aggs) ≡ flat_map (λ a. flat_map (λ key. cell_magnitudes (cell_members keys rows key) a) (first_keys keys rows)) aggs
  all_numbers [] = refl
  all_numbers (a ∷ aggs) = λ i. numbers_of a i ++ all_numbers aggs i

  numbers_fit : (aggs : List PAgg) → fit (table_numbers (table_of keys aggs rows)) ≡ fit (cell_group_numbers keys aggs rows)
  numbers_fit aggs = ap fit (all_numbers aggs) ∙ turned_fit (λ a key. cell_magnitudes (cell_members keys rows key) a) (first_keys keys rows) aggs

pub are_groups : TablesAreGroups
are_groups keys aggs rows =
    (ap finished (is_table keys aggs rows) ∙ gives keys rows aggs, ap (λ t. fit (table_numbers t)) (is_table keys aggs rows) ∙ numbers_fit keys rows aggs)
