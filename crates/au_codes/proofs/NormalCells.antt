-- The normal form over cells is the cells of the normal form.
use Rattle.std.specs.Prelude.{◌≡◌, ◌&&◌, List, [], ◌∷◌, map, filter}
use Rattle.std.specs.List.{AllByRecursion}
use Rattle.std.specs.Ordering.{int_cmp, is_le, ordering_then}
use Rattle.std.specs.Cmp.Lexicographic.{slice_cmp}
use Rattle.std.proofs.Common.{refl, sym, ap, ◌∙◌}
use Rattle.au_value.specs.declared.kinds.Kind.{Kind}
use Rattle.au_value.specs.Ranges.{Span, guesses, lower_ends, upper_ends}
use Rattle.au_value.specs.Lists.{distinct}
use Rattle.au_annot.specs.Triples.{total_counts}
use Rattle.au_algebra.specs.Entries.{entry}
use Rattle.au_algebra.specs.Bounded.{RangeRow, Bounded, normal, merge_equal, ranges_order, same_ranges, row_at_most}
use Rattle.au_algebra.specs.Lists.{sorted_by}
use Rattle.au_algebra.proofs.Each.{all_distinct}
use Rattle.au_codes.specs.Codes.{Code, KeepsOrder, coded_row}
use Rattle.au_codes.specs.CellMeaning.{same_cells}
use Rattle.au_codes.specs.CellNormal.{CellSpan, CellEntry, coded_span, coded_entry, coded_relation, guess_cells, lower_cells, upper_cells, spans_order, same_spans, merged_cells, entry_at_most, cells_normal, KnowsSpans}
use Rattle.au_codes.proofs.KeptOrder.{rows_order, rows_equal}
use Rattle.au_codes.proofs.Lists.{map-map, map_same, filter_kept, distinct_kept, sorted_kept, all_map}

module _ (c : Code) (keeps : KeepsOrder c) where
  -- the ends of coded ranges
  guesses_coded : (xs : List Span) → guess_cells (map (coded_span c) xs) ≡ coded_row c (guesses xs)
  guesses_coded [] = refl
  guesses_coded (x ∷ xs) = ap (λ l. (coded_span c x).sg ∷ l) (guesses_coded xs)

  lowers_coded : (xs : List Span) → lower_cells (map (coded_span c) xs) ≡ coded_row c (lower_ends xs)
  lowers_coded [] = refl
  lowers_coded (x ∷ xs) = ap (λ l. (coded_span c x).lo ∷ l) (lowers_coded xs)

  uppers_coded : (xs : List Span) → upper_cells (map (coded_span c) xs) ≡ coded_row c (upper_ends xs)
  uppers_coded [] = refl
  uppers_coded (x ∷ xs) = ap (λ l. (coded_span c x).hi ∷ l) (uppers_coded xs)

  module _ (ks : List Kind) where
    -- two lists of ranges stand to one another as their cells do
    order_coded : (xs ys : List Span) → KnowsSpans c ks xs → KnowsSpans c ks ys → spans_order (map (coded_span c) xs) (map (coded_span c) ys) ≡ ranges_order xs ys
    order_coded xs ys h g =
        let first = rows_order c keeps (guesses xs) (guesses ys) (h.guess_kinds ∙ sym g.guess_kinds) h.guesses_known g.guesses_known in
        let second = rows_order c keeps (lower_ends xs) (lower_ends ys) (h.lower_kinds ∙ sym g.lower_kinds) h.lowers_known g.lowers_known in
        let third = rows_order c keeps (upper_ends xs) (upper_ends ys) (h.upper_kinds ∙ sym g.upper_kinds) h.uppers_known g.uppers_known in
        (λ i.
        ordering_then (slice_cmp int_cmp (guesses_coded xs i) (guesses_coded ys i))
        (ordering_then (slice_cmp int_cmp (lowers_coded xs i) (lowers_coded ys i)) (slice_cmp int_cmp (uppers_coded xs i) (uppers_coded ys i))))
        ∙ (λ i. ordering_then (first i) (ordering_then (second i) (third i)))

    same_coded : (xs ys : List Span) → KnowsSpans c ks xs → KnowsSpans c ks ys → same_spans (map (coded_span c) xs) (map (coded_span c) ys) ≡ same_ranges xs ys
    same_coded xs ys h g =
        let first = rows_equal c keeps (guesses xs) (guesses ys) (h.guess_kinds ∙ sym g.guess_kinds) h.guesses_known g.guesses_known in
        let second = rows_equal c keeps (lower_ends xs) (lower_ends ys) (h.lower_kinds ∙ sym g.lower_kinds) h.lowers_known g.lowers_known in
        let third = rows_equal c keeps (upper_ends xs) (upper_ends ys) (h.upper_kinds ∙ sym g.upper_kinds) h.uppers_known g.uppers_known in
        (λ i.
        same_cells (guesses_coded xs i) (guesses_coded ys i)
        && (same_cells (lowers_coded xs i) (lowers_coded ys i) && same_cells (uppers_coded xs i) (uppers_coded ys i)))
        ∙ (λ i. first i && (second i && third i))

    abbrev Known : RangeRow → Type 0
    Known r = KnowsSpans c ks r.cells

    -- the lists of ranges of some rows
    lists_coded : (rows : Bounded) → map (λ r. r.cells) (coded_relation c rows) ≡ map (map (coded_span c)) (map (λ r. r.cells) rows)
    lists_coded [] = refl
    lists_coded (r ∷ rows) = ap (λ l. map (coded_span c) r.cells ∷ l) (lists_coded rows)

    triples_coded : (rows : Bounded) → map (λ r. r.annot) (coded_relation c rows) ≡ map (λ r. r.annot) rows
    triples_coded [] = refl
    triples_coded (r ∷ rows) = ap (λ l. r.annot ∷ l) (triples_coded rows)

    module _ (rows : Bounded) (h : AllByRecursion Known rows) where
      known_lists : AllByRecursion (KnowsSpans c ks) (map (λ r. r.cells) rows)
      known_lists = all_map Known (KnowsSpans c ks) (λ r. r.cells) (λ r k. k) rows h

      -- the row of some ranges
      abbrev row_of : List Span → RangeRow
      row_of xs = entry xs (total_counts (map (λ r. r.annot) (filter (λ r. same_ranges xs r.cells) rows)))

      abbrev cells_of : List CellSpan → CellEntry
      cells_of spans = entry spans (total_counts (map (λ r. r.annot) (filter (λ r. same_spans spans r.cells) (coded_relation c rows))))

      own_row : (xs : List Span) → KnowsSpans c ks xs → cells_of (map (coded_span c) xs) ≡ coded_entry c (row_of xs)
      own_row xs k =
          let found = filter_kept Known (coded_entry c) (λ r. same_spans (map (coded_span c) xs) r.cells) (λ r. same_ranges xs r.cells) (λ r g. same_coded xs r.cells k g) rows h in
          ap (λ all. entry (map (coded_span c) xs) (total_counts (map (λ r. r.annot) all))) found
          ∙ ap (λ triples. entry (map (coded_span c) xs) (total_counts triples)) (triples_coded (filter (λ r. same_ranges xs r.cells) rows))

      merged_coded : merged_cells (coded_relation c rows) ≡ coded_relation c (merge_equal rows)
      merged_coded =
          let found = distinct same_ranges (map (λ r. r.cells) rows) in
          let known = all_distinct (KnowsSpans c ks) same_ranges (map (λ r. r.cells) rows) known_lists in
          ap (λ l. map cells_of (distinct same_spans l)) (lists_coded rows)
          ∙ ap (map cells_of) (distinct_kept (KnowsSpans c ks) (map (coded_span c)) same_ranges same_spans same_coded (map (λ r. r.cells) rows) known_lists)
          ∙ map-map (map (coded_span c)) cells_of found
          ∙ map_same (KnowsSpans c ks) (λ xs. cells_of (map (coded_span c) xs)) (λ xs. coded_entry c (row_of xs)) own_row found known
          ∙ sym (map-map row_of (coded_entry c) found)

      merged_known : AllByRecursion Known (merge_equal rows)
      merged_known =
          all_map (KnowsSpans c ks) Known row_of (λ xs k. k) (distinct same_ranges (map (λ r. r.cells) rows))
          (all_distinct (KnowsSpans c ks) same_ranges (map (λ r. r.cells) rows) known_lists)

      pub normal_coded : cells_normal (coded_relation c rows) ≡ coded_relation c (normal rows)
      normal_coded =
          ap (sorted_by entry_at_most) merged_coded
          ∙ sorted_kept Known (coded_entry c) row_at_most entry_at_most (λ r s k l. ap is_le (order_coded r.cells s.cells k l)) (merge_equal rows) merged_known
