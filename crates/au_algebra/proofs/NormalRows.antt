-- The normal form is in strict order, and has the sum of the triples of each ranges.
use Rattle.std.specs.Prelude.{◌≡◌, Bool, true, false, not, ◌&&◌, cond, List, [], ◌∷◌, map, filter}
use Rattle.std.specs.List.{AllByRecursion}
use Rattle.std.specs.declared.cmp.Ordering.{Ordering}
use Rattle.std.specs.declared.cmp.Ordering.TheVariants.{Less, Equal, Greater}
use Rattle.std.specs.Ordering.{is_le, is_gt}
use Rattle.std.proofs.Common.{refl, sym, ◌∙◌, ap, inl, inr}
use Rattle.std.proofs.lemmas.Bool.{cases_Bool, true≢false, false_from_ne_true}
use Rattle.au_value.specs.Ranges.{Span}
use Rattle.au_value.specs.Lists.{distinct}
use Rattle.au_annot.specs.Triples.{Counts, total_counts}
use Rattle.au_algebra.specs.Entries.{entry}
use Rattle.au_algebra.specs.Lists.{insert_by}
use Rattle.au_algebra.specs.Bounded.{RangeRow, Bounded, same_ranges, ranges_order, merge_equal, row_at_most, sorted, normal}
use Rattle.au_algebra.proofs.Each.{all_from, all_filter, all_of, passing}
use Rattle.au_algebra.proofs.Filters.{filter_both, filter_none}
use Rattle.au_algebra.proofs.KeptByMerging.{same_ranges_is, same_ranges_refl}
use Rattle.au_algebra.proofs.RangesOrder.{below_other, turned_over, less_from}
use Rattle.au_algebra.proofs.Tallies.{tally, summed, tally_same, tally_other, tally_more}
use Rattle.au_algebra.proofs.Rising.{Rising, all_above}
use Rattle.au_algebra.proofs.Sorting.{all_inserted, all_sorted}

-- ---- rows in order

le_gt : (r : Ordering) → is_le r ≡ true → is_gt r ≡ false
le_gt Less h = refl
le_gt Equal h = refl
le_gt Greater h = absurd (true≢false (sym h))

not_le : (r : Ordering) → is_le r ≡ false → r ≡ Greater
not_le Less h = absurd (true≢false h)
not_le Equal h = absurd (true≢false h)
not_le Greater h = refl

-- no row has these ranges
abbrev pub NoneSame : List Span → Bounded → Type 0
NoneSame k rows = AllByRecursion (λ s. same_ranges k s.cells ≡ false) rows

-- no two rows have the same ranges
abbrev pub Apart : Bounded → Type 0
Apart [] = Unit {0}
Apart (r ∷ rows) = NoneSame r.cells rows × Apart rows

placed_if : (b : Bool) (r s : RangeRow) (rows : Bounded) → is_le (ranges_order r.cells s.cells) ≡ b → same_ranges r.cells s.cells ≡ false → Rising (s ∷ rows) → Rising (insert_by row_at_most r rows) → Rising (cond b (r ∷ s ∷ rows) (s ∷ insert_by row_at_most r rows))
placed_if true r s rows e n a h =
    let l = less_from r.cells s.cells (le_gt (ranges_order r.cells s.cells) e) n in
    ((l, all_above r.cells s.cells rows l a.0), a)
placed_if false r s rows e n a h =
    let l = turned_over r.cells s.cells (not_le (ranges_order r.cells s.cells) e) in
    (all_inserted row_at_most (λ t. ranges_order s.cells t.cells ≡ Less) r rows l a.0, h)

placed : (r : RangeRow) (rows : Bounded) → NoneSame r.cells rows → Rising rows → Rising (insert_by row_at_most r rows)
placed r [] n a = (tt, tt)
placed r (s ∷ rows) n a = placed_if (is_le (ranges_order r.cells s.cells)) r s rows refl n.0 a (placed r rows n.1 a.1)

-- rows with different ranges are put into strict order
rising_sorted : (rows : Bounded) → Apart rows → Rising (sorted rows)
rising_sorted [] h = tt
rising_sorted (r ∷ rows) h =
    placed r (sorted rows) (all_sorted row_at_most (λ s. same_ranges r.cells s.cells ≡ false) rows h.0) (rising_sorted rows h.1)

tally_if : (b : Bool) (k : List Span) (r s : RangeRow) (rows : Bounded) → is_le (ranges_order r.cells s.cells) ≡ b → tally k (insert_by row_at_most r rows) ≡ tally k (r ∷ rows) → tally k (cond b (r ∷ s ∷ rows) (s ∷ insert_by row_at_most r rows)) ≡ tally k (r ∷ s ∷ rows)
tally_if true k r s rows e h = refl
tally_if false k r s rows e h =
    let gt = not_le (ranges_order r.cells s.cells) e in
    elim (cases_Bool (same_ranges k r.cells)) [
      | inl t ↦ (
          let is : r.cells ≡ k = sym (same_ranges_is k r.cells t) in
          let other : same_ranges k s.cells ≡ false = ap (λ c. same_ranges c s.cells) (sym is) ∙ different gt in
          tally_other k s (insert_by row_at_most r rows) other
          ∙ h
          ∙ tally_same k r rows t
          ∙ ap (λ ts. r.annot ∷ ts) (sym (tally_other k s rows other))
          ∙ sym (tally_same k r (s ∷ rows) t))
      | inr f ↦ tally_more k s (insert_by row_at_most r rows) rows (h ∙ tally_other k r rows f) ∙ sym (tally_other k r (s ∷ rows) f)
    ]
  where
    different : ranges_order r.cells s.cells ≡ Greater → same_ranges r.cells s.cells ≡ false
    different g =
        false_from_ne_true (same_ranges r.cells s.cells)
        (λ t.
        true≢false
        (sym (same_ranges_refl s.cells)
        ∙ ap (λ c. same_ranges s.cells c) (sym (same_ranges_is r.cells s.cells t))
        ∙ below_other s.cells r.cells (turned_over r.cells s.cells g)))

tally_inserted : (k : List Span) (r : RangeRow) (rows : Bounded) → tally k (insert_by row_at_most r rows) ≡ tally k (r ∷ rows)
tally_inserted k r [] = refl
tally_inserted k r (s ∷ rows) = tally_if (is_le (ranges_order r.cells s.cells)) k r s rows refl (tally_inserted k r rows)

-- rows in order have the same triples
tally_sorted : (k : List Span) (rows : Bounded) → tally k (sorted rows) ≡ tally k rows
tally_sorted k [] = refl
tally_sorted k (r ∷ rows) = tally_inserted k r (sorted rows) ∙ tally_more k r (sorted rows) rows (tally_sorted k rows)

-- ---- equal rows merged

-- the ranges of a list once, where they are there
once : List (List Span) → List (List Span)
once [] = []
once (c ∷ cs) = c ∷ []

other_if : (s t : Bool) → (s ≡ true → t ≡ false) → (not t && s) ≡ s
other_if true true h = absurd (true≢false (h refl))
other_if true false h = refl
other_if false t h = and_false t
  where
    and_false : (b : Bool) → (not b && false) ≡ false
    and_false true = refl
    and_false false = refl

neither : (s t : Bool) → (s ≡ true → t ≡ true) → (not t && s) ≡ false
neither true true h = refl
neither true false h = absurd (true≢false (sym (h refl)))
neither false true h = refl
neither false false h = refl

once_distinct : (k : List Span) (ks : List (List Span)) → filter (same_ranges k) (distinct same_ranges ks) ≡ once (filter (same_ranges k) ks)
unfolding once
once_distinct k [] = refl
once_distinct k (c ∷ ks) =
    let ds = distinct same_ranges ks in
    let rest : filter (same_ranges k) (filter (λ y. not (same_ranges c y)) ds) ≡ filter (λ y. not (same_ranges c y) && same_ranges k y) ds =
    filter_both (same_ranges k) (λ y. not (same_ranges c y)) ds in
    elim (cases_Bool (same_ranges k c)) [
      | inl t ↦ (
          let is : k ≡ c = same_ranges_is k c t in
          let none : filter (λ y. not (same_ranges c y) && same_ranges k y) ds ≡ [] =
          filter_none (λ y. not (same_ranges c y) && same_ranges k y) ds
          (all_of (λ y. (not (same_ranges c y) && same_ranges k y) ≡ false) ds (λ y. neither (same_ranges k y) (same_ranges c y) (λ s. ap (λ d. same_ranges d y) (sym is) ∙ s))) in
          (λ i. cond (t i) (c ∷ (rest ∙ none) i) ((rest ∙ none) i)) ∙ (λ i. once (cond (sym t i) (c ∷ filter (same_ranges k) ks) (filter (same_ranges k) ks))))
      | inr f ↦ (
          let apart : (y : List Span) → (not (same_ranges c y) && same_ranges k y) ≡ same_ranges k y =
          (λ y.
          other_if (same_ranges k y) (same_ranges c y)
          (λ s.
          false_from_ne_true (same_ranges c y)
          (λ t. true≢false (sym (ap (λ d. same_ranges k d) (sym (same_ranges_is k y s ∙ sym (same_ranges_is c y t))) ∙ same_ranges_refl k) ∙ f)))) in
          (λ i. cond (f i) (c ∷ rest i) (rest i))
          ∙ (λ i. filter (λ y. apart y i) ds)
          ∙ once_distinct k ks
          ∙ (λ i. once (cond (sym f i) (c ∷ filter (same_ranges k) ks) (filter (same_ranges k) ks))))
    ]

mapped_if : (m : List Span → RangeRow) (b : Bool) (k c : List Span) (cs : List (List Span)) (rest : Bounded) → map (λ r. r.annot) rest ≡ map (λ d. (m d).annot) cs → map (λ r. r.annot) (cond b (m c ∷ rest) rest) ≡ map (λ d. (m d).annot) (cond b (c ∷ cs) cs)
mapped_if m true k c cs rest e = ap (λ ts. (m c).annot ∷ ts) e
mapped_if m false k c cs rest e = e

module _ (rows : Bounded) where
  -- the row of some ranges
  abbrev at : List Span → RangeRow
  at cells = entry cells (total_counts (tally cells rows))

  tally_mapped : (k : List Span) (ks : List (List Span)) → tally k (map at ks) ≡ map (λ c. total_counts (tally c rows)) (filter (same_ranges k) ks)
  tally_mapped k [] = refl
  tally_mapped k (c ∷ ks) =
      mapped_if at (same_ranges k c) k c (filter (same_ranges k) ks) (filter (λ r. same_ranges k r.cells) (map at ks)) (tally_mapped k ks)

cells_if : (b : Bool) (r : RangeRow) (cs : List (List Span)) (rows : Bounded) → cs ≡ map (λ s. s.cells) rows → cond b (r.cells ∷ cs) cs ≡ map (λ s. s.cells) (cond b (r ∷ rows) rows)
cells_if true r cs rows e = ap (λ ks. r.cells ∷ ks) e
cells_if false r cs rows e = e

filter_cells : (k : List Span) (rows : Bounded) → filter (same_ranges k) (map (λ r. r.cells) rows) ≡ map (λ r. r.cells) (filter (λ r. same_ranges k r.cells) rows)
filter_cells k [] = refl
filter_cells k (r ∷ rows) =
    cells_if (same_ranges k r.cells) r (filter (same_ranges k) (map (λ s. s.cells) rows)) (filter (λ s. same_ranges k s.cells) rows) (filter_cells k rows)

once_summed : (k : List Span) (sums : List Span → Counts) (found : Bounded) → AllByRecursion (λ r. same_ranges k r.cells ≡ true) found → sums k ≡ total_counts (map (λ r. r.annot) found) → map sums (once (map (λ r. r.cells) found)) ≡ summed (map (λ r. r.annot) found)
unfolding once
once_summed k sums [] h e = refl
once_summed k sums (r ∷ found) h e = ap (λ t. t ∷ []) (ap sums (sym (same_ranges_is k r.cells h.0)) ∙ e)

-- merged rows have the sum of the triples of the rows with their ranges
tally_merged : (k : List Span) (rows : Bounded) → tally k (merge_equal rows) ≡ summed (tally k rows)
tally_merged k rows =
    let sums : List Span → Counts = λ c. total_counts (tally c rows) in
    tally_mapped rows k (distinct same_ranges (map (λ r. r.cells) rows))
    ∙ ap (map sums) (once_distinct k (map (λ r. r.cells) rows))
    ∙ ap (λ cs. map sums (once cs)) (filter_cells k rows)
    ∙ once_summed k sums (filter (λ r. same_ranges k r.cells) rows) (passing (λ r. same_ranges k r.cells) rows) refl

-- no ranges are these
abbrev Others : List Span → List (List Span) → Type 0
Others k ks = AllByRecursion (λ c. same_ranges k c ≡ false) ks

-- no two ranges are the same
abbrev Different : List (List Span) → Type 0
Different [] = Unit {0}
Different (k ∷ ks) = Others k ks × Different ks

different_if : (b : Bool) (k : List Span) (ks : List (List Span)) → Others k ks → Different ks → Different (cond b (k ∷ ks) ks)
different_if true k ks h d = (h, d)
different_if false k ks h d = d

different_filter : (test : List Span → Bool) (ks : List (List Span)) → Different ks → Different (filter test ks)
different_filter test [] d = tt
different_filter test (k ∷ ks) d =
    different_if (test k) k (filter test ks) (all_filter (λ c. same_ranges k c ≡ false) test ks d.0) (different_filter test ks d.1)

not_so : (b : Bool) → not b ≡ true → b ≡ false
not_so true h = sym h
not_so false h = refl

different_distinct : (ks : List (List Span)) → Different (distinct same_ranges ks)
different_distinct [] = tt
different_distinct (k ∷ ks) = (
  all_from (λ c. not (same_ranges k c) ≡ true) (λ c. same_ranges k c ≡ false) (filter (λ c. not (same_ranges k c)) (distinct same_ranges ks)) (λ c. not_so (same_ranges k c)) (passing (λ c. not (same_ranges k c)) (distinct same_ranges ks)),
  different_filter (λ c. not (same_ranges k c)) (distinct same_ranges ks) (different_distinct ks),
)

none_mapped : (rows : Bounded) (k : List Span) (ks : List (List Span)) → Others k ks → NoneSame k (map (at rows) ks)
none_mapped rows k [] h = tt
none_mapped rows k (c ∷ ks) h = (h.0, none_mapped rows k ks h.1)

apart_mapped : (rows : Bounded) (ks : List (List Span)) → Different ks → Apart (map (at rows) ks)
apart_mapped rows [] d = tt
apart_mapped rows (k ∷ ks) d = (none_mapped rows k ks d.0, apart_mapped rows ks d.1)

-- ---- the normal form

-- the normal form is in strict order
pub normal_rises : (rows : Bounded) → Rising (normal rows)
normal_rises rows =
    rising_sorted (merge_equal rows) (apart_mapped rows (distinct same_ranges (map (λ r. r.cells) rows)) (different_distinct (map (λ r. r.cells) rows)))

-- and has the sum of the triples of each ranges
pub normal_tally : (rows : Bounded) (k : List Span) → tally k (normal rows) ≡ summed (tally k rows)
normal_tally rows k = tally_sorted k (merge_equal rows) ∙ tally_merged k rows
