-- What a plan over the tables' rows with certain and guessed counts finds: the rows of the answer over pairs, in some order.
use Rattle.std.specs.Prelude.{◌≡◌, ℕ, ◌+◌, ◌≤◌, true, List, [], ◌∷◌, length, map, Some, pos}
use Rattle.std.specs.List.{AllByRecursion, AllZip}
use Rattle.std.specs.List.Sorted.{IsPermutation}
use Rattle.std.proofs.Common.{arith, refl, sym, ◌∙◌, subst, length-append}
use Rattle.std.proofs.lemmas.List.Sorted.{IsPermutation-map, IsPermutation-sym}
use Rattle.au_value.specs.declared.kinds.Kind.{Kind}
use Rattle.au_value.specs.declared.value.Value.{Value}
use Rattle.au_value.specs.declared.value.Value.TheVariants.{Int}
use Rattle.au_annot.specs.Pairs.{PairCounts, pair_of, none, IsPair}
use Rattle.au_blocks.specs.Tables.{BlockTable, IsBlockTable, column_kinds}
use Rattle.au_expr.specs.Ordinary.{IsKind}
use Rattle.au_keval.specs.Reading.{IsRelationOver}
use Rattle.au_algebra.specs.Entries.{entry}
use Rattle.au_algebra.specs.Lists.{SameUpToOrder, same_row}
use Rattle.au_algebra.specs.Ordinary.{Rows}
use Rattle.au_algebra.specs.Positive.{is_positive}
use Rattle.au_algebra.specs.Trees.{Tree}
use Rattle.au_algebra.specs.Typing.{kinds_of}
use Rattle.au_plan.proofs.UpToOrder.{all_same}
use Rattle.au_print.proofs.CertainRows.{map_map}
use Rattle.au_rwcounted.specs.CountedRows.{AreCountsRows, HoldPairs, HoldsPair, count_value, counts_row, counts_rows, two_counts}
use Rattle.au_ua.specs.CountedAnswers.{counted_table}
use Rattle.au_ua.specs.Relations.{PairRow}
use Rattle.au_ua.specs.UaAnswers.{ua_answer}
use Rattle.au_ua.specs.UaTables.{ua_table}
use Rattle.au_ua.proofs.BlockRows.{table_relation}
use Rattle.au_ua.proofs.CountedAnswers.{ua_answer_is_counted}
use Rattle.au_ua.proofs.GuessFits.{Pairs, answer_pairs, tables_pairs}
use Rattle.au_program.proofs.Reordered.{permuted}
use Rattle.au_engine.specs.CountedInputs.{AreCounted, FindsCounted, FoundRows}
use Rattle.au_engine.specs.CountedTables.{certain_guesses}
use Rattle.au_engine.proofs.PairTables.{same_length}

-- ---- a plain row with two counts, read back

abbrev number_of : Value → ℕ
number_of (Int (pos n)) = n
number_of _ = 0

abbrev read_back : List Value → PairRow
read_back [] = entry [] none
read_back (v ∷ []) = entry [] none
read_back (v ∷ w ∷ []) = entry [] (pair_of (number_of v) (number_of w))
read_back (v ∷ w ∷ x ∷ row) = entry (v ∷ (read_back (w ∷ x ∷ row)).cells) (read_back (w ∷ x ∷ row)).annot

read_first : (v : Value) (row : List Value) → 2 ≤ length row → read_back (v ∷ row) ≡ entry (v ∷ (read_back row).cells) (read_back row).annot
read_first v [] low = let never : ⊥ = omega (arith, low) in absurd never
read_first v (w ∷ []) low = let never : ⊥ = omega (arith, low) in absurd never
read_first v (w ∷ x ∷ row) low = refl

read_two : (cells : List Value) (p : PairCounts) → read_back (counts_row (two_counts (entry cells p))) ≡ entry cells p
read_two [] p = refl
read_two (v ∷ cells) p =
    let row = counts_row (two_counts (entry cells p)) in
    let long : length row ≡ length cells + 2 = length-append cells (count_value p.certain ∷ count_value p.guess ∷ []) in
    read_first v row (omega (arith, long)) ∙ (λ i. entry (v ∷ (read_two cells p i).cells) (read_two cells p i).annot)

all_back : (rows : List PairRow) → map read_back (counts_rows (map two_counts rows)) ≡ rows
all_back [] = refl
all_back (r ∷ rows) = λ i. read_two r.cells r.annot i ∷ all_back rows i

-- plain rows in another order hold rows with pairs in another order
pairs_permuted : (xs ys : List PairRow) → IsPermutation (counts_rows (map two_counts xs)) (counts_rows (map two_counts ys)) → IsPermutation xs ys
pairs_permuted xs ys p =
    subst (λ us. IsPermutation us ys) (all_back xs)
    (subst (λ vs. IsPermutation (map read_back (counts_rows (map two_counts xs))) vs) (all_back ys)
    (IsPermutation-map read_back (counts_rows (map two_counts xs)) (counts_rows (map two_counts ys)) p))

hold_pairs : (rows : List PairRow) → Pairs rows → HoldPairs (counts_rows (map two_counts rows))
hold_pairs [] h = tt
hold_pairs (r ∷ rows) h =
    (record { cells = r.cells; certain = r.annot.certain; guess = r.annot.guess; in_order = h.0; whole = refl }, hold_pairs rows h.1)

-- ---- widths

wide : (ks : List Kind) (n : ℕ) (rows : List PairRow) → length ks ≡ n → AreCountsRows 2 ks (map two_counts rows) → AllByRecursion (λ row. length row ≡ n + 2) (counts_rows (map two_counts rows))
wide ks n [] e h = tt
wide ks n (r ∷ rows) e h =
    let own = same_length ks r.cells h.0.cells in
    let long : length (counts_row (two_counts r)) ≡ length r.cells + 2 = length-append r.cells (count_value r.annot.certain ∷ count_value r.annot.guess ∷ []) in
    (omega (arith, own, long, e), wide ks n rows e h.1)

wide_back : (n : ℕ) (rows : List PairRow) → AllByRecursion (λ row. length row ≡ n + 2) (counts_rows (map two_counts rows)) → AllByRecursion (λ r. length r.cells ≡ n) rows
wide_back n [] h = tt
wide_back n (r ∷ rows) h =
    let long : length (counts_row (two_counts r)) ≡ length r.cells + 2 = length-append r.cells (count_value r.annot.certain ∷ count_value r.annot.guess ∷ []) in
    let here = h.0 in
    (omega (arith, long, here), wide_back n rows h.1)

-- ---- the inputs

two_counted : (ks : List Kind) (rows : List PairRow) → IsRelationOver IsKind IsPair ks rows → AreCountsRows 2 ks (map two_counts rows)
two_counted ks [] h = tt
two_counted ks (r ∷ rows) h = (record { cells = h.0.cells; counts = refl }, two_counted ks rows h.1)

all_counted : (ts : List BlockTable) → AllByRecursion IsBlockTable ts → AllZip (AreCountsRows 2) (map column_kinds ts) (map counted_table ts)
all_counted [] ok = tt
all_counted (t ∷ ts) ok = (two_counted (column_kinds t) (ua_table t) (table_relation t ok.0.table ok.0.blocks), all_counted ts ok.1)

module _ (ts : List BlockTable) (inputs : List Rows) (is : inputs ≡ map (λ t. certain_guesses t.blocks) ts) (ok : AllByRecursion IsBlockTable ts) where
  are_inputs : map counts_rows (map counted_table ts) ≡ inputs
  are_inputs = map_map counts_rows counted_table ts ∙ sym is

  pub are_counted : AreCounted 2 (map column_kinds ts) inputs
  are_counted = record { tables = map counted_table ts; relations = all_counted ts ok; are = are_inputs }

  -- ---- what is found

  module _ (q : Tree) (ks : List Kind) (typed : kinds_of (map column_kinds ts) q ≡ Some ks) (p : is_positive q ≡ true) (found : Rows) (finds : FindsCounted 2 (map column_kinds ts) q inputs found) where
    abbrev rows : List PairRow
    rows = ua_answer q (map ua_table ts)

    found_of : FoundRows 2 ks (map two_counts rows) found
    found_of =
        subst (λ rs. FoundRows 2 ks rs found) (ua_answer_is_counted q ts ok p) (finds (map counted_table ts) ks (all_counted ts ok) are_inputs typed)

    -- certain and guessed counts in order
    pub found_pairs : HoldPairs found
    found_pairs =
        all_same HoldsPair found (counts_rows (map two_counts rows)) found_of.same (hold_pairs rows (answer_pairs (map ua_table ts) (tables_pairs ts ok) q))

    module _ (rel : List PairRow) (e : counts_rows (map two_counts rel) ≡ found) where
      -- the rows of the answer over pairs
      pub found_rows : IsPermutation rows rel
      found_rows =
          pairs_permuted rows rel
          (IsPermutation-sym (counts_rows (map two_counts rel)) (counts_rows (map two_counts rows))
          (permuted (counts_rows (map two_counts rel)) (counts_rows (map two_counts rows))
          (subst (λ f. SameUpToOrder same_row f (counts_rows (map two_counts rows))) (sym e) found_of.same)))

      -- each of as many values as there are columns
      pub found_widths : (n : ℕ) → length ks ≡ n → AllByRecursion (λ r. length r.cells ≡ n) rel
      found_widths n long =
          wide_back n rel
          (subst (AllByRecursion (λ row. length row ≡ n + 2)) (sym e)
          (all_same (λ row. length row ≡ n + 2) found (counts_rows (map two_counts rows)) found_of.same (wide ks n rows long found_of.relation)))
