-- The ranges and the counts of rows that have counts.
use Rattle.std.specs.Prelude.{◌≡◌, ◌*◌, ◌<◌, ℕ, zero, suc, List, [], ◌∷◌, ◌++◌, map, length, get_or, ℤ, pos}
use Rattle.std.specs.List.{AllByRecursion, range_with_len}
use Rattle.std.proofs.Common.{refl, sym, ◌∙◌, ap, subst, arith}
use Rattle.std.proofs.lemmas.List.{length-map, get_or-map}
use Rattle.std.proofs.lemmas.List.Elements.{All-from_recursion}
use Rattle.std.proofs.lemmas.List.FromFn.{fill_by_all}
use Rattle.au_algebra.specs.Entries.{entry}
use Rattle.au_algebra.specs.Bounded.{RangeRow}
use Rattle.au_codes.specs.Codes.{Cells, CellRows}
use Rattle.au_encode.specs.Encode.{decode_annot, decode_cells, decode_row}
use Rattle.au_settled.specs.Settled.{HasCounts, HaveCounts, numbers_of, relation_of, values_of}
use Rattle.au_settled.specs.Places.{AreCountsAt, counts_at, row_in, spans_at}

-- three more places
pub three_more : (c : ℕ) → 3 * suc c ≡ suc (suc (suc (3 * c)))
three_more c = omega arith

-- the ranges behind three numbers
spans_behind : (l s h : ℤ) (i c : ℕ) (row : Cells) → spans_at (suc (suc (suc i))) c (l ∷ s ∷ h ∷ row) ≡ spans_at i c row
spans_behind l s h i zero row = refl
spans_behind l s h i (suc c) row = ap (λ rs. (spans_at i 1 row) ++ rs) (spans_behind l s h (suc (suc (suc i))) c row)

-- the row of ranges of a row
abbrev pub range_row : ℕ → Cells → RangeRow
range_row c row = entry (spans_at 0 c row) (counts_at (3 * c) row)

spans_are : (c : ℕ) (row : Cells) → HasCounts c row → decode_cells c (values_of row) ≡ spans_at 0 c row
spans_are zero row h = refl
spans_are (suc c) (l ∷ s ∷ h ∷ row) k = ap (λ rs. spans_at 0 1 (l ∷ s ∷ h ∷ []) ++ rs) (spans_are c row k ∙ sym (spans_behind l s h 0 c row))
spans_are (suc c) _ k = absurd k

counts_are : (c : ℕ) (row : Cells) → HasCounts c row → decode_annot c (values_of row) ≡ counts_at (3 * c) row
counts_are zero (pos l ∷ pos g ∷ pos m ∷ []) k = refl
counts_are zero _ k = absurd k
counts_are (suc c) (l ∷ s ∷ h ∷ row) k = counts_are c row k ∙ ap (λ n. counts_at n (l ∷ s ∷ h ∷ row)) (sym (three_more c))
counts_are (suc c) _ k = absurd k

pub row_is : (c : ℕ) (row : Cells) → HasCounts c row → decode_row c (values_of row) ≡ range_row c row
row_is c row k = λ i. entry (spans_are c row k i) (counts_are c row k i)

-- its counts are in order
pub counts_stand : (c : ℕ) (row : Cells) → HasCounts c row → AreCountsAt (3 * c) row
counts_stand zero (pos l ∷ pos g ∷ pos m ∷ []) k = record {
  least = refl;
  guess = refl;
  most = refl;
  triple = record { least_guess = k.0; guess_most = k.1 };
}
counts_stand zero _ k = absurd k
counts_stand (suc c) (l ∷ s ∷ h ∷ row) k =
    let there = counts_stand c row k in
    subst (λ n. AreCountsAt n (l ∷ s ∷ h ∷ row)) (sym (three_more c))
    (record { least = there.least; guess = there.guess; most = there.most; triple = there.triple })
counts_stand (suc c) _ k = absurd k

-- its numbers come back
numbers_decoded : (c : ℕ) (row : Cells) → HasCounts c row → numbers_of (decode_row c (values_of row)) ≡ row
numbers_decoded zero (pos l ∷ pos g ∷ pos m ∷ []) k = refl
numbers_decoded zero _ k = absurd k
numbers_decoded (suc c) (l ∷ s ∷ h ∷ row) k = ap (λ (zs : Cells). l ∷ s ∷ h ∷ zs) (numbers_decoded c row k)
numbers_decoded (suc c) _ k = absurd k

pub numbers_back : (c : ℕ) (row : Cells) → HasCounts c row → numbers_of (range_row c row) ≡ row
numbers_back c row k = ap numbers_of (sym (row_is c row k)) ∙ numbers_decoded c row k

-- ---- rows by their places

has_counts : (c : ℕ) (rows : CellRows) (p : ℕ) → HaveCounts c rows → p < length rows → HasCounts c (get_or rows p [])
has_counts c rows p h below = All-from_recursion (HasCounts c) rows h p [] below

pub counts_in : (c : ℕ) (rows : CellRows) (p : ℕ) → HaveCounts c rows → p < length rows → AreCountsAt (3 * c) (get_or rows p [])
counts_in c rows p h below = counts_stand c (get_or rows p []) (has_counts c rows p h below)

-- the numbers of the rows of some places
pub numbers_in : (c : ℕ) (rows : CellRows) (places : List ℕ) → HaveCounts c rows → AllByRecursion (λ p. p < length rows) places → map (λ p. get_or rows p []) places ≡ map numbers_of (map (row_in c rows) places)
numbers_in c rows [] h below = refl
numbers_in c rows (p ∷ places) h below =
    let here : get_or rows p [] ≡ numbers_of (row_in c rows p) = sym (numbers_back c (get_or rows p []) (has_counts c rows p h below.0)) in
    let rest = numbers_in c rows places h below.1 in
    λ i. here i ∷ rest i

relation_rows : (c : ℕ) (rows : CellRows) → HaveCounts c rows → map (range_row c) rows ≡ relation_of c rows
relation_rows c [] h = refl
relation_rows c (row ∷ rows) h =
    let here = row_is c row h.0 in
    let rest = relation_rows c rows h.1 in
    λ i. sym here i ∷ rest i

-- the rows of all places are the relation
pub relation_is : (c : ℕ) (rows : CellRows) → HaveCounts c rows → map (row_in c rows) (range_with_len 0 (length rows)) ≡ relation_of c rows
relation_is c rows h =
    sym (fill_by_all (row_in c rows) (map (range_row c) rows) (length rows) (range_row c []) (length-map rows (range_row c))
    (λ k below. get_or-map (range_row c) rows k [] (range_row c []) below))
    ∙ relation_rows c rows h

-- the numbers of a relation come back
pub relation_back : (c : ℕ) (rows : CellRows) → HaveCounts c rows → map numbers_of (relation_of c rows) ≡ rows
relation_back c [] h = refl
relation_back c (row ∷ rows) h =
    let here = numbers_decoded c row h.0 in
    let rest = relation_back c rows h.1 in
    λ i. here i ∷ rest i
