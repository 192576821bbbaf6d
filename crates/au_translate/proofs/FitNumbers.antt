-- Where the numbers of blocks lie in the range, those of their encoded rows do.
use Rattle.std.specs.Prelude.{◌≡◌, ℕ, zero, suc, ◌+◌, ◌≤◌, ◌^◌, Bool, true, false, not, List, [], ◌∷◌, ◌++◌, map, fold, max, slice_get, Some, unwrap_or, pos, if◌then◌else◌}
use Rattle.std.specs.List.{AllByRecursion}
use Rattle.std.proofs.Common.{arith, refl}
use Rattle.std.proofs.lemmas.Bool.{and_from}
use Rattle.au_value.specs.declared.value.Value.{Value}
use Rattle.au_value.specs.declared.value.Value.TheVariants.{Int}
use Rattle.au_value.specs.Order.{at_most}
use Rattle.au_value.specs.Ranges.{Span, guesses, range}
use Rattle.au_blocks.specs.Blocks.{Candidate, Choices, IsBlock, IsCopies, candidate, once}
use Rattle.au_algebra.specs.Bounded.{RangeRow}
use Rattle.au_algebra.specs.Lists.{least, greatest}
use Rattle.au_annot.specs.Triples.{is_none}
use Rattle.au_algebra.proofs.Each.{all_filter}
use Rattle.au_plain.specs.PlanKinds.{FitRows, row_fits}
use Rattle.au_encode.specs.Encode.{encode, encode_cells, encode_counts, encode_row}
use Rattle.au_translate.specs.HeldNumbers.{FitBlock, FitCandidate, FitSpan, FitValue}
use Rattle.au_translate.specs.Translate.{block_row, bounded_blocks, candidate_cell, high_at, low_at, marked_or_first, triple_of}
use Rattle.au_translate.proofs.Alternatives.{spans_from}
use Rattle.au_translate.proofs.BlockRelation.{triple_order}

-- ---- one of two, and of many

one_of : (b : Bool) (v w : Value) → FitValue v → FitValue w → FitValue (if b then v else w)
one_of true v w f g = f
one_of false v w f g = g

least_fits : (vs : List Value) → AllByRecursion FitValue vs → FitValue (least vs)
least_fits [] h = refl
least_fits (v ∷ []) h = h.0
least_fits (v ∷ w ∷ vs) h = one_of (at_most v (least (w ∷ vs))) v (least (w ∷ vs)) h.0 (least_fits (w ∷ vs) h.1)

greatest_fits : (vs : List Value) → AllByRecursion FitValue vs → FitValue (greatest vs)
greatest_fits [] h = refl
greatest_fits (v ∷ []) h = h.0
greatest_fits (v ∷ w ∷ vs) h = one_of (at_most v (greatest (w ∷ vs))) (greatest (w ∷ vs)) v (greatest_fits (w ∷ vs) h.1) h.0

-- ---- the ranges of a block

cell_fits : (j : ℕ) (cells : List Span) (d : Span) → AllByRecursion FitSpan cells → FitSpan d → FitSpan (unwrap_or (slice_get cells j) d)
cell_fits j [] d h k = k
cell_fits zero (c ∷ cells) d h k = h.0
cell_fits (suc j) (c ∷ cells) d h k = cell_fits j cells d h.1 k

none_fits : FitSpan (candidate_cell 0 (candidate [] once))
none_fits = record { lo = refl; sg = refl; hi = refl }

lows_fit : (j : ℕ) (alternatives : List Candidate) → AllByRecursion FitCandidate alternatives → AllByRecursion FitValue (map (low_at j) alternatives)
lows_fit j [] h = tt
lows_fit j (a ∷ alternatives) h = ((cell_fits j a.cells _ h.0 none_fits).lo, lows_fit j alternatives h.1)

highs_fit : (j : ℕ) (alternatives : List Candidate) → AllByRecursion FitCandidate alternatives → AllByRecursion FitValue (map (high_at j) alternatives)
highs_fit j [] h = tt
highs_fit j (a ∷ alternatives) h = ((cell_fits j a.cells _ h.0 none_fits).hi, highs_fit j alternatives h.1)

-- a cell by its three values
pub span_by : (cells : List Span) (j : ℕ) (lo sg hi : Value) → slice_get (map (λ c. c.lo) cells) j ≡ Some lo → slice_get (map (λ c. c.sg) cells) j ≡ Some sg → slice_get (map (λ c. c.hi) cells) j ≡ Some hi
    → slice_get cells j ≡ Some (range lo sg hi)
span_by [] j lo sg hi a b c = cc
span_by (s ∷ cells) zero lo sg hi a b c =
    let low : s.lo ≡ lo = cc in
    let guess : s.sg ≡ sg = cc in
    let high : s.hi ≡ hi = cc in
    λ i. Some (range (low i) (guess i) (high i))
span_by (s ∷ cells) (suc j) lo sg hi a b c = span_by cells j lo sg hi a b c

row_from : (v : Value) (vs : List Value) → FitValue v → row_fits vs ≡ true → row_fits (v ∷ vs) ≡ true
row_from v vs f g = and_from _ _ f g

shown_fits : (alternatives : List Candidate) (i : ℕ) → AllByRecursion FitCandidate alternatives → FitCandidate (unwrap_or (slice_get alternatives i) (candidate [] once))
shown_fits [] i h = tt
shown_fits (a ∷ alternatives) zero h = h.0
shown_fits (a ∷ alternatives) (suc i) h = shown_fits alternatives i h.1

-- the ranges from a column on, with these guesses, before some values
spans_fit :
    (alternatives : List Candidate) (cells : List Span) (j : ℕ) (vs : List Value) → AllByRecursion FitCandidate alternatives → AllByRecursion FitSpan cells → row_fits vs ≡ true →
    row_fits (encode_cells (spans_from alternatives j (guesses cells)) ++ vs) ≡ true
spans_fit alternatives [] j vs h k f = f
spans_fit alternatives (c ∷ cells) j vs h k f =
    let others = encode_cells (spans_from alternatives (j + 1) (guesses cells)) ++ vs in
    let most = greatest (map (high_at j) alternatives) in
    row_from (least (map (low_at j) alternatives)) (c.sg ∷ most ∷ others) (least_fits (map (low_at j) alternatives) (lows_fit j alternatives h))
    (row_from c.sg (most ∷ others) k.0.sg
    (row_from most others (greatest_fits (map (high_at j) alternatives) (highs_fit j alternatives h))
    (spans_fit alternatives cells (j + 1) vs h k.1 f)))

-- ---- its counts

module _ (top : ℕ) where
  max_below : (n : ℕ) (ns : List ℕ) → n ≤ top → AllByRecursion (λ m. m ≤ top) ns → fold max n ns ≤ top
  max_below n [] h k = h
  max_below n (m ∷ ns) h k = max_below (max n m) ns (omega (arith, h, k.0)) k.1

mosts : (alternatives : List Candidate) → AllByRecursion (λ a. IsCopies a.copies) alternatives → AllByRecursion (λ m. m ≤ 10 ^ 12) (map (λ a. a.copies.most) alternatives)
mosts [] h = tt
mosts (a ∷ alternatives) h = (h.0.bounded, mosts alternatives h.1)

-- a number of copies lies in the range
low_number : (n : ℕ) → n ≤ 10 ^ 12 → FitValue (Int (pos n))
low_number n h = grind (arith, h)

counts_fit : (b : Choices) → IsBlock b → row_fits (encode_counts (triple_of b)) ≡ true
counts_fit b is =
    let most : (triple_of b).most ≤ 10 ^ 12 = max_below (10 ^ 12) 0 (map (λ a. a.copies.most) b.alternatives) (omega arith) (mosts b.alternatives is.copies) in
    let order = triple_order b is in
    row_from (Int (pos (triple_of b).least)) (Int (pos (triple_of b).guess) ∷ Int (pos (triple_of b).most) ∷ []) (low_number (triple_of b).least (omega (arith, most, order.0, order.1)))
    (row_from (Int (pos (triple_of b).guess)) (Int (pos (triple_of b).most) ∷ []) (low_number (triple_of b).guess (omega (arith, most, order.1)))
    (row_from (Int (pos (triple_of b).most)) [] (low_number (triple_of b).most most) refl))

-- ---- all blocks

block_fits : (b : Choices) → IsBlock b → FitBlock b → row_fits (encode_row (block_row b)) ≡ true
block_fits b is h =
    spans_fit b.alternatives (marked_or_first b).cells 0 (encode_counts (triple_of b)) h (shown_fits b.alternatives (unwrap_or b.guess 0) h) (counts_fit b is)

rows_fit : (bs : List Choices) → AllByRecursion IsBlock bs → AllByRecursion FitBlock bs → AllByRecursion (λ r. row_fits (encode_row r) ≡ true) (map block_row bs)
rows_fit [] is h = tt
rows_fit (b ∷ bs) is h = (block_fits b is.0 h.0, rows_fit bs is.1 h.1)

encoded_fit : (rows : List RangeRow) → AllByRecursion (λ r. row_fits (encode_row r) ≡ true) rows → FitRows (encode rows)
encoded_fit [] h = tt
encoded_fit (r ∷ rows) h = (h.0, encoded_fit rows h.1)

pub numbers_fit : (bs : List Choices) → AllByRecursion IsBlock bs → AllByRecursion FitBlock bs → FitRows (encode (bounded_blocks bs))
numbers_fit bs is h =
    encoded_fit (bounded_blocks bs) (all_filter (λ r. row_fits (encode_row r) ≡ true) (λ (r : RangeRow). not (is_none r.annot)) (map block_row bs) (rows_fit bs is h))
