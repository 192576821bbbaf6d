-- The encoded rows of a table whose values can be written can be written.
use Rattle.std.proofs.Common.{◌≡◌, ℕ, zero, suc, ◌+◌, ◌*◌, ◌<◌, ◌≤◌, ◌^◌, true, List, [], ◌∷◌, ◌++◌, length, map, pos, refl, ap, ◌∙◌, arith}
use Rattle.std.specs.Prelude.{◌&&◌, not, fold, max, slice_get, unwrap_or}
use Rattle.std.specs.List.{AllByRecursion, enumerate_from, list_all}
use Rattle.std.proofs.lemmas.Bool.{and_parts, and_from}
use Rattle.std.proofs.lemmas.List.{length-append, length-map}
use Rattle.au_value.specs.declared.kinds.Kind.{Kind}
use Rattle.au_value.specs.declared.kinds.Kind.TheVariants as kind
use Rattle.au_value.specs.declared.value.Value.{Value}
use Rattle.au_value.specs.declared.value.Value.TheVariants.{Int}
use Rattle.au_value.specs.Numeral.{is_i128}
use Rattle.au_value.specs.Order.{data_kind}
use Rattle.au_value.specs.Ranges.{Span, certain, guesses}
use Rattle.au_value.proofs.Numerals.{fits_tested}
use Rattle.au_annot.specs.Triples.{Counts, is_none}
use Rattle.au_expr.specs.Figures.{fit}
use Rattle.au_expr.specs.Numbers.{number_if_any}
use Rattle.au_blocks.specs.declared.column.Column.{Column}
use Rattle.au_blocks.specs.Blocks.{Candidate, Choices, IsBlock, IsCopies, candidate, once}
use Rattle.au_blocks.specs.Tables.{BlockTable, IsBlockTable, column_kinds}
use Rattle.au_algebra.specs.Bounded.{Bounded}
use Rattle.au_algebra.proofs.Each.{all_filter}
use Rattle.au_algebra.proofs.Extremes.{greatest_among, least_among}
use Rattle.au_translate.specs.Translate.{block_row, bounded_table, high_at, low_at, ranges_of, marked_or_first, span_in, triple_of}
use Rattle.au_translate.proofs.BlockRelation.{table_relation, triple_order}
use Rattle.au_plain.specs.PlanKinds.{FitRows, row_fits}
use Rattle.au_encode.specs.Encode.{encode, encode_cells, encode_counts, encode_row, encoded_kinds, triple_kinds}
use Rattle.au_encode.proofs.EncodedKinds.{rows_have_kinds}
use Rattle.au_engine.specs.EncodedTables.{AreWritable, IsEncodedTable, IsWritableBlock, IsWritableTable, TextRows, is_text_value, is_writable, is_writable_range}
use Rattle.au_engine.proofs.PlainTables.{data_again, text_read}

-- ---- what is known of values

abbrev Written : Value → Type 0
Written v = is_writable v ≡ true

pub record AreEnds (r : Span) : Type 0 where
  pub lo : Written r.lo
  pub sg : Written r.sg
  pub hi : Written r.hi

ends_of : (r : Span) → is_writable_range r ≡ true → AreEnds r
ends_of r h =
    let high = and_parts (is_writable r.lo && is_writable r.sg) (is_writable r.hi) h in
    let low = and_parts (is_writable r.lo) (is_writable r.sg) high.0 in
    record { lo = low.0; sg = low.1; hi = high.1 }

abbrev AllEnds : List Span → Type 0
AllEnds rs = AllByRecursion AreEnds rs

all_ends : (rs : List Span) → list_all is_writable_range rs ≡ true → AllEnds rs
all_ends [] h = tt
all_ends (r ∷ rs) h =
    let p = and_parts (is_writable_range r) (list_all is_writable_range rs) h in
    (ends_of r p.0, all_ends rs p.1)

-- ---- the ranges of a block

cell_written : (rs : List Span) (j : ℕ) → AllEnds rs → AreEnds (unwrap_or (slice_get rs j) (certain (Int (pos 0))))
cell_written [] j h = record { lo = refl; sg = refl; hi = refl }
cell_written (r ∷ rs) zero h = h.0
cell_written (r ∷ rs) (suc j) h = cell_written rs j h.1

abbrev AreCandidates : List Candidate → Type 0
AreCandidates cs = AllByRecursion (λ a. list_all is_writable_range a.cells ≡ true) cs

lows_written : (j : ℕ) (cs : List Candidate) → AreCandidates cs → AllByRecursion (λ a. Written (low_at j a)) cs
lows_written j [] h = tt
lows_written j (a ∷ cs) h = ((cell_written a.cells j (all_ends a.cells h.0)).lo, lows_written j cs h.1)

highs_written : (j : ℕ) (cs : List Candidate) → AreCandidates cs → AllByRecursion (λ a. Written (high_at j a)) cs
highs_written j [] h = tt
highs_written j (a ∷ cs) h = ((cell_written a.cells j (all_ends a.cells h.0)).hi, highs_written j cs h.1)

spans_written : (cs : List Candidate) → AreCandidates cs → 0 < length cs → (j : ℕ) (vs : List Value) → AllByRecursion Written vs
    → AllEnds (map (λ p. span_in cs p.0 p.1) (enumerate_from j vs))
spans_written cs h some j [] own = tt
spans_written cs h some j (v ∷ vs) own =
    let first : AreEnds (span_in cs j v) = record {
      lo = least_among (low_at j) Written cs (lows_written j cs h) some;
      sg = own.0;
      hi = greatest_among (high_at j) Written cs (highs_written j cs h) some;
    } in
    (first, spans_written cs h some (j + 1) vs own.1)

guesses_written : (rs : List Span) → AllEnds rs → AllByRecursion Written (guesses rs)
guesses_written [] h = tt
guesses_written (r ∷ rs) h = (h.0.sg, guesses_written rs h.1)

chosen_written : (cs : List Candidate) (i : ℕ) → AreCandidates cs → AllEnds (unwrap_or (slice_get cs i) (candidate [] once)).cells
chosen_written [] i h = tt
chosen_written (a ∷ cs) zero h = all_ends a.cells h.0
chosen_written (a ∷ cs) (suc i) h = chosen_written cs i h.1

ranges_written : (b : Choices) → 0 < length b.alternatives → IsWritableBlock b → AllEnds (ranges_of b)
ranges_written b some h =
    spans_written b.alternatives h some 0 (guesses (marked_or_first b).cells) (guesses_written (marked_or_first b).cells (chosen_written b.alternatives (unwrap_or b.guess 0) h))

-- ---- its numbers of copies

most_small : (n : ℕ) (cs : List Candidate) → n ≤ 10 ^ 12 → AllByRecursion (λ a. IsCopies a.copies) cs → fold max n (map (λ a. a.copies.most) cs) ≤ 10 ^ 12
most_small n [] low h = low
most_small n (a ∷ cs) low h = let own = h.0.bounded in most_small (max n a.copies.most) cs (omega (arith, own)) h.1

count_written : (n : ℕ) → n ≤ 10 ^ 12 → Written (Int (pos n))
count_written n low =
    let small : is_i128 (pos n) ≡ true = fits_tested (pos n) (record { sfits = grind arith }) in
    rw small refl

abbrev AllWritten : List Value → Type 0
AllWritten vs = AllByRecursion Written vs

triple_written : (t : Counts) → t.least ≤ t.guess → t.guess ≤ t.most → t.most ≤ 10 ^ 12 → AllWritten (encode_counts t)
triple_written t low high most = (count_written t.least (omega arith), (count_written t.guess (omega arith), (count_written t.most most, tt)))

cells_written : (rs : List Span) (vs : List Value) → AllEnds rs → AllWritten vs → AllWritten (encode_cells rs ++ vs)
cells_written [] vs h k = k
cells_written (r ∷ rs) vs h k = (h.0.lo, (h.0.sg, (h.0.hi, cells_written rs vs h.1 k)))

row_written : (b : Choices) → IsBlock b → IsWritableBlock b → AllWritten (encode_row (block_row b))
row_written b ok h =
    let order = triple_order b ok in
    cells_written (ranges_of b) (encode_counts (triple_of b)) (ranges_written b ok.nonempty h)
    (triple_written (triple_of b) order.0 order.1 (most_small 0 b.alternatives (omega arith) ok.copies))

-- ---- rows

rows_written : (bs : List Choices) → AllByRecursion IsBlock bs → AllByRecursion IsWritableBlock bs → AllByRecursion (λ r. AllWritten (encode_row r)) (map block_row bs)
rows_written [] ok h = tt
rows_written (b ∷ bs) ok h = (row_written b ok.0 h.0, rows_written bs ok.1 h.1)

row_held : (vs : List Value) → AllWritten vs → row_fits vs ≡ true
row_held [] h = refl
row_held (v ∷ vs) h = and_from (fit (number_if_any v)) (row_fits vs) (and_parts (fit (number_if_any v)) (is_text_value v) h.0).0 (row_held vs h.1)

row_texts : (vs : List Value) → AllWritten vs → list_all is_text_value vs ≡ true
row_texts [] h = refl
row_texts (v ∷ vs) h = and_from (is_text_value v) (list_all is_text_value vs) (and_parts (fit (number_if_any v)) (is_text_value v) h.0).1 (row_texts vs h.1)

encode_held : (rows : Bounded) → AllByRecursion (λ r. AllWritten (encode_row r)) rows → FitRows (encode rows)
encode_held [] h = tt
encode_held (r ∷ rows) h = (row_held (encode_row r) h.0, encode_held rows h.1)

encode_texts : (rows : Bounded) → AllByRecursion (λ r. AllWritten (encode_row r)) rows → TextRows (encode rows)
encode_texts [] h = tt
encode_texts (r ∷ rows) h = (row_texts (encode_row r) h.0, encode_texts rows h.1)

module _ (t : BlockTable) (ok : IsBlockTable t) (h : IsWritableTable t) where
  table_written : AllByRecursion (λ r. AllWritten (encode_row r)) (bounded_table t)
  table_written = all_filter (λ r. AllWritten (encode_row r)) (λ r. not (is_none r.annot)) (map block_row t.blocks) (rows_written t.blocks ok.blocks h)

  pub encoded_fit : FitRows (encode (bounded_table t))
  encoded_fit = encode_held (bounded_table t) table_written

  encoded_texts : TextRows (encode (bounded_table t))
  encoded_texts = encode_texts (bounded_table t) table_written

-- ---- columns

triple_long : (ks : List Kind) → length (triple_kinds ks) ≡ 3 * length ks
triple_long [] = refl
triple_long (k ∷ ks) = let more = triple_long ks in omega (arith, more)

pub encoded_long : (ks : List Kind) → length (encoded_kinds ks) ≡ 3 * length ks + 3
encoded_long ks = let more = triple_long ks in length-append (triple_kinds ks) (kind.Int ∷ kind.Int ∷ kind.Int ∷ []) ∙ omega (arith, more)

pub kinds_again : (cs : List Column) → map data_kind (encoded_kinds (map (λ c. data_kind c.kind) cs)) ≡ encoded_kinds (map (λ c. data_kind c.kind) cs)
kinds_again [] = refl
kinds_again (c ∷ cs) = rw (data_again c.kind) (ap (λ ks. data_kind c.kind ∷ data_kind c.kind ∷ data_kind c.kind ∷ ks) (kinds_again cs))

-- ---- the table

pub encoded_writable : (t : BlockTable) → IsBlockTable t → IsWritableTable t → length t.columns ≤ 20 → AreWritable (encoded_kinds (column_kinds t)) (encode (bounded_table t))
encoded_writable t ok h few =
    let long = encoded_long (column_kinds t) in
    let columns : length (column_kinds t) ≡ length t.columns = length-map t.columns (λ (c : Column). data_kind c.kind) in
    record {
      some = omega (arith, long);
      few = omega (arith, long, columns);
      kinds = rows_have_kinds (column_kinds t) (bounded_table t) (table_relation t ok.table ok.blocks);
      fit = encoded_fit t ok h;
      texts = encoded_texts t ok h;
    }

pub encoded_read : (t : BlockTable) → IsBlockTable t → IsWritableTable t → length t.columns ≤ 20 → (u : BlockTable) × IsEncodedTable t u
encoded_read t ok h few =
    let read = text_read (encoded_kinds (column_kinds t)) (encode (bounded_table t)) (encoded_writable t ok h few) in
    (read.0, record { reads = read.1.reads; columns = read.1.columns ∙ kinds_again t.columns; guesses = read.1.guesses })
