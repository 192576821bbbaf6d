-- The normal form of rows of codes is the codes of the normal form.
use Rattle.std.specs.Prelude.{◌≡◌, ◌&&◌, ℕ, zero, suc, List, [], ◌∷◌, ◌++◌, length, map, filter, pos}
use Rattle.std.specs.List.{AllByRecursion, AllZip}
use Rattle.std.proofs.Common.{refl, sym, ◌∙◌, ap, subst}
use Rattle.std.proofs.lemmas.List.{map-append}
use Rattle.au_value.specs.declared.kinds.Kind.{Kind}
use Rattle.au_value.specs.declared.kinds.Kind.TheVariants as kind
use Rattle.au_value.specs.declared.value.Value.{Value}
use Rattle.au_value.specs.declared.value.Value.TheVariants.{Int}
use Rattle.au_value.specs.Lists.{distinct}
use Rattle.au_value.specs.Numeral.{is_i128}
use Rattle.au_value.specs.Order.{kind_of}
use Rattle.au_value.specs.Ranges.{IsRangeOf, Span, guesses, lower_ends, upper_ends}
use Rattle.au_annot.specs.Triples.{Counts, total_counts}
use Rattle.au_expr.specs.Ordinary.{number}
use Rattle.au_algebra.specs.Entries.{entry}
use Rattle.au_algebra.specs.Bounded.{Bounded, RangeRow, merge_equal, normal, row_at_most, same_ranges}
use Rattle.au_algebra.specs.Fits.{triples_fit}
use Rattle.au_algebra.specs.Laws.{IsRangeRow, IsRelation}
use Rattle.au_algebra.proofs.Each.{all_distinct}
use Rattle.au_algebra.proofs.NormalRelation.{normal_relation}
use Rattle.au_algebra.proofs.Sorting.{all_sorted}
use Rattle.au_plain.specs.PlanKinds.{HaveKinds}
use Rattle.au_codes.specs.Books.{Book, IsCodebook}
use Rattle.au_codes.specs.Codes.{CellRows, Cells, Code, KeepsOrder, KnowsRow, KnowsRows, code, coded_row, coded_rows}
use Rattle.au_codes.specs.CellNormal.{CellEntry, CellSpan, CellsKeepNormal, KnowsSpans, cells_normal, coded_relation, coded_span}
use Rattle.au_codes.specs.Decoding.{decoded_row}
use Rattle.au_codes.specs.TextCodes.{text_code}
use Rattle.au_codes.specs.TextLaws.{CellsStand, TextCodesKeepOrder}
use Rattle.au_encode.specs.Encode.{AreEncoded, HaveColumns, IsEncoded, decode, decode_annot, decode_cells, decode_row, encode, encode_cells, encode_counts, encoded_kinds}
use Rattle.au_encode.proofs.Decoded.{rows_back, rows_encoded}
use Rattle.au_encode.proofs.EncodedKinds.{rows_have_kinds}
use Rattle.au_settled.specs.Coded.{IsCoded}
use Rattle.au_settled.specs.Settled.{HasCounts, HaveCounts, normal_rows, numbers_of, relation_of, values_of}
use Rattle.au_settled.specs.Laws.{Settles}

-- the kinds of the columns, from those of encoded rows
abbrev column_kinds : ℕ → List Kind → List Kind
column_kinds (suc c) (k ∷ l ∷ m ∷ ks) = l ∷ column_kinds c ks
column_kinds _ _ = []

-- ---- what holds of the cells of each row holds of those of the normal form

module _ (P : List Span → Type 0) where
  lists_have : (rows : Bounded) → AllByRecursion (λ r. P r.cells) rows → AllByRecursion P (map (λ r. r.cells) rows)
  lists_have [] h = tt
  lists_have (r ∷ rows) h = (h.0, lists_have rows h.1)

  entries_have : (f : List Span → Counts) (xs : List (List Span)) → AllByRecursion P xs → AllByRecursion (λ (r : RangeRow). P r.cells) (map (λ cells. entry cells (f cells)) xs)
  entries_have f [] h = tt
  entries_have f (x ∷ xs) h = (h.0, entries_have f xs h.1)

  normal_has : (rows : Bounded) → AllByRecursion (λ r. P r.cells) rows → AllByRecursion (λ r. P r.cells) (normal rows)
  normal_has rows h =
      all_sorted row_at_most (λ r. P r.cells) (merge_equal rows)
      (entries_have (λ cells. total_counts (map (λ r. r.annot) (filter (λ r. same_ranges cells r.cells) rows)))
      (distinct same_ranges (map (λ r. r.cells) rows))
      (all_distinct P same_ranges (map (λ r. r.cells) rows) (lists_have rows h)))

-- ---- encoded rows of values

-- their ranges are of the columns' kinds
ranges_of : (c : ℕ) (vs : List Value) → IsEncoded c vs → AllZip IsRangeOf (column_kinds c (map kind_of vs)) (decode_cells c vs)
ranges_of zero vs ok = tt
ranges_of (suc c) (l ∷ s ∷ h ∷ vs) ok = (record { range = ok.0; kind = refl }, ranges_of c vs ok.1)
ranges_of (suc c) _ ok = absurd ok

row_valid : (c : ℕ) (vs : List Value) → IsEncoded c vs → IsRangeRow (column_kinds c (map kind_of vs)) (decode_row c vs)
row_valid c vs ok =
    let t = counted c vs ok in
    record { cells = ranges_of c vs ok; triple = t.triple; present = t.present }
  where
    counted : (c : ℕ) (vs : List Value) → IsEncoded c vs → IsRangeRow [] (entry [] (decode_annot c vs))
    counted zero (Int (pos l) ∷ Int (pos g) ∷ Int (pos m) ∷ []) ok = record { cells = tt; triple = record { least_guess = ok.0; guess_most = ok.1 }; present = ok.2 }
    counted zero _ ok = absurd ok
    counted (suc c) (l ∷ s ∷ h ∷ vs) ok = counted c vs ok.1
    counted (suc c) _ ok = absurd ok

-- their kinds are the encoded kinds of the columns
kinds_again : (c : ℕ) (vs : List Value) → IsEncoded c vs → encoded_kinds (column_kinds c (map kind_of vs)) ≡ map kind_of vs
kinds_again zero (Int (pos l) ∷ Int (pos g) ∷ Int (pos m) ∷ []) ok = refl
kinds_again zero _ ok = absurd ok
kinds_again (suc c) (l ∷ s ∷ h ∷ vs) ok = λ i. sym ok.0.lo_kind i ∷ kind_of s ∷ sym ok.0.hi_kind i ∷ kinds_again c vs ok.1 i
kinds_again (suc c) _ ok = absurd ok

width_of : (c : ℕ) (vs : List Value) → IsEncoded c vs → length (decode_cells c vs) ≡ c
width_of zero vs ok = refl
width_of (suc c) (l ∷ s ∷ h ∷ vs) ok = ap suc (width_of c vs ok.1)
width_of (suc c) _ ok = absurd ok

module _ (k : Code) where
  -- the ranges have the columns' kinds, and texts that the code knows
  guess_kinds_of : (c : ℕ) (vs : List Value) → IsEncoded c vs → map kind_of (guesses (decode_cells c vs)) ≡ column_kinds c (map kind_of vs)
  guess_kinds_of zero vs ok = refl
  guess_kinds_of (suc c) (l ∷ s ∷ h ∷ vs) ok = ap (λ ks. kind_of s ∷ ks) (guess_kinds_of c vs ok.1)
  guess_kinds_of (suc c) _ ok = absurd ok

  lower_kinds_of : (c : ℕ) (vs : List Value) → IsEncoded c vs → map kind_of (lower_ends (decode_cells c vs)) ≡ column_kinds c (map kind_of vs)
  lower_kinds_of zero vs ok = refl
  lower_kinds_of (suc c) (l ∷ s ∷ h ∷ vs) ok = λ i. ok.0.lo_kind i ∷ lower_kinds_of c vs ok.1 i
  lower_kinds_of (suc c) _ ok = absurd ok

  upper_kinds_of : (c : ℕ) (vs : List Value) → IsEncoded c vs → map kind_of (upper_ends (decode_cells c vs)) ≡ column_kinds c (map kind_of vs)
  upper_kinds_of zero vs ok = refl
  upper_kinds_of (suc c) (l ∷ s ∷ h ∷ vs) ok = λ i. ok.0.hi_kind i ∷ upper_kinds_of c vs ok.1 i
  upper_kinds_of (suc c) _ ok = absurd ok

  guesses_known_of : (c : ℕ) (vs : List Value) → IsEncoded c vs → KnowsRow k vs → KnowsRow k (guesses (decode_cells c vs))
  guesses_known_of zero vs ok g = tt
  guesses_known_of (suc c) (l ∷ s ∷ h ∷ vs) ok g = (g.1.0, guesses_known_of c vs ok.1 g.1.1.1)
  guesses_known_of (suc c) _ ok g = absurd ok

  lowers_known_of : (c : ℕ) (vs : List Value) → IsEncoded c vs → KnowsRow k vs → KnowsRow k (lower_ends (decode_cells c vs))
  lowers_known_of zero vs ok g = tt
  lowers_known_of (suc c) (l ∷ s ∷ h ∷ vs) ok g = (g.0, lowers_known_of c vs ok.1 g.1.1.1)
  lowers_known_of (suc c) _ ok g = absurd ok

  uppers_known_of : (c : ℕ) (vs : List Value) → IsEncoded c vs → KnowsRow k vs → KnowsRow k (upper_ends (decode_cells c vs))
  uppers_known_of zero vs ok g = tt
  uppers_known_of (suc c) (l ∷ s ∷ h ∷ vs) ok g = (g.1.1.0, uppers_known_of c vs ok.1 g.1.1.1)
  uppers_known_of (suc c) _ ok g = absurd ok

  spans_known : (c : ℕ) (vs : List Value) → IsEncoded c vs → KnowsRow k vs → KnowsSpans k (column_kinds c (map kind_of vs)) (decode_cells c vs)
  spans_known c vs ok g = record {
    guess_kinds = guess_kinds_of c vs ok;
    lower_kinds = lower_kinds_of c vs ok;
    upper_kinds = upper_kinds_of c vs ok;
    guesses_known = guesses_known_of c vs ok g;
    lowers_known = lowers_known_of c vs ok g;
    uppers_known = uppers_known_of c vs ok g;
  }

  -- and so has the row that encodes them
  row_known : (xs : List Span) (t : Counts) → KnowsRow k (guesses xs) → KnowsRow k (lower_ends xs) → KnowsRow k (upper_ends xs) → KnowsRow k (encode_cells xs ++ encode_counts t)
  row_known [] t g l u = (tt, (tt, (tt, tt)))
  row_known (x ∷ xs) t g l u = (l.0, (g.0, (u.0, row_known xs t g.1 l.1 u.1)))

  rows_known : (ks : List Kind) (rows : Bounded) → AllByRecursion (λ r. KnowsSpans k ks r.cells) rows → KnowsRows k (encode rows)
  rows_known ks [] h = tt
  rows_known ks (r ∷ rows) h = (row_known r.cells r.annot h.0.guesses_known h.0.lowers_known h.0.uppers_known, rows_known ks rows h.1)

  -- ---- numbers taken as values

  -- encoded rows have counts
  row_counts : (c : ℕ) (vs : List Value) → IsEncoded c vs → HasCounts c (coded_row k vs)
  row_counts zero (Int (pos l) ∷ Int (pos g) ∷ Int (pos m) ∷ []) ok = ok
  row_counts zero _ ok = absurd ok
  row_counts (suc c) (l ∷ s ∷ h ∷ vs) ok = row_counts c vs ok.1
  row_counts (suc c) _ ok = absurd ok

  -- the codes' ranges are the ranges of codes
  cells_same : (c : ℕ) (vs : List Value) → IsEncoded c vs → map (coded_span k) (decode_cells c (values_of (coded_row k vs))) ≡ map (coded_span k) (decode_cells c vs)
  cells_same zero vs ok = refl
  cells_same (suc c) (l ∷ s ∷ h ∷ vs) ok = ap (λ xs. (record { lo = code k l; sg = code k s; hi = code k h }) ∷ xs) (cells_same c vs ok.1)
  cells_same (suc c) _ ok = absurd ok

  annot_same : (c : ℕ) (vs : List Value) → IsEncoded c vs → decode_annot c (values_of (coded_row k vs)) ≡ decode_annot c vs
  annot_same zero (Int (pos l) ∷ Int (pos g) ∷ Int (pos m) ∷ []) ok = refl
  annot_same zero _ ok = absurd ok
  annot_same (suc c) (l ∷ s ∷ h ∷ vs) ok = annot_same c vs ok.1
  annot_same (suc c) _ ok = absurd ok

  relation_same : (c : ℕ) (rows : List (List Value)) → AreEncoded c rows → coded_relation k (relation_of c (coded_rows k rows)) ≡ coded_relation k (decode c rows)
  relation_same c [] ok = refl
  relation_same c (vs ∷ rows) ok =
      let cells = cells_same c vs ok.0 in
      let annot = annot_same c vs ok.0 in
      let rest = relation_same c rows ok.1 in
      λ i. entry (cells i) (annot i) ∷ rest i

  -- they are of whole numbers, which every code knows
  abbrev ints : ℕ → List Kind
  ints zero = []
  ints (suc c) = kind.Int ∷ ints c

  int_guesses : (c : ℕ) (row : Cells) → HasCounts c row → map kind_of (guesses (decode_cells c (values_of row))) ≡ ints c
  int_guesses zero row h = refl
  int_guesses (suc c) (l ∷ s ∷ m ∷ row) h = ap (λ ks. kind.Int ∷ ks) (int_guesses c row h)
  int_guesses (suc c) _ h = absurd h

  int_lowers : (c : ℕ) (row : Cells) → HasCounts c row → map kind_of (lower_ends (decode_cells c (values_of row))) ≡ ints c
  int_lowers zero row h = refl
  int_lowers (suc c) (l ∷ s ∷ m ∷ row) h = ap (λ ks. kind.Int ∷ ks) (int_lowers c row h)
  int_lowers (suc c) _ h = absurd h

  int_uppers : (c : ℕ) (row : Cells) → HasCounts c row → map kind_of (upper_ends (decode_cells c (values_of row))) ≡ ints c
  int_uppers zero row h = refl
  int_uppers (suc c) (l ∷ s ∷ m ∷ row) h = ap (λ ks. kind.Int ∷ ks) (int_uppers c row h)
  int_uppers (suc c) _ h = absurd h

  knows_guesses : (c : ℕ) (row : Cells) → HasCounts c row → KnowsRow k (guesses (decode_cells c (values_of row)))
  knows_guesses zero row h = tt
  knows_guesses (suc c) (l ∷ s ∷ m ∷ row) h = (tt, knows_guesses c row h)
  knows_guesses (suc c) _ h = absurd h

  knows_lowers : (c : ℕ) (row : Cells) → HasCounts c row → KnowsRow k (lower_ends (decode_cells c (values_of row)))
  knows_lowers zero row h = tt
  knows_lowers (suc c) (l ∷ s ∷ m ∷ row) h = (tt, knows_lowers c row h)
  knows_lowers (suc c) _ h = absurd h

  knows_uppers : (c : ℕ) (row : Cells) → HasCounts c row → KnowsRow k (upper_ends (decode_cells c (values_of row)))
  knows_uppers zero row h = tt
  knows_uppers (suc c) (l ∷ s ∷ m ∷ row) h = (tt, knows_uppers c row h)
  knows_uppers (suc c) _ h = absurd h

  ints_known : (c : ℕ) (rows : CellRows) → HaveCounts c rows → AllByRecursion (λ r. KnowsSpans k (ints c) r.cells) (relation_of c rows)
  ints_known c [] h = tt
  ints_known c (row ∷ rows) h = (
    record {
      guess_kinds = int_guesses c row h.0;
      lower_kinds = int_lowers c row h.0;
      upper_kinds = int_uppers c row h.0;
      guesses_known = knows_guesses c row h.0;
      lowers_known = knows_lowers c row h.0;
      uppers_known = knows_uppers c row h.0;
    },
    ints_known c rows h.1,
  )

  -- their codes are their numbers
  abbrev AreNumbers : List Span → Type 0
  AreNumbers xs = map number (encode_cells xs) ≡ map (code k) (encode_cells xs)

  row_numbers : (c : ℕ) (row : Cells) → HasCounts c row → AreNumbers (decode_cells c (values_of row))
  row_numbers zero row h = refl
  row_numbers (suc c) (l ∷ s ∷ m ∷ row) h = ap (λ (zs : Cells). l ∷ s ∷ m ∷ zs) (row_numbers c row h)
  row_numbers (suc c) _ h = absurd h

  relation_numbers : (c : ℕ) (rows : CellRows) → HaveCounts c rows → AllByRecursion (λ r. AreNumbers r.cells) (relation_of c rows)
  relation_numbers c [] h = tt
  relation_numbers c (row ∷ rows) h = (row_numbers c row h.0, relation_numbers c rows h.1)

  numbers_coded : (rows : Bounded) → AllByRecursion (λ r. AreNumbers r.cells) rows → map numbers_of rows ≡ coded_rows k (encode rows)
  numbers_coded [] h = refl
  numbers_coded (r ∷ rows) h =
      let here = map-append number (encode_cells r.cells) (encode_counts r.annot) ∙ ap (λ (zs : Cells). zs ++ map number (encode_counts r.annot)) h.0 ∙ sym (map-append (code k) (encode_cells r.cells) (encode_counts r.annot)) in
      let rest = numbers_coded rows h.1 in
      λ i. here i ∷ rest i

  -- ---- the codes of encoded rows are told by the codes of ranges

  abbrev flat_cells : List CellSpan → Cells
  flat_cells [] = []
  flat_cells (x ∷ xs) = x.lo ∷ x.sg ∷ x.hi ∷ flat_cells xs

  abbrev flat : CellEntry → Cells
  flat r = flat_cells r.cells ++ map (code k) (encode_counts r.annot)

  cells_flat : (xs : List Span) → map (code k) (encode_cells xs) ≡ flat_cells (map (coded_span k) xs)
  cells_flat [] = refl
  cells_flat (x ∷ xs) = ap (λ (zs : Cells). code k x.lo ∷ code k x.sg ∷ code k x.hi ∷ zs) (cells_flat xs)

  rows_flat : (rows : Bounded) → coded_rows k (encode rows) ≡ map flat (coded_relation k rows)
  rows_flat [] = refl
  rows_flat (r ∷ rows) =
      let here = map-append (code k) (encode_cells r.cells) (encode_counts r.annot) ∙ ap (λ (zs : Cells). zs ++ map (code k) (encode_counts r.annot)) (cells_flat r.cells) in
      let rest = rows_flat rows in
      λ i. here i ∷ rest i

  -- whether the counts fit is told by them
  abbrev counts_of : List CellEntry → Bounded
  counts_of rows = map (λ r. entry [] r.annot) rows

  fits_told : (rows : Bounded) → triples_fit rows ≡ triples_fit (counts_of (coded_relation k rows))
  fits_told [] = refl
  fits_told (r ∷ rows) = ap (λ b. is_i128 (pos r.annot.least) && (is_i128 (pos r.annot.guess) && (is_i128 (pos r.annot.most) && b))) (fits_told rows)

-- ---- decoded rows

module _ (book : Book) (is : IsCodebook book) (stand : CellsStand) (kinds : List Kind) where
  abbrev k : Code
  k = text_code book

  -- codes stand for the rows that they were made of
  decoded_back : (rows : List (List Value)) → KnowsRows k rows → HaveKinds kinds rows → map (decoded_row book kinds) (coded_rows k rows) ≡ rows
  decoded_back [] h g = refl
  decoded_back (row ∷ rows) h g =
      let here = ap (λ ks. decoded_row book ks (coded_row k row)) (sym g.0) ∙ stand book row is h.0 in
      let rest = decoded_back rows h.1 g.1 in
      λ i. here i ∷ rest i

  module _ (c : ℕ) where
    abbrev ks : List Kind
    ks = column_kinds c kinds

    valid : (rows : List (List Value)) → AreEncoded c rows → HaveKinds kinds rows → IsRelation ks (decode c rows)
    valid [] ok h = tt
    valid (row ∷ rows) ok h = (subst (λ js. IsRangeRow (column_kinds c js) (decode_row c row)) h.0 (row_valid c row ok.0), valid rows ok.1 h.1)

    known : (rows : List (List Value)) → AreEncoded c rows → HaveKinds kinds rows → KnowsRows k rows → AllByRecursion (λ r. KnowsSpans k ks r.cells) (decode c rows)
    known [] ok h g = tt
    known (row ∷ rows) ok h g = (subst (λ js. KnowsSpans k (column_kinds c js) (decode_cells c row)) h.0 (spans_known k c row ok.0 g.0), known rows ok.1 h.1 g.1)

    wide : (rows : List (List Value)) → AreEncoded c rows → AllByRecursion (λ r. length r.cells ≡ c) (decode c rows)
    wide [] ok = tt
    wide (row ∷ rows) ok = (width_of c row ok.0, wide rows ok.1)

    counts_there : (rows : List (List Value)) → AreEncoded c rows → HaveCounts c (coded_rows k rows)
    counts_there [] ok = tt
    counts_there (row ∷ rows) ok = (row_counts k c row ok.0, counts_there rows ok.1)

    -- where there is a row, its kinds are those of the columns
    kinds_are : (rows : List (List Value)) → AreEncoded c rows → HaveKinds kinds rows → (result : Bounded) → IsRelation ks result → (rows ≡ [] → result ≡ []) → HaveKinds kinds (encode result)
    kinds_are [] ok h result relation none = subst (λ (rs : Bounded). HaveKinds kinds (encode rs)) (sym (none refl)) tt
    kinds_are (row ∷ rows) ok h result relation none =
        let are : encoded_kinds ks ≡ kinds = ap (λ js. encoded_kinds (column_kinds c js)) (sym h.0) ∙ kinds_again c row ok.0 ∙ h.0 in
        subst (λ js. HaveKinds js (encode result)) are (rows_have_kinds ks result relation)

    module _ (rows : List (List Value)) (ok : AreEncoded c rows) (h : HaveKinds kinds rows) (g : KnowsRows k rows) (law : CellsKeepNormal) (keeps : KeepsOrder k) where
      abbrev relation : Bounded
      relation = decode c rows

      abbrev numbers : Bounded
      numbers = relation_of c (coded_rows k rows)

      -- the codes of both normal forms
      same_codes : coded_relation k (normal numbers) ≡ coded_relation k (normal relation)
      same_codes =
          sym (law k keeps (ints k c) numbers (ints_known k c (coded_rows k rows) (counts_there rows ok)))
          ∙ ap cells_normal (relation_same k c rows ok)
          ∙ law k keeps ks relation (known rows ok h g)

      -- the normal form's numbers
      rows_are : normal_rows c (coded_rows k rows) ≡ coded_rows k (encode (normal relation))
      rows_are =
          numbers_coded k (normal numbers) (normal_has (AreNumbers k) numbers (relation_numbers k c (coded_rows k rows) (counts_there rows ok)))
          ∙ rows_flat k (normal numbers)
          ∙ ap (map (flat k)) same_codes
          ∙ sym (rows_flat k (normal relation))

      relation_valid : IsRelation ks (normal relation)
      relation_valid = normal_relation ks relation (valid rows ok h)

      relation_known : AllByRecursion (λ r. KnowsSpans k ks r.cells) (normal relation)
      relation_known = normal_has (KnowsSpans k ks) relation (known rows ok h g)

      relation_wide : HaveColumns c (normal relation)
      relation_wide = normal_has (λ xs. length xs ≡ c) relation (wide rows ok)

      rows_knows : KnowsRows k (encode (normal relation))
      rows_knows = rows_known k ks (normal relation) relation_known

      rows_kinds : HaveKinds kinds (encode (normal relation))
      rows_kinds = kinds_are rows ok h (normal relation) relation_valid (λ e. ap (λ rs. normal (decode c rs)) e)

      back : map (decoded_row book kinds) (normal_rows c (coded_rows k rows)) ≡ encode (normal relation)
      back = ap (map (decoded_row book kinds)) rows_are ∙ decoded_back (encode (normal relation)) rows_knows rows_kinds

      fit_same : triples_fit (normal numbers) ≡ triples_fit (normal relation)
      fit_same = fits_told k (normal numbers) ∙ ap (λ rs. triples_fit (counts_of k rs)) same_codes ∙ sym (fits_told k (normal relation))

-- what is shown of the normal form of some numbers, of which the rows are told
abbrev Settles_by : ℕ → Book → List Kind → List (List Value) → CellRows → Type 0
Settles_by c book kinds rows cells =
    HaveCounts c cells × IsCoded book kinds (normal_rows c cells) × AreEncoded c (map (decoded_row book kinds) (normal_rows c cells))
    × (decode c (map (decoded_row book kinds) (normal_rows c cells)) ≡ normal (decode c rows)) × (triples_fit (normal (relation_of c cells)) ≡ triples_fit (normal (decode c rows)))

-- Over codes of an encoded relation the normal form is the codes of the relation's.
pub settles :
    TextCodesKeepOrder → CellsKeepNormal → CellsStand →
    (c : ℕ) (book : Book) (kinds : List Kind) (cells : CellRows) →
    IsCoded book kinds cells → AreEncoded c (map (decoded_row book kinds) cells) → Settles c book kinds cells
settles keep law stand c book kinds cells is ok =
    let rows = map (decoded_row book kinds) cells in
    let keeps = keep book is.is_book in
    let result = normal_rows c (coded_rows (text_code book) rows) in
    let came : map (decoded_row book kinds) result ≡ encode (normal (decode c rows)) = back book is.is_book stand kinds c rows ok is.have_kinds is.knows law keeps in
    let there : Settles_by c book kinds rows (coded_rows (text_code book) rows) = (
      counts_there book is.is_book stand kinds c rows ok,
      record {
        is_book = is.is_book;
        are_codes = rows_are book is.is_book stand kinds c rows ok is.have_kinds is.knows law keeps ∙ ap (coded_rows (text_code book)) (sym came);
        knows = subst (KnowsRows (text_code book)) (sym came) (rows_knows book is.is_book stand kinds c rows ok is.have_kinds is.knows law keeps);
        have_kinds = subst (HaveKinds kinds) (sym came) (rows_kinds book is.is_book stand kinds c rows ok is.have_kinds is.knows law keeps);
      },
      subst (AreEncoded c) (sym came)
          (rows_encoded (column_kinds c kinds) c (normal (decode c rows)) (relation_valid book is.is_book stand kinds c rows ok is.have_kinds is.knows law keeps) (relation_wide book is.is_book stand kinds c rows ok is.have_kinds is.knows law keeps)),
      ap (decode c) came ∙ rows_back c (normal (decode c rows)) (relation_wide book is.is_book stand kinds c rows ok is.have_kinds is.knows law keeps),
      fit_same book is.is_book stand kinds c rows ok is.have_kinds is.knows law keeps,
    ) in
    let at : Settles_by c book kinds rows cells = subst (Settles_by c book kinds rows) (sym is.are_codes) there in
    record { have_counts = at.0; coded = at.1; encoded = at.2; form = at.3; fit = at.4 }
