-- Decoding what was encoded gives the rows back, and rows that are encodings encode what they decode to.
use Rattle.std.specs.Prelude.{◌≡◌, ℕ, zero, suc, List, [], ◌∷◌, ◌++◌, length, pos}
use Rattle.std.specs.List.{AllZip}
use Rattle.std.proofs.Common.{refl, sym, ◌∙◌, ap, subst}
use Rattle.au_value.specs.declared.kinds.Kind.{Kind}
use Rattle.au_value.specs.declared.value.Value.{Value}
use Rattle.au_value.specs.declared.value.Value.TheVariants.{Int}
use Rattle.au_value.specs.Ranges.{Span, IsRangeOf}
use Rattle.au_annot.specs.Triples.{Counts}
use Rattle.au_algebra.specs.Entries.{entry}
use Rattle.au_algebra.specs.Bounded.{RangeRow, Bounded}
use Rattle.au_algebra.specs.Laws.{IsRelation}
use Rattle.au_encode.specs.Encode.{AreCounts, AreEncoded, AreEncodings, HaveColumns, IsEncoded, decode, decode_annot, decode_cells, decode_counts, decode_row, encode, encode_cells, encode_counts, encode_row}

cells_back : (rs : List Span) (t : Counts) → decode_cells (length rs) (encode_cells rs ++ encode_counts t) ≡ rs
cells_back [] t = refl
cells_back (r ∷ rs) t = λ i. r ∷ cells_back rs t i

annot_back : (rs : List Span) (t : Counts) → decode_annot (length rs) (encode_cells rs ++ encode_counts t) ≡ t
annot_back [] t = refl
annot_back (r ∷ rs) t = annot_back rs t

-- a row comes back
pub row_back : (r : RangeRow) → decode_row (length r.cells) (encode_row r) ≡ r
row_back r = λ i. entry (cells_back r.cells r.annot i) (annot_back r.cells r.annot i)

-- Decoding what was encoded gives the rows back.
pub rows_back : (c : ℕ) (rows : Bounded) → HaveColumns c rows → decode c (encode rows) ≡ rows
rows_back c [] ok = refl
rows_back c (r ∷ rows) ok =
    let first : decode_row c (encode_row r) ≡ r = ap (λ n. decode_row n (encode_row r)) (sym ok.0) ∙ row_back r in
    λ i. first i ∷ rows_back c rows ok.1 i

-- as many cells as kinds
pub cells_length : {A : Type 0} (Q : Kind → A → Type 0) (ks : List Kind) (xs : List A) → AllZip Q ks xs → length xs ≡ length ks
cells_length Q [] [] z = refl
cells_length Q [] (x ∷ xs) z = elim z [ ]
cells_length Q (k ∷ ks) [] z = elim z [ ]
cells_length Q (k ∷ ks) (x ∷ xs) z = ap suc (cells_length Q ks xs z.1)

-- the rows of a relation have as many columns as there are kinds
pub columns_of : (ks : List Kind) (rows : Bounded) → IsRelation ks rows → HaveColumns (length ks) rows
columns_of ks [] ok = tt
columns_of ks (r ∷ rows) ok = (cells_length IsRangeOf ks r.cells ok.0.cells, columns_of ks rows ok.1)

-- Decoding what was encoded gives the relation back.
pub decode-encode : (ks : List Kind) (rows : Bounded) → IsRelation ks rows → decode (length ks) (encode rows) ≡ rows
decode-encode ks rows ok = rows_back (length ks) rows (columns_of ks rows ok)

-- Rows that are encodings are those of a relation.
pub sources : (ks : List Kind) (rows : List (List Value)) → AreEncodings ks rows → (r : Bounded) × IsRelation ks r × (rows ≡ encode r)
sources ks [] e = ([], tt, refl)
sources ks (row ∷ rows) e =
    let rest = sources ks rows e.1 in (e.0.source ∷ rest.0, (e.0.valid, rest.1), λ i. e.0.encoded i ∷ rest.2 i)

cells_encoded : (ks : List Kind) (rs : List Span) (t : Counts) → AllZip IsRangeOf ks rs → AreCounts (encode_counts t) → IsEncoded (length rs) (encode_cells rs ++ encode_counts t)
cells_encoded [] [] t z ok = ok
cells_encoded [] (r ∷ rs) t z ok = elim z [ ]
cells_encoded (k ∷ ks) [] t z ok = elim z [ ]
cells_encoded (k ∷ ks) (r ∷ rs) t z ok = (z.0.range, cells_encoded ks rs t z.1 ok)

-- The encoded rows of a relation are encodings.
pub rows_encoded : (ks : List Kind) (c : ℕ) (rows : Bounded) → IsRelation ks rows → HaveColumns c rows → AreEncoded c (encode rows)
rows_encoded ks c [] ok have = tt
rows_encoded ks c (r ∷ rows) ok have =
    let counted : AreCounts (encode_counts r.annot) = (ok.0.triple.least_guess, ok.0.triple.guess_most, ok.0.present) in
    let row : IsEncoded c (encode_row r) = subst (λ n. IsEncoded n (encode_row r)) have.0 (cells_encoded ks r.cells r.annot ok.0.cells counted) in
    (row, rows_encoded ks c rows ok.1 have.1)

counts_again : (vs : List Value) → AreCounts vs → encode_counts (decode_counts vs) ≡ vs
counts_again (Int (pos l) ∷ Int (pos g) ∷ Int (pos m) ∷ []) ok = refl
counts_again _ ok = absurd ok

row_again : (c : ℕ) (vs : List Value) → IsEncoded c vs → encode_row (decode_row c vs) ≡ vs
row_again zero vs ok = counts_again vs ok
row_again (suc c) (l ∷ s ∷ h ∷ vs) ok = λ i. l ∷ s ∷ h ∷ row_again c vs ok.1 i
row_again (suc c) _ ok = absurd ok

-- Rows that are encodings encode what they decode to.
pub rows_again : (c : ℕ) (rows : List (List Value)) → AreEncoded c rows → encode (decode c rows) ≡ rows
rows_again c [] ok = refl
rows_again c (row ∷ rows) ok = λ i. row_again c row ok.0 i ∷ rows_again c rows ok.1 i
