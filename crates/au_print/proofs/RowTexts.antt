-- The text of a row, of its counts and its ranges, and of rows.
use Rattle.std.specs.Prelude.{◌≡◌, ◌<◌, ◌≤◌, ◌+◌, ◌-◌, ◌*◌, ℕ, suc, List, [], ◌∷◌, ◌++◌, drop, flat_map, get_or, length, slice_range}
use Rattle.std.specs.Fmt.{signed_decimal}
use Rattle.std.proofs.Common.{refl, sym, ap, ◌∙◌, arith, add-one, append-nil, append_assoc, subst}
use Rattle.std.proofs.lemmas.List.{drop_more}
use Rattle.std.proofs.lemmas.List.Concat.{flat_map-append}
use Rattle.au_value.specs.declared.kinds.Kind.{Kind}
use Rattle.au_value.specs.declared.value.Value.{Value}
use Rattle.au_value.specs.Ranges.{Span, range}
use Rattle.au_codes.specs.Books.{Book}
use Rattle.au_codes.specs.Codes.{Cells, CellRows}
use Rattle.au_codes.specs.CellMeaning.{cell_in}
use Rattle.au_codes.specs.Decoding.{decoded_row}
use Rattle.au_encode.specs.Encode.{IsEncoded, decode_annot, decode_cells}
use Rattle.au_print.specs.Begun.{field_behind, fields_behind, first_field}
use Rattle.au_print.specs.Texts.{cells_fields, count_fields, range_fields, record_text}
use Rattle.au_print.proofs.BegunRecords.{record_is}
use Rattle.au_print.proofs.EncodedPlaces.{RangeFrom, counts_from, range_at, range_from}
use Rattle.au_print.proofs.PlainRows.{number_is}

-- what is written of the ranges of a row from a place on, in columns of these kinds
abbrev pub ranges_text : List Kind → List Value → ℕ → List ℕ
ranges_text kinds vs place = fields_behind (cells_fields kinds (decode_cells (length kinds) (drop place vs)))

-- the range that stands next
pub here : (k : Kind) (others kinds : List Kind) (vs : List Value) (p : ℕ) → kinds ≡ k ∷ others → IsEncoded (length kinds) (drop p vs) → RangeFrom (length others) vs p
here k others kinds vs p is ok = range_from (length others) vs p (subst (λ (ks : List Kind). IsEncoded (length ks) (drop p vs)) is ok)

-- one range more
pub next_range :
    (k : Kind) (others kinds : List Kind) (vs : List Value) (p next : ℕ) (text more total : List ℕ) →
    kinds ≡ k ∷ others → IsEncoded (length kinds) (drop p vs) → next ≡ p + 3 →
    more ≡ text ++ fields_behind (range_fields k (range_at vs p)) →
    text ++ ranges_text kinds vs p ≡ total → more ++ ranges_text others vs next ≡ total
next_range k others kinds vs p next text more total is ok after put h =
    let r = here k others kinds vs p is ok in
    let mine = fields_behind (range_fields k (range_at vs p)) in
    let later = ranges_text others vs (p + 3) in
    let split : ranges_text kinds vs p ≡ mine ++ later =
    ap (λ (ks : List Kind). ranges_text ks vs p) is
    ∙ ap (λ (rs : List Span). fields_behind (cells_fields (k ∷ others) rs)) r.cells
    ∙ flat_map-append field_behind (range_fields k (range_at vs p)) (cells_fields others (decode_cells (length others) (drop (p + 3) vs))) in
    (λ i. put i ++ ranges_text others vs (after i)) ∙ append_assoc text mine later ∙ ap (λ (t : List ℕ). text ++ t) (sym split) ∙ h

-- the texts of counts that stand for a triple
pub counts_text : (book : Book) (ks : List Kind) (zs : Cells) (c n : ℕ) → IsEncoded c (decoded_row book ks zs) → n ≡ 3 * c →
    count_fields (decode_annot c (decoded_row book ks zs)) ≡ signed_decimal (cell_in zs n) ∷ signed_decimal (cell_in zs (n + 1)) ∷ signed_decimal (cell_in zs (n + 2)) ∷ []
counts_text book ks zs c n ok at =
    let r = counts_from c (decoded_row book ks zs) n ok at in
    let l = number_is book ks zs n r.least r.at_least in
    let g = number_is book ks zs (n + 1) r.guess r.at_guess in
    let m = number_is book ks zs (n + 2) r.most r.at_most in
    ap count_fields r.is ∙ (λ i. signed_decimal (sym l i) ∷ signed_decimal (sym g i) ∷ signed_decimal (sym m i) ∷ [])

-- what is written of three counts
pub counted :
    (old first second : List ℕ) (a b c x y z : List ℕ) →
    first ≡ old ++ first_field x → x ≡ a → second ≡ first ++ field_behind y → y ≡ b → z ≡ c →
    second ++ field_behind z ≡ old ++ (first_field a ++ fields_behind (b ∷ c ∷ []))
counted old first second a b c x y z one xa two yb zc =
    let f = first_field a in
    let g = field_behind b in
    let h = field_behind c in
    let begun : first ≡ old ++ f = one ∙ ap (λ (t : List ℕ). old ++ first_field t) xa in
    let added : second ≡ (old ++ f) ++ g = two ∙ (λ i. begun i ++ field_behind (yb i)) in
    (λ i. added i ++ field_behind (zc i))
    ∙ append_assoc (old ++ f) g h
    ∙ append_assoc old f (g ++ h)
    ∙ ap (λ (t : List ℕ). old ++ (f ++ (g ++ t))) (sym (append-nil h))

-- a record that was written field by field
pub row_is :
    (old begun ranged l g m : List ℕ) (fields all : List (List ℕ)) →
    all ≡ l ∷ g ∷ m ∷ fields → begun ≡ old ++ (first_field l ++ fields_behind (g ∷ m ∷ [])) →
    ranged ≡ begun ++ fields_behind fields → ranged ++ 10 ∷ [] ≡ old ++ record_text all
row_is old begun ranged l g m fields all is start ranges =
    let both = fields_behind (g ∷ m ∷ []) in
    let rest = fields_behind fields in
    let whole = first_field l ++ fields_behind (g ∷ m ∷ fields) in
    let body : (first_field l ++ both) ++ rest ≡ whole =
    append_assoc (first_field l) both rest ∙ ap (λ (t : List ℕ). first_field l ++ t) (sym (flat_map-append field_behind (g ∷ m ∷ []) fields)) in
    let left : ranged ≡ old ++ whole =
    ranges ∙ ap (λ (t : List ℕ). t ++ rest) start ∙ append_assoc old (first_field l ++ both) rest ∙ ap (λ (t : List ℕ). old ++ t) body in
    ap (λ (t : List ℕ). t ++ 10 ∷ []) left ∙ append_assoc old whole (10 ∷ []) ∙ ap (λ (t : List ℕ). old ++ t) (record_is l g (m ∷ fields) ∙ ap record_text (sym is))

-- one row more
pub next_row : (f : Cells → List ℕ) (rows : CellRows) (n end : ℕ) (text more total : List ℕ) →
    n < end → end ≤ length rows → more ≡ text ++ f (get_or rows n []) →
    text ++ flat_map f (slice_range rows n end) ≡ total → more ++ flat_map f (slice_range rows (n + 1) end) ≡ total
next_row f rows n end text more total below within put h =
    let there : n < length rows = omega (arith, below, within) in
    let one : end - n ≡ suc (end - (n + 1)) = omega (arith, below) in
    let front : slice_range rows n end ≡ get_or rows n [] ∷ slice_range rows (n + 1) end = rw (one, drop_more rows n [] there, add-one) refl in
    ap (λ (t : List ℕ). t ++ flat_map f (slice_range rows (n + 1) end)) put
    ∙ append_assoc text (f (get_or rows n [])) (flat_map f (slice_range rows (n + 1) end))
    ∙ ap (λ (rs : CellRows). text ++ flat_map f rs) (sym front)
    ∙ h
