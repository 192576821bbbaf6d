-- The cells of a column, one record more.
use Rattle.std.proofs.Common.{◌≡◌, ◌∙◌, ℕ, ◌+◌, ◌<◌, true, List, [], ◌∷◌, ◌++◌, length, map, get_or, drop, ℤ, Some, Bor, refl, sym, ap, append_assoc}
use Rattle.std.proofs.lemmas.List.{drop_more, map-append}
use Rattle.au_value.specs.declared.kinds.Kind.{Kind}
use Rattle.au_value.specs.declared.kinds.Kind.TheVariants as kind
use Rattle.au_value.specs.declared.value.Value.TheVariants as value
use Rattle.au_value.specs.Ranges.{Span, certain}
use Rattle.au_csv.specs.Texts.{Record}
use Rattle.au_blocks.specs.declared.format.Format.{Format}
use Rattle.au_blocks.specs.Headers.{cells_of}
use Rattle.au_blocks.specs.Entries.{field}
use Rattle.au_blocks.specs.Columns.{column_cells, column_texts}
use Rattle.au_blocks.specs.Read.{cell}
use Rattle.au_blocks.specs.Spellings.{is_number_kind, number_written}

-- the cell of a number
pub number-cell : (k : Kind) (text : List ℕ) (n : ℤ) → is_number_kind k ≡ true → number_written k text ≡ Some n → certain (value.Int n) ≡ cell (k, text)
number-cell kind.Int text n is written = rw written refl
number-cell (kind.Dec scale) text n is written = rw written refl
number-cell kind.Text text n is written = cc
number-cell kind.Flag text n is written = cc

-- the cells so far, of values that are told by h, with those of the records that are left
pub filled-more : {Y : Type 0} (h : Y → Span) (f : Format) (k : Kind) (place : ℕ) (rows : List (Bor Record)) (i : ℕ) (d : Bor Record) (y : Y) (done : List Y) (whole : List Span) → i < length rows
    → h y ≡ cell (k, field place (cells_of f (get_or rows i d).now)) → map h done ++ column_cells f k place (drop i rows) ≡ whole
    → map h (done ++ y ∷ []) ++ column_cells f k place (drop (i + 1) rows) ≡ whole
filled-more h f k place rows i d y done whole within is so_far =
    ap (λ (cells : List Span). cells ++ column_cells f k place (drop (i + 1) rows)) (map-append h done (y ∷ []))
    ∙ append_assoc (map h done) (h y ∷ []) (column_cells f k place (drop (i + 1) rows))
    ∙ ap (λ (cell : Span). map h done ++ (cell ∷ column_cells f k place (drop (i + 1) rows))) is
    ∙ ap (λ (rs : List (Bor Record)). map h done ++ column_cells f k place rs) (sym (drop_more rows i d within))
    ∙ so_far

-- the texts of a column are its cells
pub text-cells : (f : Format) (place : ℕ) (rows : List (Bor Record)) → map (λ (t : List ℕ). certain (value.Text t)) (column_texts f place rows) ≡ column_cells f kind.Text place rows
text-cells f place [] = refl
text-cells f place (r ∷ rows) = ap (λ (cells : List Span). certain (value.Text (field place (cells_of f r.now))) ∷ cells) (text-cells f place rows)
