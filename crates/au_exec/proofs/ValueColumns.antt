-- The codes of rows of one width, a column for each place.
use Rattle.std.specs.Prelude.{◌≡◌, ◌<◌, ◌≤◌, ◌+◌, ℕ, List, [], ◌∷◌, ◌++◌, length, map, replicate, take, get_or, pos}
use Rattle.std.specs.List.{AllByRecursion}
use Rattle.std.proofs.Common.{refl, sym, ap, ◌∙◌, subst, arith}
use Rattle.std.proofs.lemmas.List.{length-map, map_push, take_more, take_all}
use Rattle.std.proofs.lemmas.Option.{unwrap_or-slice_get}
use Rattle.au_value.specs.declared.kinds.Kind.{Kind}
use Rattle.au_value.specs.declared.value.Value.{Value}
use Rattle.au_value.specs.declared.value.Value.TheVariants.{Int}
use Rattle.au_value.specs.Order.{kind_of}
use Rattle.au_algebra.specs.Lists.{value_at}
use Rattle.au_algebra.specs.Ordinary.{Rows}
use Rattle.au_plain.specs.PlanKinds.{HaveKinds}
use Rattle.au_codes.specs.Codes.{Cells, CellRows, Code, code, coded_row, coded_rows}
use Rattle.au_columns.specs.Batches.{beside}
use Rattle.au_exec.specs.HeldRows.{first_width}

-- each row is as wide as the first
abbrev pub Wide : ℕ → Rows → Type 0
Wide w rows = AllByRecursion (λ row. length row ≡ w) rows

kinds_wide : (ks : List Kind) (rows : Rows) → HaveKinds ks rows → Wide (length ks) rows
kinds_wide ks [] h = tt
kinds_wide ks (row ∷ rows) h = (sym (length-map row kind_of) ∙ ap length h.0, kinds_wide ks rows h.1)

pub one_width : (ks : List Kind) (rows : Rows) → HaveKinds ks rows → Wide (first_width rows) rows
one_width ks [] h = tt
one_width ks (row ∷ rows) h = let wide = kinds_wide ks (row ∷ rows) h in subst (λ w. Wide w (row ∷ rows)) (sym wide.0) wide

-- the first values of each row
abbrev pub fronts : ℕ → Rows → Rows
fronts n rows = map (take n) rows

-- none of them
pub no_values : (c : Code) (rows : Rows) → replicate (length rows) [] ≡ coded_rows c (fronts 0 rows)
no_values c [] = refl
no_values c (row ∷ rows) = ap (λ (l : CellRows). [] ∷ l) (no_values c rows)

-- one more
row_more : (c : Code) (n : ℕ) (row : List Value) → n < length row → coded_row c (take n row) ++ code c (value_at row n) ∷ [] ≡ coded_row c (take (n + 1) row)
row_more c n row below =
    sym (map_push (code c) (take n row) (value_at row n))
    ∙ ap (coded_row c) (ap (λ (v : Value). take n row ++ v ∷ []) (unwrap_or-slice_get row n (Int (pos 0))) ∙ sym (take_more row n (Int (pos 0)) below))

rows_more : (c : Code) (n w : ℕ) (rows : Rows) → n < w → Wide w rows → beside (coded_rows c (fronts n rows)) (map (code c) (map (λ row. value_at row n) rows)) ≡ coded_rows c (fronts (n + 1) rows)
rows_more c n w [] below wide = refl
rows_more c n w (row ∷ rows) below wide =
    let first = row_more c n row (omega (arith, below, wide.0)) in
    λ i. first i ∷ rows_more c n w rows below wide.1 i

pub next_column :
    (c : Code) (n w : ℕ) (rows : Rows) (batch made : CellRows) (zs : Cells) → n < w → Wide w rows →
    zs ≡ map (code c) (map (λ row. value_at row n) rows) → made ≡ beside batch zs → batch ≡ coded_rows c (fronts n rows) → made ≡ coded_rows c (fronts (n + 1) rows)
next_column c n w rows batch made zs below wide is put h = put ∙ ((λ j. beside (h j) (is j)) ∙ rows_more c n w rows below wide)

-- as many numbers as rows
pub long_enough : (c : Code) (n : ℕ) (rows : Rows) → length (map (code c) (map (λ row. value_at row n) rows)) ≡ length (coded_rows c (fronts n rows))
long_enough c n rows =
    (length-map (map (λ (row : List Value). value_at row n) rows) (code c) ∙ length-map rows (λ (row : List Value). value_at row n))
    ∙ sym (length-map (fronts n rows) (coded_row c) ∙ length-map rows (take n))

-- all of them
pub all_values : (n w : ℕ) (rows : Rows) → w ≤ n → Wide w rows → fronts n rows ≡ rows
all_values n w [] most wide = refl
all_values n w (row ∷ rows) most wide =
    let first = take_all n row (omega (arith, wide.0, most)) in
    λ i. first i ∷ all_values n w rows most wide.1 i
