-- The texts of a row's cells, one cell after the other.
use Rattle.std.specs.Prelude.{◌≡◌, ◌≤◌, Some, None, List, [], ◌∷◌, ◌++◌, length, slice_get, unwrap_or, is_some}
use Rattle.std.proofs.Common.{arith, refl, sym, ap, suc, true≢false}
use Rattle.au_value.specs.declared.kinds.Kind.{Kind}
use Rattle.au_value.specs.Ranges.{Span}
use Rattle.au_print.specs.Tables.{cell_text, cell_texts}

pub no_cells : (kinds : List Kind) → cell_texts kinds [] ≡ []
no_cells [] = refl
no_cells (k ∷ kinds) = refl

-- one cell more, of the column at its place
pub cells_push : (kinds : List Kind) (xs : List Span) (k : Kind) (r : Span) → slice_get kinds (length xs) ≡ Some k → cell_texts kinds (xs ++ r ∷ []) ≡ cell_texts kinds xs ++ cell_text k r ∷ []
cells_push [] xs k r e = absurd (true≢false (sym (ap is_some e)))
cells_push (j ∷ kinds) [] k r e = λ i. cell_text (ap (λ o. unwrap_or o j) e i) r ∷ no_cells kinds i
cells_push (j ∷ kinds) (x ∷ xs) k r e = ap (λ ts. cell_text j x ∷ ts) (cells_push kinds xs k r e)

-- a cell past the last column has no text
pub cells_past : (kinds : List Kind) (xs : List Span) (r : Span) → slice_get kinds (length xs) ≡ None → cell_texts kinds (xs ++ r ∷ []) ≡ cell_texts kinds xs
cells_past [] xs r e = refl
cells_past (j ∷ kinds) [] r e = absurd (true≢false (ap is_some e))
cells_past (j ∷ kinds) (x ∷ xs) r e = ap (λ ts. cell_text j x ∷ ts) (cells_past kinds xs r e)

pub cells_size : (kinds : List Kind) (xs : List Span) → length xs ≤ length kinds → length (cell_texts kinds xs) ≡ length xs
cells_size [] [] l = refl
cells_size [] (x ∷ xs) l = absurd (omega (arith, l))
cells_size (j ∷ kinds) [] l = refl
cells_size (j ∷ kinds) (x ∷ xs) l = ap suc (cells_size kinds xs (omega (arith, l)))
