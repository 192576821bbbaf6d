-- The long texts of rows in two parts.
use Rattle.std.specs.Prelude.{◌≡◌, [], ◌∷◌, ◌++◌}
use Rattle.std.proofs.Common.{refl}
use Rattle.au_algebra.specs.Ordinary.{Rows}
use Rattle.au_codes.specs.Books.{Book}
use Rattle.au_codes.specs.Gathering.{with_row, with_rows}

-- of rows in two parts
pub rows_append : (texts : Book) (xs ys : Rows) → with_rows texts (xs ++ ys) ≡ with_rows (with_rows texts xs) ys
rows_append texts [] ys = refl
rows_append texts (row ∷ xs) ys = rows_append (with_row texts row) xs ys
