-- Rows of numbers that are codes of rows of values.
use Rattle.std.specs.Prelude.{◌≡◌, List, map}
use Rattle.au_value.specs.declared.kinds.Kind.{Kind}
use Rattle.au_plain.specs.PlanKinds.{HaveKinds}
use Rattle.au_codes.specs.Books.{Book, IsCodebook}
use Rattle.au_codes.specs.Codes.{CellRows, KnowsRows, coded_rows}
use Rattle.au_codes.specs.Decoding.{decoded_row}
use Rattle.au_codes.specs.TextCodes.{text_code}

-- Rows of cells are the codes of rows of these kinds, whose texts the book knows.
pub record IsCoded (book : Book) (kinds : List Kind) (cells : CellRows) : Type 0 where
  pub is_book : IsCodebook book
  pub are_codes : cells ≡ coded_rows (text_code book) (map (decoded_row book kinds) cells)
  pub knows : KnowsRows (text_code book) (map (decoded_row book kinds) cells)
  pub have_kinds : HaveKinds kinds (map (decoded_row book kinds) cells)
