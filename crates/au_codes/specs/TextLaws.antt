-- What holds of the code of texts.
use Rattle.std.specs.Prelude.{◌≡◌, ℕ, List, [], map, slice_get, Some, true, pos}
use Rattle.au_value.specs.declared.value.Value.{Value}
use Rattle.au_value.specs.Order.{kind_of}
use Rattle.au_algebra.specs.Ordinary.{Rows}
use Rattle.au_physical.specs.Physicals.{PhysicalTree}
use Rattle.au_codes.specs.Codes.{KeepsOrder, coded_row, KnowsRow, KnowsTables}
use Rattle.au_codes.specs.CodedPlans.{KnowsPlan}
use Rattle.au_codes.specs.Books.{Book, IsCodebook, IsBookOf, has, rank}
use Rattle.au_codes.specs.TextCodes.{is_short, short_number, text_code, text_number}
use Rattle.au_codes.specs.Decoding.{decoded_row}
use Rattle.au_codes.specs.Gathering.{with_tables, with_plan}

-- it keeps the order of texts
abbrev pub TextCodesKeepOrder : Type 0
TextCodesKeepOrder = (book : Book) → IsCodebook book → KeepsOrder (text_code book)

-- the number of a short text needs no book
abbrev pub ShortNeedNoBook : Type 0
ShortNeedNoBook = (book : Book) (w : List ℕ) → is_short w ≡ true → short_number w ≡ Some (pos (text_number book w))

-- a text of the book stands at the place of its rank
abbrev pub RanksArePlaces : Type 0
RanksArePlaces = (book : Book) (w : List ℕ) → IsCodebook book → has book w ≡ true → slice_get book (rank book w) ≡ Some w

-- the cells of a row stand for it
abbrev pub CellsStand : Type 0
CellsStand =
    (book : Book) (row : List Value) →
    IsCodebook book → KnowsRow (text_code book) row → decoded_row book (map kind_of row) (coded_row (text_code book) row) ≡ row

-- a book of the long texts of tables and of a plan knows both
abbrev pub GatheredAreKnown : Type 0
GatheredAreKnown =
    (p : PhysicalTree) (ts : List Rows) (book : Book) →
    IsBookOf (with_plan (with_tables [] ts) p) book → KnowsTables (text_code book) ts × KnowsPlan (text_code book) p
