-- An answer whose rows are held as codes: the plain rows for which its numbers stand, and the texts of its rows.
use Rattle.std.specs.Prelude.{ℕ, List, [], flat_map, get_or, length, map}
use Rattle.au_value.specs.declared.value.Value.{Value}
use Rattle.au_algebra.specs.Ordinary.{Rows}
use Rattle.au_codes.specs.Codes.{Cells, CellRows}
use Rattle.au_codes.specs.Decoding.{decoded_row}
use Rattle.au_encode.specs.Encode.{decode_row}
use Rattle.au_print.specs.declared.lent.LentAnswer.{LentAnswer}
use Rattle.au_print.specs.Texts.{record_text, row_fields}

-- the plain row for which numbers stand, and the plain rows
abbrev pub plain_row : LentAnswer → Cells → List Value
plain_row a cells = decoded_row a.book.now a.value_kinds.now cells

abbrev pub plain_rows : LentAnswer → Rows
plain_rows a = map (plain_row a) a.batch.now

-- the values for which the row in a place stands
abbrev pub row_values : LentAnswer → ℕ → List Value
row_values a row = plain_row a (get_or a.batch.now row [])

-- the record of a row, and those of rows
abbrev pub cells_text : LentAnswer → Cells → List ℕ
cells_text a cells = record_text (row_fields a.kinds.now (decode_row (length a.kinds.now) (plain_row a cells)))

abbrev pub rows_text : LentAnswer → CellRows → List ℕ
rows_text a rows = flat_map (cells_text a) rows
