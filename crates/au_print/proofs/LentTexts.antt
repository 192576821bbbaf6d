-- The text of an answer whose rows are held as codes.
use Rattle.std.specs.Prelude.{◌≡◌, ◌++◌, ◌-◌, ℕ, List, length, map, slice_range}
use Rattle.std.proofs.Common.{sym, arith}
use Rattle.std.proofs.lemmas.List.{take_all}
use Rattle.au_codes.specs.Codes.{Cells, CellRows}
use Rattle.au_encode.specs.Encode.{decode, decode_row}
use Rattle.au_print.specs.declared.lent.LentAnswer.{LentAnswer}
use Rattle.au_print.specs.Lent.{plain_row, plain_rows, rows_text}
use Rattle.au_print.specs.Texts.{csv_text, header_fields, record_text}
use Rattle.au_print.proofs.CertainRows.{map_map}
use Rattle.au_print.proofs.Csv.{csv_text_is}

pub all_rows : (rows : CellRows) (n : ℕ) → n ≡ length rows → slice_range rows 0 n ≡ rows
all_rows rows n is = take_all (n - 0) rows (omega (arith, is))

pub lent_text_is : (a : LentAnswer) (front end : List ℕ) → front ≡ record_text (header_fields a.names.now) → end ≡ front ++ rows_text a a.batch.now
    → end ≡ csv_text a.names.now a.kinds.now (decode (length a.kinds.now) (plain_rows a))
lent_text_is a front end titled behind =
    let columns = length a.kinds.now in
    let goes = λ (cells : Cells). decode_row columns (plain_row a cells) in
    let view : map goes a.batch.now ≡ decode columns (plain_rows a) = sym (map_map (decode_row columns) (plain_row a) a.batch.now) in
    csv_text_is goes a.names.now a.kinds.now a.batch.now (decode columns (plain_rows a)) front end view titled behind
