-- The blocks are those of the table, and so are the columns.
use Rattle.std.specs.Prelude.{IfOk}
use Rattle.std.proofs.Common.{◌≡◌, length, map, subst, sym}
use Rattle.au_blocks.specs.Tables.{IsBlockTable, column_kinds, table}
use Rattle.au_plain.specs.PlanKinds.{HaveKinds}
use Rattle.au_encode.specs.Encode.{AreEncoded, encode, encoded_kinds}
use Rattle.au_translate.specs.Translate.{bounded_blocks}
use Rattle.au_translate.proofs.encodings.encoded.Goals as goal

pub encoded_blocks-requires : goal.encoded_blocks-requires
encoded_blocks-requires c = subst IsBlockTable (λ i. table (sym c.columns.ensures.of i) (sym c.blocks-2.ensures.of i)) c.columns.ensures.is_table

pub returns-clause-rows : goal.returns-clause-rows
returns-clause-rows c =
    subst (λ blocks. IfOk c.encoded_blocks.result (λ rows. map (λ row. row.items) rows.items ≡ encode (bounded_blocks blocks))) c.blocks-2.ensures.of c.encoded_blocks.ensures.rows

pub returns-clause-encodings : goal.returns-clause-encodings
returns-clause-encodings c =
    subst (λ columns. IfOk c.encoded_blocks.result (λ rows. AreEncoded (length columns) (map (λ row. row.items) rows.items))) c.columns.ensures.of c.encoded_blocks.ensures.encodings

pub returns-clause-kinds : goal.returns-clause-kinds
returns-clause-kinds c =
    subst (λ columns. IfOk c.encoded_blocks.result (λ rows. HaveKinds (encoded_kinds (column_kinds (table columns c.args.table.now.blocks))) (map (λ row. row.items) rows.items))) c.columns.ensures.of
    c.encoded_blocks.ensures.kinds
