-- The rows are those of the table's relation, of which the laws speak.
use Rattle.std.proofs.Common.{length, map, sym, subst, arith}
use Rattle.std.specs.List.{list_all}
use Rattle.std.proofs.lemmas.Grind.{common_steps}
use Rattle.std.proofs.lemmas.List.{length-map}
use Rattle.au_value.specs.Order.{data_kind}
use Rattle.au_blocks.specs.declared.column.Column.{Column}
use Rattle.au_blocks.specs.Blocks.{Candidate, Choices}
use Rattle.au_blocks.specs.Tables.{column_kinds, fits_kinds, table}
use Rattle.au_plain.specs.PlanKinds.{HaveKinds}
use Rattle.au_encode.specs.Encode.{AreEncoded, encode, encoded_kinds}
use Rattle.au_encode.proofs.Decoded.{columns_of, rows_encoded}
use Rattle.au_encode.proofs.EncodedKinds.{rows_have_kinds}
use Rattle.au_translate.specs.EncodingPieces.{encoded_apart}
use Rattle.au_translate.specs.Translate.{bounded_blocks, bounded_table}
use Rattle.au_translate.proofs.Alternatives.{passes_at}
use Rattle.au_translate.proofs.BlockRelation.{table_relation}
use Rattle.au_translate.proofs.Places.{next_rows}
use Rattle.au_translate.proofs.encodings.encoded_blocks.Goals as goal

pub push_block-requires : goal.push_block-requires
push_block-requires c =
    let t = table c.args.columns.now c.args.blocks.now in
    let fits = λ (b : Choices). list_all (λ (a : Candidate). fits_kinds (column_kinds t) a.cells) b.alternatives in
    (column_kinds t, passes_at fits t.blocks c.requires.table.rows c.loop-place.place c.get.result c.get.ensures)

pub loop-place-preserved : goal.loop-place-preserved
loop-place-preserved c =
    let done = map (λ row. row.items) c.loop-place.rows.items in
    record {
      rows = next_rows c.args.blocks.now c.loop-place.place c.get.result c.get.ensures (λ bs. encode (bounded_blocks bs)) encoded_apart done _ _ c.in_ok-push_block.ensures.rows c.loop-place.invariant.rows;
      fit = c.in_ok-push_block.ensures.fit c.loop-place.invariant.fit;
    }

pub returns-clause-rows : goal.returns-clause-rows
returns-clause-rows c = grind (arith, common_steps)

pub returns-clause-encodings : goal.returns-clause-encodings
returns-clause-encodings c =
    let t = table c.args.columns.now c.args.blocks.now in
    let relation = table_relation t c.requires.table c.requires.blocks in
    let encoded = rows_encoded (column_kinds t) (length (column_kinds t)) (bounded_table t) relation (columns_of (column_kinds t) (bounded_table t) relation) in
    subst (λ n. AreEncoded n (map (λ row. row.items) c.loop-place.rows.items)) (length-map t.columns (λ (x : Column). data_kind x.kind))
    (subst (AreEncoded (length (column_kinds t))) (sym (returns-clause-rows c)) encoded)

pub returns-clause-kinds : goal.returns-clause-kinds
returns-clause-kinds c =
    let t = table c.args.columns.now c.args.blocks.now in
    subst (HaveKinds (encoded_kinds (column_kinds t))) (sym (returns-clause-rows c)) (rows_have_kinds (column_kinds t) (bounded_table t) (table_relation t c.requires.table c.requires.blocks))
