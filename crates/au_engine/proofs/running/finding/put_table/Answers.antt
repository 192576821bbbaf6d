-- The table is there, and what is read of it stands behind the inputs.
use Rattle.std.proofs.Common.{◌++◌, [], ◌∷◌, ◌∙◌, ap, subst, sym}
use Rattle.au_blocks.specs.Tables.{IsBlockTable, table}
use Rattle.au_encode.specs.Encode.{encode}
use Rattle.au_plain.specs.PlanKinds.{FitRows}
use Rattle.au_translate.specs.Translate.{bounded_blocks}
use Rattle.au_program.specs.KeptRows.{kept_rows}
use Rattle.au_engine.specs.Answers.{blocks_of}
use Rattle.au_engine.proofs.FoundSources.{one_read}
use Rattle.au_engine.proofs.TableRelations.{table_at}
use Rattle.au_engine.proofs.running.finding.put_table.Goals as goal

pub read_numbers-requires : goal.read_numbers-requires
read_numbers-requires c = subst IsBlockTable (λ i. table (sym c.columns-columns.ensures.of i) (sym c.blocks-blocks.ensures.of i)) c.columns-columns.ensures.is_table

pub blocks_kept-requires-clause-table : goal.blocks_kept-requires-clause-table
blocks_kept-requires-clause-table c = subst IsBlockTable (λ i. table (sym c.columns-columns.ensures.of i) (sym c.blocks-blocks.ensures.of i)) c.columns-columns.ensures.is_table

pub returns-in-Ok : goal.returns-in-Ok
returns-in-Ok c =
    let places = c.args.kept.now in
    one_read (blocks_of c.args.tables.now) c.args.place places c.in-Some.table.now.1 c.args.inputs.items c.push.new.self.items
    (table_at c.args.tables.now c.args.place c.in-Some.table.now c.in-Some.ensures.lookup.3.0 c.in-Some.ensures.lookup.1)
    c.columns-columns.ensures.is_table
    (subst (λ blocks. FitRows (encode (bounded_blocks blocks))) c.blocks-blocks.ensures.of c.read_numbers.ensures)
    (c.in_ok-push-in-Ok.ensures.items ∙ ap (λ rows. c.args.inputs.items ++ rows ∷ []) (c.in-Ok.ensures ∙ ap (λ blocks. kept_rows places (encode (bounded_blocks blocks))) c.blocks-blocks.ensures.of))
