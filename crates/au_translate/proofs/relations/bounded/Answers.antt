-- The blocks are those of the table, of whose relation the laws speak.
use Rattle.std.specs.Prelude.{IfOk}
use Rattle.std.proofs.Common.{◌≡◌, subst, sym}
use Rattle.std.proofs.lemmas.Result.{IfOk-weaker}
use Rattle.au_blocks.specs.Tables.{IsBlockTable, column_kinds, table}
use Rattle.au_blocks.specs.Worlds.{rows_in}
use Rattle.au_algebra.specs.Distribution.{Bounds}
use Rattle.au_algebra.specs.Laws.{Guesses, IsRelation}
use Rattle.au_translate.specs.Translate.{bounded_blocks, guess_choices}
use Rattle.au_translate.proofs.BlockRelation.{table_relation, table_bounds, table_guesses}
use Rattle.au_translate.proofs.relations.bounded.Goals as goal

pub bounded_rows-requires : goal.bounded_rows-requires
bounded_rows-requires c = subst IsBlockTable (λ i. table (sym c.columns.ensures.of i) (sym c.blocks-2.ensures.of i)) c.columns.ensures.is_table

pub returns-clause-rows : goal.returns-clause-rows
returns-clause-rows c = subst (λ blocks. IfOk c.bounded_rows.result (λ r. r ≡ bounded_blocks blocks)) c.blocks-2.ensures.of c.bounded_rows.ensures

pub returns-clause-relation : goal.returns-clause-relation
returns-clause-relation c =
    let t = c.args.table.now in
    let ok = c.columns.ensures.is_table in
    IfOk-weaker c.bounded_rows.result _ _ (λ r is. subst (IsRelation (column_kinds t)) (sym is) (table_relation t ok.table ok.blocks)) (returns-clause-rows c)

pub returns-clause-bounds : goal.returns-clause-bounds
returns-clause-bounds c =
    let t = c.args.table.now in
    let ok = c.columns.ensures.is_table in
    IfOk-weaker c.bounded_rows.result _ _ (λ r is w world. subst (λ r. Bounds r (rows_in t.blocks w)) (sym is) (table_bounds t w ok.table ok.blocks world)) (returns-clause-rows c)

pub returns-clause-guesses : goal.returns-clause-guesses
returns-clause-guesses c =
    let t = c.args.table.now in
    let ok = c.columns.ensures.is_table in
    IfOk-weaker c.bounded_rows.result _ _ (λ r is. subst (λ r. Guesses r (rows_in t.blocks (guess_choices t))) (sym is) (table_guesses t ok.blocks)) (returns-clause-rows c)
