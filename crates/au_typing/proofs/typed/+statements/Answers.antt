-- Each statement from its parts.
use Rattle.std.proofs.Common.{◌≡◌, ◌+◌, ◌≤◌, ◌<◌, ◌∙◌, ap, sym, subst, arith, rules, length, map}
use Rattle.std.specs.Prelude.{IfErr, IfOk, unwrap_or, flat_map}
use Rattle.au_parse.specs.Statements.{sources_of}
use Rattle.au_parse.specs.Views.{statement_tree}
use Rattle.au_typing.specs.Queries.{relations, table_place, table_typing, typing, Refuses}
use Rattle.au_typing.specs.Judged.{source_faults, source_item}
use Rattle.au_typing.specs.Results.{clauses_of, from_view}
use Rattle.au_typing.proofs.Sizes.{query_size, sources_size}
use Rattle.au_typing.proofs.Sources.{faults_within, name_or, select_is, select_judged, select_refuses, select_size, shown, shown_fault, size_within, source_size, table_item}
use Rattle.au_typing.proofs.typed.+statements.Goals as goal

pub from_part-returns-in-Table-clause-item : goal.from_part-returns-in-Table-clause-item
from_part-returns-in-Table-clause-item t c =
    let tables = relations c.args.schemas.now in
    let named : c.unwrap_or.result.now ≡ unwrap_or c.in-Table.alias c.in-Table.word =
    ap (λ b. b.now) c.unwrap_or.ensures ∙ name_or c.as_ref.result _ ∙ ap (λ o. unwrap_or o c.in-Table.word) c.as_ref.ensures.value in
    subst (λ item. IfOk c.visible.result (λ p. from_view p ≡ item)) (table_item tables c.in-Table.at c.in-Table.word c.unwrap_or.result.now c.in-Table.alias c.args.source.now c.in-Table.is named)
    (shown (table_typing tables c.in-Table.at (table_place tables c.in-Table.word)) c.in-Table.at c.unwrap_or.result.now c.table-part.result c.visible.result c.table-part.ensures c.visible.ensures)

pub from_part-returns-in-Table-clause-fault : goal.from_part-returns-in-Table-clause-fault
from_part-returns-in-Table-clause-fault t c =
    let tables = relations c.args.schemas.now in
    subst (λ s. IfErr c.visible.result (Refuses (source_faults tables s))) (sym c.in-Table.is)
    (shown_fault (table_typing tables c.in-Table.at (table_place tables c.in-Table.word)) c.in-Table.at c.unwrap_or.result.now c.table-part.result c.visible.result c.table-part.ensures c.visible.ensures)

pub query-sources-requires : goal.query-sources-requires
query-sources-requires t c =
    let size : query_size (statement_tree c.args.statement.now) ≡ 1 + sources_size (sources_of c.in-Select.part.value.sources.items) = select_size c.in-Select.part c.args.statement.now c.in-Select.is in
    let list : sources_size (sources_of c.as_slice.result.now) ≡ sources_size (sources_of c.in-Select.part.value.sources.items) =
    ap (λ xs. sources_size (sources_of xs)) c.as_slice.ensures.value ∙ ap (λ p. sources_size (sources_of p.sources.items)) c.deref.ensures in
    let dec = c.decreases in
    (omega arith, tt)

pub query-returns-in-Ok : goal.query-returns-in-Ok
query-returns-in-Ok t c =
    let tables = relations c.args.schemas.now in
    let part = c.in-Select.part in
    let list : c.as_slice.result.now ≡ part.value.sources.items = c.as_slice.ensures.value ∙ ap (λ p. p.sources.items) c.deref.ensures in
    let same : c.deref-in-Ok.result.now ≡ part.value = c.deref-in-Ok.ensures in
    let from : map from_view c.in-Ok.from.items ≡ map (source_item tables) part.value.sources.items = c.in-Ok.ensures.items ∙ ap (map (source_item tables)) list in
    select_judged (typing tables (statement_tree c.args.statement.now)) tables (clauses_of part.value) part.value.sources.items (map from_view c.in-Ok.from.items) c.select.result from
    (select_is tables part c.args.statement.now c.in-Select.is) (rw same at c.select.ensures.part) (rw same at c.select.ensures.fault)

pub query-returns-in-Err : goal.query-returns-in-Err
query-returns-in-Err t c =
    let tables = relations c.args.schemas.now in
    let part = c.in-Select.part in
    let list : c.as_slice.result.now ≡ part.value.sources.items = c.as_slice.ensures.value ∙ ap (λ p. p.sources.items) c.deref.ensures in
    select_refuses (typing tables (statement_tree c.args.statement.now)) tables (clauses_of part.value) part.value.sources.items c.in-Err.fault (select_is tables part c.args.statement.now c.in-Select.is)
    (subst (λ xs. Refuses (flat_map (source_faults tables) xs) c.in-Err.fault) list c.in-Err.ensures.fault)

pub sources-from_part-requires : goal.sources-from_part-requires
sources-from_part-requires t c =
    let within : c.loop-source.source-index < length c.args.list.now = search (rules, c.loop-source-test.true) in
    let size : source_size c.source-item.result ≤ sources_size (sources_of c.args.list.now) = size_within c.args.list.now c.loop-source.source-index c.source-item.result within (search (rules, c.source-item.is)) in
    let dec = c.decreases in
    (omega arith, tt)

pub sources-returns-in-Err-clause-fault : goal.sources-returns-in-Err-clause-fault
sources-returns-in-Err-clause-fault t c =
    faults_within (source_faults (relations c.args.schemas.now)) c.args.list.now c.loop-source.source-index c.source-item.result c.in-Err.fault
    (search (rules, c.loop-source-test.true)) (search (rules, c.source-item.is)) c.in-Err.ensures.fault
