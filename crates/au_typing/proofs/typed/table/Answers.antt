-- A table that is found has its columns.
use Rattle.std.proofs.Common.{◌≡◌, ◌∙◌, ap, sym, rules, get_or}
use Rattle.au_typing.proofs.Sides.{the_table, table_found, table_missing}
use Rattle.au_typing.proofs.typed.table.Goals as goal

pub returns-in_ok-columns-in-Some : goal.returns-in_ok-columns-in-Some
returns-in_ok-columns-in-Some c =
    let place = c.in-Some.place in
    let schema = c.index-schemas-place.result in
    let there : schema ≡ get_or c.args.schemas.now place schema = search (rules, c.index-schemas-place.is) in
    ap (the_table place) (c.in_ok-columns-in-Some.ensures ∙ c.as_slice.ensures.value ∙ ap (λ s. s.columns.items) (sym there))
    ∙ table_found c.args.schemas.now c.args.word.now c.args.at place schema (sym c.table_of.ensures.place ∙ c.in-Some.is) c.in-Some.ensures.within there

pub returns-in-None : goal.returns-in-None
returns-in-None c = table_missing c.args.schemas.now c.args.word.now c.args.at (sym c.table_of.ensures.place ∙ c.in-None.is)
