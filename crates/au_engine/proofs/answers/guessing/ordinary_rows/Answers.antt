-- The rows of the guess world are given, each with its number of copies.
use Rattle.std.proofs.Common.{ap, map, sym, subst, ◌∙◌, rules}
use Rattle.std.specs.List.{AllZip, list_all}
use Rattle.au_value.specs.Order.{data_kind}
use Rattle.au_value.specs.Numeral.{is_i128}
use Rattle.au_algebra.specs.Counted.{StandsFor}
use Rattle.au_algebra.specs.Trees.{tree}
use Rattle.au_engine.specs.Answers.{blocks_of, guess_tables}
use Rattle.au_engine.proofs.GuessTables.{all_stand, can_guess, guess_columns, present_numbers}
use Rattle.au_engine.proofs.answers.guessing.ordinary_rows.Goals as goal

pub ordinary-requires : goal.ordinary-requires
ordinary-requires c =
    can_guess (blocks_of c.args.tables.now) (tree c.args.typed.now.query) (map data_kind c.args.typed.now.kinds.items) c.as_slice.result.now c.requires
    (c.as_slice.ensures.value ∙ c.in-Ok.ensures.rows) c.in-Ok.ensures.tables

pub returns-in-Ok-ordinary-clause-rows : goal.returns-in-Ok-ordinary-clause-rows
returns-in-Ok-ordinary-clause-rows c =
    let ws = guess_tables c.args.tables.now in
    let same = c.as_slice.ensures.value ∙ c.in-Ok.ensures.rows in
    c.in-Ok-ordinary.ensures.stands ws (subst (λ ts. AllZip StandsFor ts ws) (sym same) (all_stand (blocks_of c.args.tables.now)))

pub returns-in-Ok-ordinary-clause-widths : goal.returns-in-Ok-ordinary-clause-widths
returns-in-Ok-ordinary-clause-widths c =
    guess_columns (blocks_of c.args.tables.now) (tree c.args.typed.now.query) c.args.typed.now.kinds.items c.as_slice.result.now c.in-Ok-ordinary.rows
    c.requires (c.as_slice.ensures.value ∙ c.in-Ok.ensures.rows) c.in-Ok.ensures.tables c.in-Ok-ordinary.ensures.kinds

pub returns-in-Err-Overflow-clause-overflow : goal.returns-in-Err-Overflow-clause-overflow
returns-in-Err-Overflow-clause-overflow c over =
    let same = c.as_slice.ensures.value ∙ c.in-Ok.ensures.rows in
    let present = present_numbers (tree c.args.typed.now.query) (blocks_of c.args.tables.now) c.as_slice.result.now same c.ordinary.ensures.present in
    ap (list_all is_i128) (sym present) ∙ c.in-Err-Overflow.ensures.overflow (search (rules, over))
