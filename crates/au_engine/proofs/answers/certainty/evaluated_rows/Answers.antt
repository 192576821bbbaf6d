-- The rows of the tree are given, and hold in every world.
use Rattle.std.proofs.Common.{ap, sym, subst, ◌∙◌, rules, map}
use Rattle.std.specs.Prelude.{is_some}
use Rattle.au_value.specs.Order.{data_kind}
use Rattle.au_annot.specs.Pairs.{in_range}
use Rattle.au_expr.specs.Numbers.{of_values}
use Rattle.au_expr.specs.Ordinary.{ordinary}
use Rattle.au_algebra.specs.Trees.{tree}
use Rattle.au_keval.specs.Reading.{fits}
use Rattle.au_rwcounted.specs.PairAnswers.{over_pairs}
use Rattle.au_ua.specs.UaAnswers.{CountsHoldInEveryWorld, ua_answer}
use Rattle.au_ua.specs.UaTables.{ua_table}
use Rattle.au_ua.proofs.GuessFits.{ua_fits}
use Rattle.au_ua.proofs.PrintedFits.{ua_text_fits}
use Rattle.au_engine.specs.Answers.{blocks_of}
use Rattle.au_engine.specs.Certainty.{tree_ua_fits}
use Rattle.au_engine.proofs.PairTables.{can_pair, left_behind, pair_widths}
use Rattle.au_engine.proofs.answers.certainty.evaluated_rows.Goals as goal

pub ua-requires : goal.ua-requires
ua-requires c =
    can_pair (blocks_of c.args.tables.now) (tree c.args.typed.now.query) (map data_kind c.args.typed.now.kinds.items) c.as_slice.result.now c.requires.typed c.requires.positive
    (c.as_slice.ensures.value ∙ c.in-Ok.ensures.rows) c.in-Ok.ensures.tables

pub returns-in-Ok-ua-clause-rows : goal.returns-in-Ok-ua-clause-rows
returns-in-Ok-ua-clause-rows c =
    c.in-Ok-ua.ensures.rows ∙ ap (ua_answer (tree c.args.typed.now.query)) (c.as_slice.ensures.value ∙ c.in-Ok.ensures.rows)

pub returns-in-Ok-ua-clause-widths : goal.returns-in-Ok-ua-clause-widths
returns-in-Ok-ua-clause-widths c =
    pair_widths (blocks_of c.args.tables.now) (tree c.args.typed.now.query) c.args.typed.now.kinds.items c.as_slice.result.now c.in-Ok-ua.rows
    c.requires.typed (c.as_slice.ensures.value ∙ c.in-Ok.ensures.rows) c.in-Ok.ensures.tables c.in-Ok-ua.ensures.kinds

pub returns-in-Ok-ua-clause-holds : goal.returns-in-Ok-ua-clause-holds
returns-in-Ok-ua-clause-holds c =
    let same = c.as_slice.ensures.value ∙ c.in-Ok.ensures.rows in
    let q = tree c.args.typed.now.query in
    subst (CountsHoldInEveryWorld q (blocks_of c.args.tables.now)) (c.in-Ok-ua.ensures.rows ∙ ap (ua_answer q) same)
    (c.in-Ok-ua.ensures.holds (blocks_of c.args.tables.now) c.in-Ok.ensures.tables same)

pub returns-in-Ok-ua-clause-printed : goal.returns-in-Ok-ua-clause-printed
returns-in-Ok-ua-clause-printed c fit =
    ua_text_fits (tree c.args.typed.now.query) (blocks_of c.args.tables.now) c.in-Ok.ensures.tables (ap is_some c.requires.typed) c.requires.positive fit

pub returns-in-Err-Overflow-clause-overflow : goal.returns-in-Err-Overflow-clause-overflow
returns-in-Err-Overflow-clause-overflow c over =
    let same = c.as_slice.ensures.value ∙ c.in-Ok.ensures.rows in
    let q = tree c.args.typed.now.query in
    left_behind (tree_ua_fits c.args.tables.now q) (fits ordinary of_values over_pairs in_range q (map ua_table (blocks_of c.args.tables.now)))
    (λ fit. ua_fits q (blocks_of c.args.tables.now) c.in-Ok.ensures.tables (ap is_some c.requires.typed) c.requires.positive fit)
    (ap (fits ordinary of_values over_pairs in_range q) (sym same) ∙ c.in-Err-Overflow.ensures.overflow (search rules))
