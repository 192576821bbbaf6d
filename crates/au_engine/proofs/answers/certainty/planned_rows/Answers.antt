-- The rows that are found are those of the answer over pairs, in some order.
use Rattle.std.specs.Prelude.{is_some}
use Rattle.std.proofs.Common.{ap, inr, length, map}
use Rattle.std.proofs.lemmas.List.{length-map}
use Rattle.au_value.specs.Order.{data_kind}
use Rattle.au_algebra.specs.Trees.{tree}
use Rattle.au_exec.specs.HeldRows.{rows_of}
use Rattle.au_ua.proofs.EveryWorld.{ua_answer_holds}
use Rattle.au_ua.proofs.PrintedFits.{ua_text_fits}
use Rattle.au_engine.specs.Answers.{blocks_of}
use Rattle.au_engine.proofs.PairPlans.{are_counted, found_pairs, found_rows, found_widths}
use Rattle.au_engine.proofs.answers.certainty.planned_rows.Goals as goal

pub counted_rows-requires-clause-typed : goal.counted_rows-requires-clause-typed
counted_rows-requires-clause-typed g c κs within = ap is_some c.requires.typed

pub counted_rows-requires-clause-counts : goal.counted_rows-requires-clause-counts
counted_rows-requires-clause-counts g c κs within = inr c.requires.positive

pub counted_rows-requires-clause-inputs : goal.counted_rows-requires-clause-inputs
counted_rows-requires-clause-inputs g c κs within = are_counted (blocks_of c.args.tables.now) c.in-Ok.inputs.items c.in-Ok.ensures.inputs c.in-Ok.ensures.tables

pub read_pairs-requires : goal.read_pairs-requires
read_pairs-requires g c =
    found_pairs (blocks_of c.args.tables.now) c.in-Ok.inputs.items c.in-Ok.ensures.inputs c.in-Ok.ensures.tables
    (tree c.args.typed.now.query) (map data_kind c.args.typed.now.kinds.items) c.requires.typed c.requires.positive
    (rows_of c.in-Ok-counted_rows.rows) c.in-Ok-counted_rows.ensures

pub returns-in-Ok-read_pairs-clause-rows : goal.returns-in-Ok-read_pairs-clause-rows
returns-in-Ok-read_pairs-clause-rows g c =
    found_rows (blocks_of c.args.tables.now) c.in-Ok.inputs.items c.in-Ok.ensures.inputs c.in-Ok.ensures.tables
    (tree c.args.typed.now.query) (map data_kind c.args.typed.now.kinds.items) c.requires.typed c.requires.positive
    (rows_of c.in-Ok-counted_rows.rows) c.in-Ok-counted_rows.ensures c.in-Ok-read_pairs.rel c.in-Ok-read_pairs.ensures

pub returns-in-Ok-read_pairs-clause-widths : goal.returns-in-Ok-read_pairs-clause-widths
returns-in-Ok-read_pairs-clause-widths g c =
    let kinds = c.args.typed.now.kinds.items in
    found_widths (blocks_of c.args.tables.now) c.in-Ok.inputs.items c.in-Ok.ensures.inputs c.in-Ok.ensures.tables
    (tree c.args.typed.now.query) (map data_kind kinds) c.requires.typed c.requires.positive
    (rows_of c.in-Ok-counted_rows.rows) c.in-Ok-counted_rows.ensures c.in-Ok-read_pairs.rel c.in-Ok-read_pairs.ensures
    (length kinds) (length-map kinds data_kind)

pub returns-in-Ok-read_pairs-clause-holds : goal.returns-in-Ok-read_pairs-clause-holds
returns-in-Ok-read_pairs-clause-holds g c =
    ua_answer_holds (tree c.args.typed.now.query) (blocks_of c.args.tables.now) c.in-Ok.ensures.tables c.requires.positive

pub returns-in-Ok-read_pairs-clause-printed : goal.returns-in-Ok-read_pairs-clause-printed
returns-in-Ok-read_pairs-clause-printed g c fit =
    ua_text_fits (tree c.args.typed.now.query) (blocks_of c.args.tables.now) c.in-Ok.ensures.tables (ap is_some c.requires.typed) c.requires.positive fit
