-- The rows that are found stand for the answer in the guess world.
use Rattle.std.specs.Prelude.{is_some}
use Rattle.std.proofs.Common.{ap, inl, refl}
use Rattle.au_algebra.specs.Trees.{tree}
use Rattle.au_exec.specs.HeldRows.{rows_of}
use Rattle.au_engine.specs.Answers.{blocks_of}
use Rattle.au_engine.proofs.CountedGuesses.{are_counted, guess_columns_made, guess_counts_hold, guess_rows_stand}
use Rattle.au_engine.proofs.answers.guessing.planned_rows.Goals as goal

pub counted_rows-requires-clause-typed : goal.counted_rows-requires-clause-typed
counted_rows-requires-clause-typed g c κs within = ap is_some c.requires.typed

pub counted_rows-requires-clause-counts : goal.counted_rows-requires-clause-counts
counted_rows-requires-clause-counts g c κs within = inl refl

pub counted_rows-requires-clause-inputs : goal.counted_rows-requires-clause-inputs
counted_rows-requires-clause-inputs g c κs within = are_counted (blocks_of c.args.tables.now) c.in-Ok.inputs.items c.in-Ok.ensures.inputs c.in-Ok.ensures.tables

pub read_counted-requires : goal.read_counted-requires
read_counted-requires g c =
    guess_counts_hold (blocks_of c.args.tables.now) c.in-Ok.ensures.tables (tree c.args.typed.now.query) c.args.typed.now.kinds.items c.requires.typed
    c.in-Ok.inputs.items c.in-Ok.ensures.inputs (rows_of c.in-Ok-counted_rows.rows) c.in-Ok-counted_rows.ensures

pub returns-in-Ok-read_counted-clause-rows : goal.returns-in-Ok-read_counted-clause-rows
returns-in-Ok-read_counted-clause-rows g c =
    guess_rows_stand (blocks_of c.args.tables.now) c.in-Ok.ensures.tables (tree c.args.typed.now.query) c.args.typed.now.kinds.items c.requires.typed
    c.in-Ok.inputs.items c.in-Ok.ensures.inputs (rows_of c.in-Ok-counted_rows.rows) c.in-Ok-counted_rows.ensures
    c.in-Ok-read_counted.rel c.in-Ok-read_counted.ensures

pub returns-in-Ok-read_counted-clause-widths : goal.returns-in-Ok-read_counted-clause-widths
returns-in-Ok-read_counted-clause-widths g c =
    guess_columns_made (blocks_of c.args.tables.now) c.in-Ok.ensures.tables (tree c.args.typed.now.query) c.args.typed.now.kinds.items c.requires.typed
    c.in-Ok.inputs.items c.in-Ok.ensures.inputs (rows_of c.in-Ok-counted_rows.rows) c.in-Ok-counted_rows.ensures
    c.in-Ok-read_counted.rel c.in-Ok-read_counted.ensures
