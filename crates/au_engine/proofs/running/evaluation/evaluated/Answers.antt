-- The plan of what is shown can be run over its sources, and what its run gives is of the answer's normal form.
use Rattle.std.proofs.Common.{ap, subst, sym}
use Rattle.std.proofs.lemmas.Result.{IfOk-weaker}
use Rattle.au_algebra.specs.Trees.{tree}
use Rattle.au_encode.specs.Encode.{AreEncoded, decode}
use Rattle.au_physical.specs.Physicals.{physical_tree}
use Rattle.au_engine.specs.Options.{rules_of}
use Rattle.au_engine.proofs.ShownPrograms.{shown_answer, shown_can, shown_encoded, shown_starts, shown_stops}
use Rattle.au_engine.proofs.running.evaluation.evaluated.Goals as goal

pub rows_found-requires-clause-runs : goal.rows_found-requires-clause-runs
rows_found-requires-clause-runs g c κs within =
    let w = c.args.program.now in
    shown_can (rules_of c.args.options) c.args.options.combine c.args.tables.now (tree c.args.query.now) c.requires.typed w.sources (physical_tree w.plan) w.columns c.requires.program

pub rows_found-requires-clause-starts : goal.rows_found-requires-clause-starts
rows_found-requires-clause-starts g c κs within held h =
    let w = c.args.program.now in
    shown_starts (rules_of c.args.options) c.args.options.combine c.args.tables.now (tree c.args.query.now) c.requires.typed w.sources (physical_tree w.plan) w.columns c.requires.program held h

pub returns-clause-encoded : goal.returns-clause-encoded
returns-clause-encoded g c =
    let w = c.args.program.now in
    IfOk-weaker c.rows_found.result _ _
    (λ rows found.
    subst (AreEncoded w.columns) (sym found.1.1)
    (shown_encoded (rules_of c.args.options) c.args.options.combine c.args.tables.now (tree c.args.query.now) c.requires.typed w.sources (physical_tree w.plan) w.columns c.requires.program found.0 found.1.0))
    c.rows_found.ensures.rows

pub returns-clause-rows : goal.returns-clause-rows
returns-clause-rows g c =
    let w = c.args.program.now in
    IfOk-weaker c.rows_found.result _ _
    (λ rows found.
    shown_answer (rules_of c.args.options) c.args.options.combine c.args.tables.now (tree c.args.query.now) c.requires.typed w.sources (physical_tree w.plan) w.columns c.requires.program found.0 found.1.0
    (decode w.columns rows) (ap (decode w.columns) found.1.1))
    c.rows_found.ensures.rows

pub returns-clause-overflow : goal.returns-clause-overflow
returns-clause-overflow g c e =
    let w = c.args.program.now in
    shown_stops (rules_of c.args.options) c.args.options.combine c.args.tables.now (tree c.args.query.now) c.requires.typed w.sources (physical_tree w.plan) w.columns c.requires.program
    (c.rows_found.ensures.overflow e)
