-- The rows are shown, and their numbers are those of the answer.
use Rattle.std.proofs.Common.{map, subst, true, ◌≡◌}
use Rattle.au_algebra.specs.Trees.{tree}
use Rattle.au_algebra.specs.Fits.{triples_fit}
use Rattle.au_translate.specs.Translate.{bounded_table}
use Rattle.au_engine.specs.Answers.{blocks_of, combined_normal_fits}
use Rattle.au_engine.proofs.Shown.{answer_fits, rows_relation}
use Rattle.au_engine.proofs.answers.answering.direct_rows.Goals as goal

pub combined_normal-requires : goal.combined_normal-requires
combined_normal-requires c =
    rows_relation (blocks_of c.args.tables.now) (tree c.args.query.now) c.requires.0 c.in-Ok.rows c.requires.1 c.in-Ok.ensures.rows c.in-Ok.ensures.tables

pub returns-in-Ok-combined_normal-clause-fits : goal.returns-in-Ok-combined_normal-clause-fits
returns-in-Ok-combined_normal-clause-fits c =
    answer_fits c.args.combined (tree c.args.query.now) (map bounded_table (blocks_of c.args.tables.now)) c.in-Ok.ensures.fits
    (subst (λ rows. triples_fit rows ≡ true → combined_normal_fits c.args.combined rows ≡ true) c.in-Ok.ensures.rows c.in-Ok-combined_normal.ensures.fits)
