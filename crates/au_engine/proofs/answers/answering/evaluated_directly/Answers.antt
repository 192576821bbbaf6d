-- The tree is typed for the tables' relations.
use Rattle.std.proofs.Common.{◌∙◌}
use Rattle.au_algebra.specs.Trees.{tree}
use Rattle.au_engine.specs.Answers.{blocks_of}
use Rattle.au_engine.proofs.Shown.{can_evaluate}
use Rattle.au_engine.proofs.answers.answering.evaluated_directly.Goals as goal

pub direct-requires : goal.direct-requires
direct-requires c =
    can_evaluate (blocks_of c.args.tables.now) (tree c.args.query.now) c.requires.0 c.as_slice.result.now c.requires.1
    (c.as_slice.ensures.value ∙ c.in-Ok.ensures.rows) c.in-Ok.ensures.tables
