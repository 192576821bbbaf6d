-- The schemas are those of the tables.
use Rattle.std.proofs.Common.{ap, subst, sym, ◌∙◌}
use Rattle.au_algebra.specs.Trees.{tree}
use Rattle.au_algebra.specs.Typing.{IsTyped}
use Rattle.au_plain.specs.Plans.{plan_tree}
use Rattle.au_typing.specs.Queries.{relations, table_kinds}
use Rattle.au_program.specs.CountedPlans.{GivesCounted}
use Rattle.au_engine.proofs.TableRelations.{same_kinds}
use Rattle.au_engine.proofs.answers.counted.table_plan.Goals as goal

pub counted_plan-requires : goal.counted_plan-requires
counted_plan-requires c =
    subst (λ ks. IsTyped ks (tree c.args.query.now))
    (sym (ap (λ xs. table_kinds (relations xs)) c.as_slice.ensures.value ∙ ap table_kinds c.in_ok-schemas.ensures.relations ∙ same_kinds c.args.tables.now))
    c.requires

pub returns : goal.returns
returns c =
    subst (λ ks. GivesCounted c.args.counts ks (tree c.args.query.now) (plan_tree c.in_ok-counted.counted.plan) c.in_ok-counted.counted.columns)
    (ap (λ xs. table_kinds (relations xs)) c.as_slice.ensures.value ∙ ap table_kinds c.in_ok-schemas.ensures.relations ∙ same_kinds c.args.tables.now)
    c.in_ok-counted.ensures
