-- The schemas are those of the tables, and the rules those that are asked for.
use Rattle.std.proofs.Common.{ap, subst, sym, ◌∙◌}
use Rattle.au_algebra.specs.Trees.{tree}
use Rattle.au_algebra.specs.Typing.{IsTyped}
use Rattle.au_typing.specs.Queries.{relations, table_kinds}
use Rattle.au_program.specs.Programs.{IsProgram}
use Rattle.au_engine.specs.Options.{rules_of}
use Rattle.au_engine.proofs.TableRelations.{same_kinds}
use Rattle.au_engine.proofs.running.evaluation.table_program.Goals as goal

pub program_of-requires-clause-typed : goal.program_of-requires-clause-typed
program_of-requires-clause-typed c =
    subst (λ ks. IsTyped ks (tree c.args.query.now))
    (sym (ap (λ xs. table_kinds (relations xs)) c.as_slice.ensures.value ∙ ap table_kinds c.in_ok-schemas.ensures.relations ∙ same_kinds c.args.tables.now))
    c.requires.typed

pub returns : goal.returns
returns c =
    let by_rules = subst (λ rules. IsProgram rules c.args.options.combine (table_kinds (relations c.as_slice.result.now)) (tree c.args.query.now) c.in_ok-program.program) c.rules.ensures c.in_ok-program.ensures in
    subst (λ ks. IsProgram (rules_of c.args.options) c.args.options.combine ks (tree c.args.query.now) c.in_ok-program.program)
    (ap (λ xs. table_kinds (relations xs)) c.as_slice.ensures.value ∙ ap table_kinds c.in_ok-schemas.ensures.relations ∙ same_kinds c.args.tables.now)
    by_rules
