-- The program is that of the tree over the tables' columns, by their names or by their blocks.
use Rattle.std.proofs.Common.{◌≡◌, ◌∙◌, ap, false, subst, sym}
use Rattle.std.proofs.lemmas.Result.{IfOk-weaker}
use Rattle.au_algebra.specs.Trees.{tree}
use Rattle.au_algebra.specs.Typing.{IsTyped}
use Rattle.au_typing.specs.Queries.{relations, table_kinds}
use Rattle.au_program.specs.Programs.{IsProgram}
use Rattle.au_program.specs.Rules.{plain_rules}
use Rattle.au_engine.specs.Exchange.{value_kinds}
use Rattle.au_engine.proofs.TableRelations.{same_kinds}
use Rattle.au_engine.proofs.exchange.explaining.tree_explained.Goals as goal

pub program_of-requires-clause-typed : goal.program_of-requires-clause-typed
program_of-requires-clause-typed c =
    let kinds : table_kinds (relations c.as_slice.result.now) ≡ value_kinds c.args.tables.now =
    ap table_kinds (ap relations c.as_slice.ensures.value ∙ c.in_ok-schemas.ensures.relations) ∙ same_kinds c.args.tables.now in
    subst (λ ks. IsTyped ks (tree c.args.typed.now.query)) (sym kinds) c.requires

pub returns : goal.returns
returns c =
    let kinds : table_kinds (relations c.as_slice.result.now) ≡ value_kinds c.args.tables.now =
    ap table_kinds (ap relations c.as_slice.ensures.value ∙ c.in_ok-schemas.ensures.relations) ∙ same_kinds c.args.tables.now in
    IfOk-weaker c.program_text.result _ _
    (λ text is. record {
      of = c.in_ok-program.program;
      is = subst (λ ks. IsProgram plain_rules false ks (tree c.args.typed.now.query) c.in_ok-program.program) kinds c.in_ok-program.ensures;
      lines = is;
    })
    c.program_text.ensures
