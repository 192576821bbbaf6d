-- The plan is the one of the tree over the tables' columns, by their names or by their blocks.
use Rattle.std.proofs.Common.{◌≡◌, ◌∙◌, ap, subst, sym}
use Rattle.std.proofs.lemmas.Result.{IfOk-weaker}
use Rattle.au_algebra.specs.Trees.{tree}
use Rattle.au_algebra.specs.Typing.{IsTyped}
use Rattle.au_plain.specs.Plans.{plan_tree}
use Rattle.au_typing.specs.Queries.{relations, table_kinds}
use Rattle.au_program.specs.Rewriting.{IsPlanOf}
use Rattle.au_engine.specs.Exchange.{value_kinds}
use Rattle.au_engine.proofs.TableRelations.{same_kinds}
use Rattle.au_engine.proofs.exchange.texts.tree_text.Goals as goal

pub rewritten-requires : goal.rewritten-requires
rewritten-requires c =
    let kinds : table_kinds (relations c.as_slice.result.now) ≡ value_kinds c.args.tables.now =
    ap table_kinds (ap relations c.as_slice.ensures.value ∙ c.in_ok-schemas.ensures.relations) ∙ same_kinds c.args.tables.now in
    subst (λ ks. IsTyped ks (tree c.args.typed.now.query)) (sym kinds) c.requires

pub returns : goal.returns
returns c =
    let kinds : table_kinds (relations c.as_slice.result.now) ≡ value_kinds c.args.tables.now =
    ap table_kinds (ap relations c.as_slice.ensures.value ∙ c.in_ok-schemas.ensures.relations) ∙ same_kinds c.args.tables.now in
    IfOk-weaker c.plan_line.result _ _
    (λ line is. record {
      plan = plan_tree c.in_ok-plan.plan;
      whole = subst (λ ks. IsPlanOf ks (tree c.args.typed.now.query) (plan_tree c.in_ok-plan.plan)) kinds c.in_ok-plan.ensures.plan;
      widths = c.in_ok-plan.ensures.widths;
      numbers = c.in_ok-plan.ensures.numbers;
      text = is.0;
      utf8 = is.1;
    })
    c.plan_line.ensures
