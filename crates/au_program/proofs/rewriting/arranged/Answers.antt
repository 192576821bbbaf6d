-- Conjuncts that move keep the rows, and joins that are split their copies.
use Rattle.std.proofs.Common.{◌≡◌, ◌∙◌, ap, map, subst}
use Rattle.std.proofs.lemmas.Result.{IfOk-at_ok, IfOk-weaker}
use Rattle.au_encode.specs.Encode.{encoded_kinds}
use Rattle.au_plain.specs.Plans.{plan_tree}
use Rattle.au_split.specs.Reorders.{Reorders}
use Rattle.au_split.proofs.Reordering.{after, of_keeps}
use Rattle.au_typing.specs.Queries.{relations, table_kinds}
use Rattle.au_program.proofs.rewriting.arranged.Goals as goal

pub returns : goal.returns
returns c =
    let made = c.in_ok-made in
    let tables = map encoded_kinds (table_kinds (relations c.args.schemas.now)) in
    let p = plan_tree c.args.plan in
    let r = plan_tree made.made.1 in
    let kinds : map (λ ks. ks.items) c.as_slice.result.now ≡ tables =
    ap (map (λ ks. ks.items)) c.as_slice.ensures.value ∙ IfOk-at_ok _ made.ensures.values.0 c.encoded_tables.ensures in
    let moved = of_keeps tables p r (IfOk-at_ok _ made.ensures.values.1 c.push-pushed.ensures.keeps) in
    IfOk-weaker c.split.result _ _
    (λ q same. after tables p r (plan_tree q) moved (subst (λ ks. Reorders ks r (plan_tree q)) kinds same))
    c.split.ensures.reorders
