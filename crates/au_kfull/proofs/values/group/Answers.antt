-- The embedded rows are a relation of the table's kinds.
use Rattle.std.proofs.Common.{◌≡◌, ◌∙◌, ap, sym, subst}
use Rattle.std.proofs.lemmas.Result.{err_from_is_err_and}
use Rattle.au_algebra.specs.Laws.{IsRelation}
use Rattle.au_kfull.specs.Embedding.{embedded}
use Rattle.au_kfull.specs.Outputs.{group_fits}
use Rattle.au_kfull.specs.declared.keys.Keys.TheVariants.{Leading}
use Rattle.au_kfull.proofs.NonPositiveValues.{table_groupable}
use Rattle.au_kfull.proofs.values.group.Goals as goal

pub group-requires : goal.group-requires
group-requires c =
    let o = table_groupable c.args.aggs.now c.args.of.now c.requires in
    (o.0, subst (IsRelation o.0) (sym (c.in_ok-rows.ensures ∙ ap embedded c.rows.ensures)) o.1, o.2)

pub returns-in_err-groups : goal.returns-in_err-groups
returns-in_err-groups c =
    let p = err_from_is_err_and c.from_residual-in_err-groups.result c.from_residual-in_err-groups.ensures.1 in
    let rows : embedded c.args.of.now ≡ c.in_ok-rows.rows = sym (c.in_ok-rows.ensures ∙ ap embedded c.rows.ensures) in
    rw (p.1, p.2) (λ o. ap (group_fits (Leading c.args.keys) c.args.aggs.now) rows ∙ c.in_err-groups.ensures.overflow o)
