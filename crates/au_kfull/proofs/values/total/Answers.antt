-- The embedded rows are a relation of the table's kinds.
use Rattle.std.proofs.Common.{◌∙◌, ap, sym, subst}
use Rattle.au_algebra.specs.Laws.{IsRelation}
use Rattle.au_kfull.specs.Embedding.{embedded}
use Rattle.au_kfull.proofs.NonPositiveValues.{table_summable}
use Rattle.au_kfull.proofs.values.total.Goals as goal

pub total-requires : goal.total-requires
total-requires c =
    let o = table_summable c.args.aggs.now c.args.of.now c.requires in
    (o.0, subst (IsRelation o.0) (sym (c.in_ok-rows.ensures ∙ ap embedded c.rows.ensures)) o.1, o.2)
