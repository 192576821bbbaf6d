-- One aggregate more.
use Rattle.std.proofs.Common.{◌∙◌, ◌++◌, ◌+◌, ◌*◌, ap, drop, map}
use Rattle.au_plain.specs.PTerms.{pterm}
use Rattle.au_rwgroup.specs.Totals.{total_columns}
use Rattle.au_rwgroup.proofs.Steps.{columns_step}
use Rattle.au_rwgroup.proofs.totals.total_columns.Goals as goal

pub loop-agg-preserved : goal.loop-agg-preserved
loop-agg-preserved c =
    let t = c.args.triple.first in
    let i = c.loop-agg.agg-index in
    let aggs = c.args.aggs.now in
    (λ j. c.in_ok-push_terms.ensures j ++ total_columns t (drop (i + 1) aggs))
    ∙ columns_step aggs i c.loop-agg-test.true t (map pterm c.loop-agg.columns.items) c.in_ok-own.own.first _ (c.in_ok-own.ensures ∙ ap (λ n. 3 * n) c.column_of.ensures)
    ∙ c.loop-agg.invariant
