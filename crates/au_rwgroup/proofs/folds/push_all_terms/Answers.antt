-- One aggregate more.
use Rattle.std.proofs.Common.{◌∙◌, map}
use Rattle.au_plain.specs.PTerms.{pterm}
use Rattle.au_rwgroup.proofs.GroupSteps.{terms_step}
use Rattle.au_rwgroup.proofs.folds.push_all_terms.Goals as goal

pub loop-agg-preserved : goal.loop-agg-preserved
loop-agg-preserved c =
    let old = map pterm c.loop-agg.columns.items in
    let new = map pterm c.push_terms.new.columns.items in
    terms_step c.args.aggs.now c.loop-agg.agg-index c.loop-agg-test.true _ c.args.triple.first old new c.in_ok-push_terms.ensures
    ∙ c.loop-agg.invariant
