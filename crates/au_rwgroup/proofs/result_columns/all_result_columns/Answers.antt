-- One range more.
use Rattle.std.proofs.Common.{arith, ◌∙◌, map}
use Rattle.au_plain.specs.PTerms.{pterm, Column}
use Rattle.au_rwexpr.specs.Counts.{positive}
use Rattle.au_rwgroup.proofs.GroupSteps.{results_step}
use Rattle.au_rwgroup.proofs.result_columns.all_result_columns.Goals as goal

pub loop-agg-preserved : goal.loop-agg-preserved
loop-agg-preserved c =
    let old = map pterm c.loop-agg.columns.items in
    let new = map pterm c.push_result.new.columns.items in
    record {
      columns =
          results_step c.args.aggs.now c.loop-agg.agg-index c.loop-agg-test.true _ (positive (Column c.args.tests.there)) (positive (Column c.args.tests.guess)) c.loop-agg.place old new c.in_ok-push_result.ensures
          ∙ c.loop-agg.invariant.columns;
      place = omega (arith, c.loop-agg.invariant.place);
    }
