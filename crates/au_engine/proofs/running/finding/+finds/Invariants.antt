-- Each call goes to fewer sources.
use Rattle.std.proofs.Common.{◌+◌, ◌*◌}
use Rattle.au_engine.proofs.SourceSizes.{sources_size}
use Rattle.au_engine.proofs.running.finding.+finds.Given as goal

abbrev pub decreases-inputs_of : goal.decreases-inputs_of
decreases-inputs_of g l = 4 * sources_size l.sources.now

abbrev pub decreases-rows_found : goal.decreases-rows_found
decreases-rows_found g l = 4 * sources_size l.sources.now + 1

abbrev pub decreases-relation_found : goal.decreases-relation_found
decreases-relation_found g l = 4 * sources_size l.sources.now + 2

abbrev pub decreases-with_table : goal.decreases-with_table
decreases-with_table g l = 4 * sources_size l.before.now + 3

abbrev pub decreases-with_step : goal.decreases-with_step
decreases-with_step g l = 4 * (sources_size l.before.now + sources_size l.own.now) + 3

abbrev pub decreases-with_pairs : goal.decreases-with_pairs
decreases-with_pairs g l = 4 * (sources_size l.before.now + (sources_size l.left.now + sources_size l.right.now)) + 3
