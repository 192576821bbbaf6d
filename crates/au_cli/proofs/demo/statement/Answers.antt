-- The query is not refused, so that only memory may be wanting.
use Rattle.au_cli.proofs.DemoLaws.{only_memory}
use Rattle.au_cli.proofs.demo.statement.Goals as goal

pub query_fault-requires : goal.query_fault-requires
query_fault-requires c = only_memory c.in-Err.fault c.in-Err.ensures.refused
