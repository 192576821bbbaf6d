-- The text is a table, so that only memory may be wanting.
use Rattle.std.proofs.Common.{◌∙◌}
use Rattle.au_cli.proofs.DemoLaws.{only_memory_of_text}
use Rattle.au_cli.proofs.demo.generated.Goals as goal

pub table_fault-requires : goal.table_fault-requires
table_fault-requires c =
    only_memory_of_text c.args.start c.args.blocks c.as_slice.result.now c.in-Err.fault c.requires.few (c.as_slice.ensures.value ∙ c.in_ok-text.ensures.value) c.in-Err.ensures.fault
