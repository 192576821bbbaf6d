-- The header is the record that was read.
use Rattle.std.proofs.Common.{[]}
use Rattle.au_blocks.proofs.one_pass.header_in.Goals as goal

pub returns-in_ok-words-in-Ok-true : goal.returns-in_ok-words-in-Ok-true
returns-in_ok-words-in-Ok-true c =
    rw (c.in_ok-words-in-Ok-true.ensures, c.record.ensures) (c.in-Ok-true.ensures.more c.args.bytes.now [] c.requires c.in-Ok-true.field-0-test)
