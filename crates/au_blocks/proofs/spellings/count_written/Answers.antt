-- Thirteen digits write a number of 64 bits.
use Rattle.std.proofs.Common.{sym, ◌∙◌}
use Rattle.au_blocks.proofs.Counts.{count_fits}
use Rattle.au_blocks.proofs.spellings.count_written.Goals as goal

pub returns-in-Err : goal.returns-in-Err
returns-in-Err c = absurd (c.in-Err.ensures.value (count_fits c.args.field.now (sym c.is_count.ensures ∙ c.if-not-is_count.false)))
