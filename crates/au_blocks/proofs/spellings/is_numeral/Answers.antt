-- Few digits are a numeral.
use Rattle.std.proofs.Common.{sym, ◌∙◌}
use Rattle.au_blocks.proofs.Counts.{count_numeral}
use Rattle.au_blocks.proofs.spellings.is_numeral.Goals as goal

pub returns-then-is_count : goal.returns-then-is_count
returns-then-is_count c = sym (count_numeral c.args.field.now (sym c.is_count.ensures ∙ c.if-is_count.true))
