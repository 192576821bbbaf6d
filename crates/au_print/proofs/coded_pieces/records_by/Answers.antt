-- The spans are all rows.
use Rattle.std.proofs.Common.{◌∙◌}
use Rattle.au_print.proofs.SpanTexts.{all_texts, all_within}
use Rattle.au_print.proofs.coded_pieces.records_by.Goals as goal

pub by_drawn_pieces-requires-clause-rows : goal.by_drawn_pieces-requires-clause-rows
by_drawn_pieces-requires-clause-rows g c κs within = all_within c.args.answer.now c.args.spans.now c.requires.rows c.requires.spans

pub returns-in-Ok : goal.returns-in-Ok
returns-in-Ok g c = c.in-Ok.ensures.results ∙ all_texts c.args.answer.now c.args.spans.now c.requires.spans
