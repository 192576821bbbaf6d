use Rattle.std.proofs.Common.{arith}
use Rattle.au_lex.proofs.Scales.{scales}
use Rattle.au_lex.proofs.Spans.{spans}
use Rattle.au_lex.proofs.scan.tokens.Goals as goal

pub returns-in-Ok-clause-spans : goal.returns-in-Ok-clause-spans
returns-in-Ok-clause-spans c = spans c.args.text.now c.new.result (grind (arith, c.in-Ok.ensures.tokens, c.as_bytes.ensures.value, c.new.ensures))

pub returns-in-Ok-clause-scales : goal.returns-in-Ok-clause-scales
returns-in-Ok-clause-scales c = scales c.args.text.now c.new.result (grind (arith, c.in-Ok.ensures.tokens, c.as_bytes.ensures.value, c.new.ensures))
