use Rattle.std.proofs.Common.{codes, string_bytes}
use Rattle.au_sqltext.proofs.Spreads.{written3}
use Rattle.au_engine.specs.Explaining.{last_text, names_of, steps_text}
use Rattle.au_engine.proofs.exchange.program_lines.push_program.Goals as goal

pub returns : goal.returns
returns c =
    written3 (string_bytes c.args.out.now) (string_bytes c.push_steps.new.out) (string_bytes c.push_str.new.self) (string_bytes c.push_last.new.out)
    (steps_text (names_of c.args.tables.now) 0 c.args.program.now.sources) (codes "answer") (last_text (names_of c.args.tables.now) c.args.program.now)
    c.in_ok-push_steps.ensures c.in_ok-push_str.ensures.bytes c.in_ok-push_last.ensures
