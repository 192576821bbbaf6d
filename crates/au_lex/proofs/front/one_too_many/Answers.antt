use Rattle.std.proofs.Common.{sym}
use Rattle.au_lex.proofs.Beyond.{run_begins, symbol_begins, nothing_begins}
use Rattle.au_lex.proofs.front.one_too_many.Goals as goal

pub returns-then-begins_run : goal.returns-then-begins_run
returns-then-begins_run c = sym (run_begins c.args.at c.in-Some.b.now c.args.text.now c.in-Some._rest.now c.in-Some.ensures.cases.0 (sym c.if-begins_run.ensures))

pub returns-in-Some-symbol : goal.returns-in-Some-symbol
returns-in-Some-symbol c =
    sym (symbol_begins c.args.at c.in-Some.b.now c.args.text.now c.in-Some._rest.now c.in-Some-symbol.field-0 c.in-Some.ensures.cases.0 (sym c.if-begins_run.ensures) (sym c.in-Some-symbol.ensures))

pub returns-in-None : goal.returns-in-None
returns-in-None c = sym (nothing_begins c.args.at c.in-Some.b.now c.args.text.now c.in-Some._rest.now c.in-Some.ensures.cases.0 (sym c.if-begins_run.ensures) (sym c.in-None.ensures))
