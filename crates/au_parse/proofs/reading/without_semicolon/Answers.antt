use Rattle.std.proofs.Common.{sym, true, false}
use Rattle.au_parse.proofs.Causes.{semicolon_is, semicolon_none}
use Rattle.au_parse.proofs.reading.without_semicolon.Goals as goal

pub returns-in_default : goal.returns-in_default
returns-in_default c = semicolon_none c.args.tokens.now c.in_default.ensures.cases

pub returns-then-is_semicolon : goal.returns-then-is_semicolon
returns-then-is_semicolon c = semicolon_is c.args.tokens.now c.in-Some.front.now c.in-Some.last.now true c.in-Some.ensures.cases.0 (sym c.if-is_semicolon.ensures)

pub returns-else-is_semicolon : goal.returns-else-is_semicolon
returns-else-is_semicolon c = semicolon_is c.args.tokens.now c.in-Some.front.now c.in-Some.last.now false c.in-Some.ensures.cases.0 (sym c.if-is_semicolon.ensures)
