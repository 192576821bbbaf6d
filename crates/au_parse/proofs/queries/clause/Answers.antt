use Rattle.std.proofs.Common.{sym}
use Rattle.au_parse.proofs.ClauseCuts.{takes_nothing, takes_none, takes_some}
use Rattle.au_parse.proofs.queries.clause.Goals as goal

pub returns-in_default-clause-takes : goal.returns-in_default-clause-takes
returns-in_default-clause-takes c = takes_nothing c.args.word c.args.tokens.now c.in_default.ensures.cases

pub returns-then-not-is_clause-clause-takes : goal.returns-then-not-is_clause-clause-takes
returns-then-not-is_clause-clause-takes c = takes_none c.args.word c.args.tokens.now c.in-Some.others.now c.in-Some.first.now c.in-Some.ensures.cases.0 (sym c.if-not-is_clause.ensures)

pub returns-clause-takes : goal.returns-clause-takes
returns-clause-takes c =
    takes_some c.args.word c.args.tokens.now c.in-Some.others.now c.split_at.result.0.now c.split_at.result.1.now c.in-Some.first.now c.front_length.result c.in-Some.ensures.cases.0 (sym c.if-not-is_clause.ensures)
    c.front_length.ensures.count c.split_at.ensures.front c.split_at.ensures.back
