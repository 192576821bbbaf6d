use Rattle.std.proofs.Common.{sym, ◌∙◌}
use Rattle.au_parse.proofs.ClauseCuts.{begins_parts, begins_none}
use Rattle.au_parse.proofs.queries.begins_clause.Goals as goal

pub returns-in-Some : goal.returns-in-Some
returns-in-Some c = c.is_mark.ensures ∙ sym (begins_parts c.args.tokens.now c.in-Some.field-0-1.now c.in-Some.first.now c.in-Some.ensures.cases.0)

pub returns-in-None : goal.returns-in-None
returns-in-None c = sym (begins_none c.args.tokens.now c.in-None.ensures.cases)
