use Rattle.std.proofs.Common.{ap, sym, ◌∙◌}
use Rattle.au_parse.specs.Statements.{query_read}
use Rattle.au_parse.specs.Views.{statement_tree}
use Rattle.au_parse.proofs.Wholeness.{tree_whole}
use Rattle.au_parse.proofs.Causes.{limit_cause, tree_is}
use Rattle.au_parse.proofs.reading.parse.Goals as goal

pub returns-in-Some-2-clause-tree : goal.returns-in-Some-2-clause-tree
returns-in-Some-2-clause-tree c = tree_is c.args.tokens.now c.without_semicolon.result.now (query_read c.in_ok-statement.field-0) c.without_semicolon.ensures c.in_ok-statement.ensures ∙ ap query_read c.in-Some-2.is

pub returns-in-None-clause-cause : goal.returns-in-None-clause-cause
returns-in-None-clause-cause c = (
  sym c.in_ok-fault.ensures ∙ c.in_default.is,
  tree_is c.args.tokens.now c.without_semicolon.result.now (query_read c.in_ok-statement.field-0) c.without_semicolon.ensures c.in_ok-statement.ensures ∙ ap query_read c.in-None.is,
  c.misplaced.ensures,
)

pub returns-in-Some-clause-cause : goal.returns-in-Some-clause-cause
returns-in-Some-clause-cause c = limit_cause c.args.length c.args.tokens.now c.in-Some.fault (sym c.in-Some.is ∙ c.in_ok-fault.ensures)

pub returns-in-Some-2-clause-whole : goal.returns-in-Some-2-clause-whole
returns-in-Some-2-clause-whole c = tree_whole c.args.tokens.now (statement_tree c.in-Some-2.statement)
    (tree_is c.args.tokens.now c.without_semicolon.result.now (query_read c.in_ok-statement.field-0) c.without_semicolon.ensures c.in_ok-statement.ensures ∙ ap query_read c.in-Some-2.is)
