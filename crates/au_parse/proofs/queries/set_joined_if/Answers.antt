use Rattle.au_parse.specs.Tree.{QueryTree}
use Rattle.au_parse.specs.Statements.{set_of}
use Rattle.au_parse.specs.Views.{statement_tree}
use Rattle.au_parse.proofs.Pairs.{both_read, none_read}
use Rattle.au_parse.proofs.queries.set_joined_if.Goals as goal

pub returns-in_ok-set_joined-in-Some : goal.returns-in_ok-set_joined-in-Some
returns-in_ok-set_joined-in-Some c =
    both_read (QueryTree.set (set_of c.args.operation) c.args.all c.args.at) statement_tree statement_tree c.args.left c.args.right c.paired.result (c.in-Some.left, c.in-Some.right) (statement_tree c.in_ok-set_joined-in-Some.field-0)
    c.paired.ensures c.in-Some.is c.in_ok-set_joined-in-Some.ensures

pub returns-in-None : goal.returns-in-None
returns-in-None c = none_read (QueryTree.set (set_of c.args.operation) c.args.all c.args.at) statement_tree statement_tree c.args.left c.args.right c.paired.result c.paired.ensures c.in-None.is
