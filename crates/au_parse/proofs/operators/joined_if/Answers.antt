use Rattle.au_parse.specs.Tree.{TermTree}
use Rattle.au_parse.specs.Levels.{operator_of}
use Rattle.au_parse.specs.Views.{term_tree}
use Rattle.au_parse.proofs.Pairs.{both_read, none_read}
use Rattle.au_parse.proofs.operators.joined_if.Goals as goal

pub returns-in_ok-joined-in-Some : goal.returns-in_ok-joined-in-Some
returns-in_ok-joined-in-Some c =
    both_read (TermTree.binary c.args.at (operator_of c.args.operation)) term_tree term_tree c.args.left c.args.right c.paired.result (c.in-Some.left, c.in-Some.right) (term_tree c.in_ok-joined-in-Some.field-0)
    c.paired.ensures c.in-Some.is c.in_ok-joined-in-Some.ensures

pub returns-in-None : goal.returns-in-None
returns-in-None c = none_read (TermTree.binary c.args.at (operator_of c.args.operation)) term_tree term_tree c.args.left c.args.right c.paired.result c.paired.ensures c.in-None.is
