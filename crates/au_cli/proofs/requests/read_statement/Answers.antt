-- Why the statement is not read, and that nothing is refused where it is.
use Rattle.std.proofs.Common.{rules, arith, sym, subst, ◌∙◌}
use Rattle.std.proofs.lemmas.List.{length-map}
use Rattle.au_parse.specs.Views.{statement_tree}
use Rattle.au_words.specs.CommandLine.{seen_request}
use Rattle.au_cli.specs.Causes.{StatementCause}
use Rattle.au_cli.proofs.TextRefusals.{allowed_request, few, many_tables, place_cause, text_cause}
use Rattle.au_cli.proofs.requests.read_statement.Goals as goal

pub returns-then-len-gt-MAX_FILES-clause-refused : goal.returns-then-len-gt-MAX_FILES-clause-refused
returns-then-len-gt-MAX_FILES-clause-refused c =
    many_tables (seen_request c.args.request.now) c.len-then-len-gt-MAX_FILES.result (search (rules, arith, length-map)) (search (rules, arith))

pub returns-in-Err-clause-refused : goal.returns-in-Err-clause-refused
returns-in-Err-clause-refused c =
    subst (λ o. StatementCause (seen_request c.args.request.now) o) (sym c.ended.ensures)
    (text_cause (seen_request c.args.request.now) c.in-Err.fault (few (seen_request c.args.request.now) c.len.result (search (rules, arith, length-map)) (search (rules, arith))) c.in-Err.ensures.refused)

pub returns-in-Some-clause-refused : goal.returns-in-Some-clause-refused
returns-in-Some-clause-refused c =
    place_cause (seen_request c.args.request.now) (statement_tree c.in-Ok.statement) c.in-Some.at (few (seen_request c.args.request.now) c.len.result (search (rules, arith, length-map)) (search (rules, arith)))
    c.in-Ok.ensures.allowed c.in-Ok.ensures.tree (sym c.refused_place.ensures ∙ c.in-Some.is)

pub returns-in-None-clause-allowed : goal.returns-in-None-clause-allowed
returns-in-None-clause-allowed c =
    allowed_request (seen_request c.args.request.now) (statement_tree c.in-Ok.statement) (few (seen_request c.args.request.now) c.len.result (search (rules, arith, length-map)) (search (rules, arith)))
    c.in-Ok.ensures.allowed c.in-Ok.ensures.tree (sym c.refused_place.ensures ∙ c.in-None.is)
