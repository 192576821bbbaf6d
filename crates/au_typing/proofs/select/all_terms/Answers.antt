-- Where none has a fault, and where one has.
use Rattle.std.proofs.Common.{◌∙◌, ap}
use Rattle.au_value.specs.Results.{both_results}
use Rattle.au_typing.proofs.AllTerms.{terms_given, terms_refused}
use Rattle.au_typing.proofs.select.all_terms.Goals as goal

pub returns-in-Ok : goal.returns-in-Ok
returns-in-Ok c =
    terms_given c.args.filter c.args.items c.args.having c.both-terms.result c.in-Ok.held.0 c.in-Ok.held.1 c.args.gathered c.args.outputs
    (c.both-terms.ensures.all ∙ ap (λ r. both_results r c.args.having) c.both-first.ensures.all) c.in-Ok.ensures.values.0 c.in-Ok.ensures.values.1

pub returns-in-Err : goal.returns-in-Err
returns-in-Err c =
    terms_refused c.args.filter c.args.items c.args.having c.both-terms.result c.in-Err.fault c.args.gathered c.args.outputs
    (c.both-terms.ensures.all ∙ ap (λ r. both_results r c.args.having) c.both-first.ensures.all) c.in-Err.ensures.fault
