use Rattle.std.proofs.Common.{◌∙◌, ap}
use Rattle.au_plain.specs.PTerms as term
use Rattle.au_plain.proofs.TermLists.{terms_of, least_view}
use Rattle.au_plain.proofs.terms.least_of_two.Goals as goal

pub returns : goal.returns
returns c = least_view c.in_ok-pair.field-0 ∙ ap (λ es. term.Least (terms_of es)) c.in_ok-pair.ensures
