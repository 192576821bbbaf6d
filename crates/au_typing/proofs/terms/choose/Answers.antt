use Rattle.std.proofs.Common.{◌∙◌, ap}
use Rattle.au_value.specs.Results.{both_results}
use Rattle.au_typing.specs.Joined.{ChoosesParts}
use Rattle.au_typing.proofs.Together.{of_three}
use Rattle.au_typing.proofs.terms.choose.Goals as goal

pub returns : goal.returns
returns c =
    of_three (ChoosesParts c.args.at c.args.to) c.args.condition c.args.value c.args.rest c.both-parts.result c.choose_all.result
    (c.both-parts.ensures.all ∙ ap (λ p. both_results p c.args.rest) c.both-first.ensures.all) c.choose_all.ensures
