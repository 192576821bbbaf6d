use Rattle.au_parse.proofs.Causes.{any_behind}
use Rattle.au_parse.proofs.places.misplaced.Goals as goal

pub loop-token-init : goal.loop-token-init
loop-token-init c = λ at. any_behind c.args.tokens.now c.in-Some.others.now c.in-Some.first.now at c.in-Some.ensures.cases.0

pub loop-token-preserved : goal.loop-token-preserved
loop-token-preserved c = λ at any.
    c.loop-token.invariant at (any_behind c.loop-token.rest.now c.in-Some-split_first.others.now c.in-Some-split_first.token.now at c.in-Some-split_first.ensures.cases.0 any)
