-- The place that the search found is that of the key's values.
use Rattle.std.proofs.Common.{◌∙◌, sym}
use Rattle.au_algebra.proofs.RowKeys.{any_values, known}
use Rattle.au_kfull.proofs.same_guesses.known_place.Goals as goal

pub returns-in-Some-clause-place : goal.returns-in-Some-clause-place
returns-in-Some-clause-place c = (known c.args.key.now c.args.seen.now.keys c.in-Some.place c.in-Some.ensures.found c.in-Some.ensures.index).1

pub returns-in-Some-clause-found : goal.returns-in-Some-clause-found
returns-in-Some-clause-found c = sym (known c.args.key.now c.args.seen.now.keys c.in-Some.place c.in-Some.ensures.found c.in-Some.ensures.index).0

pub returns-in-None-clause-found : goal.returns-in-None-clause-found
returns-in-None-clause-found c = c.in-None.ensures.found ∙ any_values c.args.key.now c.args.seen.now.keys
