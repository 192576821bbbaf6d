-- The keys by their values.
use Rattle.std.proofs.Common.{◌∙◌, ap}
use Rattle.au_algebra.specs.Keys.{key_values}
use Rattle.au_algebra.proofs.RowKeys.{insert_values, position_key}
use Rattle.au_kfull.proofs.same_guesses.place_of.Goals as goal

pub returns-clause-keys : goal.returns-clause-keys
returns-clause-keys c = ap key_values c.in_ok-place.ensures.keys ∙ insert_values c.args.key c.args.seen.now.keys

pub returns-clause-place : goal.returns-clause-place
returns-clause-place c = c.in_ok-place.ensures.index ∙ position_key c.args.key c.args.seen.now.keys
