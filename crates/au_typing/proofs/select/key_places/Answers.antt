-- A fault of one key.
use Rattle.std.proofs.Common.{inr, rules}
use Rattle.au_typing.specs.Results.{scope_view}
use Rattle.au_typing.specs.Scopes.{name_faults}
use Rattle.au_typing.proofs.Within.{Contains-flat_map}
use Rattle.au_typing.proofs.select.key_places.Goals as goal

pub returns-in-Err-clause-fault : goal.returns-in-Err-clause-fault
returns-in-Err-clause-fault c =
    inr (Contains-flat_map (name_faults (scope_view c.args.scope.now)) c.args.keys.now c.loop-key.key-index c.key-item.result c.in-Err.fault
    (search (rules, c.loop-key-test.true)) (search (rules, c.key-item.is)) c.in-Err.ensures.fault)
