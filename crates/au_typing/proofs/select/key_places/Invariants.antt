-- The places so far.
use Rattle.std.proofs.Common.{◌≡◌, [], take}
use Rattle.std.specs.Prelude.{flat_map}
use Rattle.au_typing.specs.Results.{scope_view}
use Rattle.au_typing.specs.Scopes.{name_faults}
use Rattle.au_typing.specs.Selects.{key_places}
use Rattle.au_typing.proofs.select.key_places.Given as goal

abbrev pub invariant-loop-key : goal.invariant-loop-key
invariant-loop-key l = (l.places.items ≡ key_places (scope_view l.scope) (take l.key-index l.keys)) × (flat_map (name_faults (scope_view l.scope)) (take l.key-index l.keys) ≡ [])
