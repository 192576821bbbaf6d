-- Those that are left, after the names so far.
use Rattle.std.proofs.Common.{◌≡◌, [], map}
use Rattle.au_typing.specs.Results.{from_view}
use Rattle.au_typing.specs.Selects.{alias_faults}
use Rattle.au_typing.proofs.FromItems.{aliases_from}
use Rattle.au_typing.proofs.from_items.alias_fault.Given as goal

abbrev pub invariant-loop-place : goal.invariant-loop-place
invariant-loop-place l = alias_faults [] (map from_view l.from) ≡ aliases_from l.place l.from
