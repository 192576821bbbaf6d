-- The columns so far.
use Rattle.std.proofs.Common.{◌≡◌, ◌++◌, map, take}
use Rattle.au_typing.specs.Selects.{owned}
use Rattle.au_typing.proofs.from_items.put_fields.Given as goal

abbrev pub invariant-loop-column : goal.invariant-loop-column
invariant-loop-column l = l.fields.items ≡ l.initial.fields.items ++ map (owned l.owner) (take l.column-index l.columns)
