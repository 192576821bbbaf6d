use Rattle.std.proofs.Common.{◌≡◌, map, take}
use Rattle.std.specs.List.{enumerate_from}
use Rattle.au_blocks.specs.Headers.{column_name}
use Rattle.au_blocks.proofs.header.column_names.Given as goal

-- the names so far
abbrev pub invariant-loop-place : goal.invariant-loop-place
invariant-loop-place l = l.names.items ≡ map (column_name l.format) (enumerate_from 0 (take l.place l.fields))
