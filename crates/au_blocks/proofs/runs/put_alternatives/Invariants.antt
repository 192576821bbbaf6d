use Rattle.std.proofs.Common.{◌≡◌, ◌++◌, take}
use Rattle.std.specs.Prelude.{filter}
use Rattle.au_blocks.specs.Inferring.{is_alternative}
use Rattle.au_blocks.specs.Order.{lent_records}
use Rattle.au_blocks.proofs.runs.put_alternatives.Given as goal

-- the alternatives among the records so far stand behind those that were there
abbrev pub invariant-loop-place : goal.invariant-loop-place
invariant-loop-place l = lent_records l.records.items ≡ lent_records l.fn.records.items ++ filter (is_alternative l.format) (take l.place l.run)
