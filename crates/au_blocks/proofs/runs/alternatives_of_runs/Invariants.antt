use Rattle.std.proofs.Common.{◌≡◌, ◌++◌, drop}
use Rattle.std.specs.Prelude.{filter, flat_map}
use Rattle.au_blocks.specs.Inferring.{is_alternative}
use Rattle.au_blocks.specs.Order.{lent_records}
use Rattle.au_blocks.proofs.runs.alternatives_of_runs.Given as goal

-- the alternatives so far stand before those of the runs that are left
abbrev pub invariant-loop-run : goal.invariant-loop-run
invariant-loop-run l = lent_records l.records.items ++ flat_map (λ run. filter (is_alternative l.format) run.now) (drop l.run-index l.runs) ≡ flat_map (λ run. filter (is_alternative l.format) run.now) l.runs
