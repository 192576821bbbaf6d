use Rattle.std.proofs.Common.{◌≡◌, ◌++◌, drop, map}
use Rattle.au_blocks.specs.Entries.{entries_of}
use Rattle.au_blocks.specs.Tallies.{tally_of}
use Rattle.au_blocks.proofs.runs.tallies_of_runs.Given as goal

-- the tallies so far stand before those of the runs that are left
abbrev pub invariant-loop-run : goal.invariant-loop-run
invariant-loop-run l = l.tallies.items ++ map (λ run. tally_of (entries_of l.format run.now)) (drop l.run-index l.runs) ≡ map (λ run. tally_of (entries_of l.format run.now)) l.runs
