use Rattle.std.proofs.Common.{◌≡◌, take}
use Rattle.au_blocks.specs.Entries.{entries_of}
use Rattle.au_blocks.specs.Tallies.{tally_of}
use Rattle.au_blocks.proofs.runs.tally.Given as goal

-- what the records so far amount to
abbrev pub invariant-loop-place : goal.invariant-loop-place
invariant-loop-place l = l.tally ≡ tally_of (entries_of l.format (take l.place l.run))
