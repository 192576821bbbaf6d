use Rattle.std.proofs.Common.{◌≡◌, ◌++◌, drop, map}
use Rattle.au_blocks.specs.declared.format.Format.TheVariants as format
use Rattle.au_blocks.specs.Entries.{entry_blocks}
use Rattle.au_blocks.specs.Tallies.{tally_of}
use Rattle.au_blocks.proofs.layout.certain.Given as goal

-- the tallies so far stand before those of the records that are left
abbrev pub invariant-loop : goal.invariant-loop
invariant-loop l = l.tallies.items ++ map tally_of (entry_blocks format.Plain (drop l.counter l.rows)) ≡ map tally_of (entry_blocks format.Plain l.rows)
