use Rattle.std.proofs.Common.{◌≡◌, drop}
use Rattle.au_blocks.specs.Tallies.{tallies_defect}
use Rattle.au_blocks.proofs.extents.block_fault.Given as goal

-- the first defect of the blocks that are left is that of all
abbrev pub invariant-loop-number : goal.invariant-loop-number
invariant-loop-number l = tallies_defect l.number (drop l.number l.tallies) ≡ tallies_defect 0 l.tallies
