use Rattle.std.proofs.Common.{◌≡◌, ◌≤◌, ◌-◌, ◌++◌, drop}
use Rattle.std.specs.Prelude.{sum_by}
use Rattle.au_blocks.specs.Tallies.{extents_from}
use Rattle.au_blocks.proofs.extents.extents.Given as goal

-- where the blocks so far and those that are left lie, and how many alternatives these have
abbrev pub invariant-loop-number : goal.invariant-loop-number
invariant-loop-number l = record {
  all : l.extents.items ++ extents_from (l.count - l.left) (drop l.number l.tallies) ≡ extents_from 0 l.tallies;
  left : sum_by (λ t. t.count) (drop l.number l.tallies) ≡ l.left;
  low : l.left ≤ l.count;
}
