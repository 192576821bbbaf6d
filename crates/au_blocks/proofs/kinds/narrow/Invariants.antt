-- The columns so far stand as they are left, and the others as they were.
use Rattle.std.proofs.Common.{◌≡◌, ◌++◌, ◌∷◌, [], drop, length, take}
use Rattle.au_blocks.specs.Marks.{marks}
use Rattle.au_blocks.proofs.kinds.narrow.Given as goal

abbrev pub invariant-loop-place : goal.invariant-loop-place
invariant-loop-place l = record {
  left : take l.place l.marks ++ marks l.format (l.record ∷ []) l.place (drop l.place l.marks) ≡ marks l.format (l.record ∷ []) 0 l.fn.marks;
  long : length l.marks ≡ length l.fn.marks;
}
