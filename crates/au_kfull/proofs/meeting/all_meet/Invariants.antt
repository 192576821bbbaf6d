-- Whether what is left of both rows meets is whether the rows do.
use Rattle.std.proofs.Common.{◌≡◌, length}
use Rattle.au_kfull.specs.Keys.{kinds}
use Rattle.au_kfull.specs.Meeting.{all_meet}
use Rattle.au_kfull.proofs.meeting.all_meet.Given as goal

abbrev pub invariant-loop-x : goal.invariant-loop-x
invariant-loop-x l = record {
  same : all_meet l.how l.left l.right ≡ all_meet l.how l.a l.b;
  one_kinds : kinds l.left ≡ kinds l.right;
}

abbrev pub decreases-loop-x : goal.decreases-loop-x
decreases-loop-x l = length l.left
