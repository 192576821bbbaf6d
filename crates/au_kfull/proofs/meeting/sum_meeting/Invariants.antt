-- The sum so far, with that over the rows that are left, is that over all rows.
use Rattle.std.proofs.Common.{◌≡◌, ◌+◌, drop}
use Rattle.au_kfull.specs.Keys.{kinds, HasKinds}
use Rattle.au_kfull.specs.Meeting.{sum_meeting}
use Rattle.au_kfull.proofs.meeting.sum_meeting.Given as goal

abbrev pub invariant-loop-row : goal.invariant-loop-row
invariant-loop-row l = record {
  sum : l.sum + sum_meeting l.how l.part l.cells (drop l.row-index l.rows) ≡ sum_meeting l.how l.part l.cells l.rows;
  one_kinds : HasKinds (kinds l.cells) (drop l.row-index l.rows);
}
