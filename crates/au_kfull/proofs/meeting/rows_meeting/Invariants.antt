-- The rows found so far, with those that are found among the others, are all.
use Rattle.std.proofs.Common.{◌≡◌, ◌++◌, drop, filter}
use Rattle.au_kfull.specs.Keys.{kinds, keys_of, HasKeyKinds}
use Rattle.au_kfull.specs.Meeting.{all_meet}
use Rattle.au_kfull.proofs.meeting.rows_meeting.Given as goal

abbrev pub invariant-loop-row : goal.invariant-loop-row
invariant-loop-row l = record {
  found : l.found.items ++ filter (λ r. all_meet l.how l.own (keys_of l.keys r.cells)) (drop l.row-index l.rows) ≡ filter (λ r. all_meet l.how l.own (keys_of l.keys r.cells)) l.rows;
  one_kinds : HasKeyKinds l.keys (kinds l.own) (drop l.row-index l.rows);
}
