-- The places so far are in their runs, and their counts in the range.
use Rattle.std.proofs.Common.{◌<◌, ◌^◌, take}
use Rattle.std.specs.List.{AllByRecursion}
use Rattle.au_print.proofs.CountedRuns.{Fits, PlacesSoFar}
use Rattle.au_print.proofs.guess_rows.merged.Given as goal

abbrev pub invariant-loop-next : goal.invariant-loop-next
invariant-loop-next l = record {
  runs : PlacesSoFar l.fn.rows l.initial.current (take l.next-index l.rest) l.done.items l.current;
  done : AllByRecursion Fits l.done.items;
  current : l.current.1 < 2 ^ 127;
}
