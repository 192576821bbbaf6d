-- The places so far are in their runs, and their counts in the range.
use Rattle.std.proofs.Common.{take, length}
use Rattle.std.specs.List.{AllByRecursion}
use Rattle.au_settled.proofs.Pass.{PlacesSoFar, Stands}
use Rattle.au_settled.proofs.runs.merged.Given as goal

abbrev pub invariant-loop-place : goal.invariant-loop-place
invariant-loop-place l = record {
  runs : PlacesSoFar l.columns l.rows l.initial.current.0 (take l.place-index l.rest) l.done.items l.current;
  done : AllByRecursion (Stands (length l.rows)) l.done.items;
  current : Stands (length l.rows) l.current;
}
