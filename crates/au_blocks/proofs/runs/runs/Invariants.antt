use Rattle.std.proofs.Common.{◌≤◌, ◌<◌, length, take}
use Rattle.std.specs.Prelude.{slice_range}
use denote.Text.{Utf8}
use denote.Shadow.{shadow}
use Rattle.au_blocks.specs.BlockPlaces.{Parted}
use Rattle.au_blocks.specs.Runs.{lent_runs}
use Rattle.au_blocks.proofs.runs.runs.Given as goal

-- the runs before the last one, and the last one, of the records so far
abbrev pub invariant-loop-place : goal.invariant-loop-place
invariant-loop-place l = record {
  text : shadow (Utf8 l.last);
  order : l.begun < l.place;
  within : l.place ≤ length l.rows;
  runs : Parted (take l.place l.rows) (lent_runs l.runs.items) (slice_range l.rows l.begun l.place) l.last;
}
