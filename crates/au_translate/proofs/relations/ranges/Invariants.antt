-- The ranges so far, with those of the columns that are left, are those of all columns, for which there is room.
use Rattle.std.proofs.Common.{◌≡◌, ◌≤◌, ◌++◌, drop, length}
use Rattle.std.specs.Prelude.{vec_capacity, vec_len}
use Rattle.au_value.specs.Ranges.{guesses}
use Rattle.au_translate.specs.Translate.{ranges_of}
use Rattle.au_translate.proofs.Alternatives.{spans_from}
use Rattle.au_translate.proofs.relations.ranges.Given as goal

abbrev pub invariant-loop-at : goal.invariant-loop-at
invariant-loop-at l = record {
  ranges : l.ranges.items ++ spans_from l.block.alternatives l.at (guesses (drop l.at l.shown.cells)) ≡ ranges_of l.block;
  made : vec_len l.ranges ≡ l.at;
  room : length l.shown.cells ≤ vec_capacity l.ranges;
}
