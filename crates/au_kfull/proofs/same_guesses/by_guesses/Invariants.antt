-- The keys and the groups of the rows so far.
use Rattle.std.proofs.Common.{◌≡◌, map, take}
use Rattle.au_value.specs.Lists.{distinct}
use Rattle.au_value.specs.Ranges.{guesses}
use Rattle.au_algebra.specs.Keys.{groups_by, key_values}
use Rattle.au_algebra.specs.Lists.{same_row}
use Rattle.au_kfull.specs.Keys.{keys_of}
use Rattle.au_kfull.specs.SameGuesses.{groups_held}
use Rattle.au_kfull.proofs.same_guesses.by_guesses.Given as goal

abbrev pub invariant-loop-row : goal.invariant-loop-row
invariant-loop-row l = record {
  keys : key_values l.seen.keys ≡ distinct same_row (map (λ r. guesses (keys_of l.keys r.cells)) (take l.row-index l.rows));
  groups : groups_held l.groups.items ≡ groups_by (λ r. guesses (keys_of l.keys r.cells)) (take l.row-index l.rows);
}
