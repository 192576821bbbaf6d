-- The values so far, with those of the places that are left, are those of all places.
use Rattle.std.proofs.Common.{◌≡◌, ◌++◌, drop}
use Rattle.au_value.specs.Ranges.{guesses}
use Rattle.au_algebra.specs.Entries.{entry}
use Rattle.au_plain.specs.Meaning.{kept}
use Rattle.au_rwcounted.specs.CountedRows.{counts_row, two_counts}
use Rattle.au_ua.proofs.counted_rows.kept_row.Given as goal

abbrev pub invariant-loop-place : goal.invariant-loop-place
invariant-loop-place l =
    l.row.items ++ kept (drop l.place-index l.places) (counts_row (two_counts (entry (guesses l.alternative.cells) l.pair))) ≡ kept l.places (counts_row (two_counts (entry (guesses l.alternative.cells) l.pair)))
