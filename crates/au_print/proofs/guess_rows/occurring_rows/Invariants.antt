-- So far the rows before this one that occur are found.
use Rattle.std.proofs.Common.{◌≡◌, map, take}
use Rattle.au_algebra.specs.Counted.{occurring}
use Rattle.au_algebra.specs.Entries.{entry}
use Rattle.au_print.specs.Places.{row_at}
use Rattle.au_print.proofs.guess_rows.occurring_rows.Given as goal

abbrev pub invariant-loop-place : goal.invariant-loop-place
invariant-loop-place l =
    map (row_at (map (λ r. entry r.0.items r.1) l.rows)) l.found.items ≡ occurring (take l.place (map (λ r. entry r.0.items r.1) l.rows))
