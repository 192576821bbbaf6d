-- The rows so far, with those that are left, are all.
use Rattle.std.proofs.Common.{◌≡◌, ◌++◌, map, drop}
use Rattle.au_algebra.specs.Entries.{entry}
use Rattle.au_algebra.specs.Positive.{guessed_rows}
use Rattle.au_kfull.proofs.embedding.guesses.Given as goal

abbrev pub invariant-loop-row : goal.invariant-loop-row
invariant-loop-row l = l.rel ++ guessed_rows (map (λ r. entry r.0.items r.1) (drop l.row-index l.rows)) ≡ guessed_rows (map (λ r. entry r.0.items r.1) l.rows)
