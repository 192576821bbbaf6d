-- The expressions so far are changed.
use Rattle.std.proofs.Common.{◌≡◌, map, take}
use Rattle.au_plain.specs.PTerms.{pterm}
use Rattle.au_passes.specs.Tests.{with_columns}
use Rattle.au_passes.specs.Places.{column_in}
use Rattle.au_passes.proofs.columns.all_changed.Given as goal

abbrev pub invariant-loop-e : goal.invariant-loop-e
invariant-loop-e l = map pterm l.all.items ≡ map (with_columns (column_in l.change)) (map pterm (take l.e-index l.es))
