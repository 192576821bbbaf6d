-- What is left is what the expressions so far leave.
use Rattle.std.proofs.Common.{◌≡◌, ◌+◌, map, drop}
use Rattle.au_plain.specs.PTerms.{pterm}
use Rattle.au_passes.specs.Tests.{total_weight}
use Rattle.au_passes.specs.Pushing.{most_weight}
use Rattle.au_passes.proofs.columns.are_light.Given as goal

abbrev pub invariant-loop-e : goal.invariant-loop-e
invariant-loop-e l = l.left + total_weight (map pterm l.es) ≡ most_weight + total_weight (map pterm (drop l.e-index l.es))
