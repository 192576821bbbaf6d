-- The expressions so far are renumbered, and the others are as they were.
use Rattle.std.proofs.Common.{◌≡◌, ℕ, ◌<◌, get_or}
use Rattle.au_plain.specs.declared.expr.PExpr.{PExpr}
use Rattle.au_plain.specs.PTerms.{pterm}
use Rattle.au_passes.specs.Pruning.{renumbered}
use Rattle.au_passes.proofs.renumber.+renumber.Given as goal

abbrev pub invariant-renumber_all-loop-i : goal.invariant-renumber_all-loop-i
invariant-renumber_all-loop-i l =
    goal.unvisited-renumber_all-loop-i l
    × ((k : ℕ) (d : PExpr) → k < l.i → pterm (get_or l.es.items k d) ≡ renumbered l.found (pterm (get_or l.initial.es.items k d)))
