-- The columns of the expressions that are left are to be marked.
use Rattle.std.proofs.Common.{◌≡◌, flat_map, drop}
use Rattle.au_plain.specs.PTerms.{pterm}
use Rattle.au_passes.specs.Reading.{columns, mark_all}
use Rattle.au_passes.proofs.reads.+mark.Given as goal

abbrev pub invariant-mark_each-loop-e : goal.invariant-mark_each-loop-e
invariant-mark_each-loop-e l =
    mark_all (flat_map (λ e. columns (pterm e)) (drop l.e-index l.es)) l.marks ≡ mark_all (flat_map (λ e. columns (pterm e)) l.es) l.initial.marks
