-- The triples lie in the range where each does.
use Rattle.std.proofs.Common.{arith, ◌∙◌, ◌≤◌, length}
use Rattle.au_annot.specs.Triples.{in_range}
use Rattle.au_algebra.specs.Entries.{entry}
use Rattle.au_kfull.proofs.Fitting.{triples_fit-map, all_passed}
use Rattle.au_kfull.proofs.evaluation.read_all.Goals as goal

pub returns : goal.returns
returns c =
    let rows = c.args.rows.now in
    let past : length rows ≤ c.loop-row.row-index = grind (arith, c.loop-row-test.false) in
    triples_fit-map (λ r. entry r.0.items r.1) rows ∙ all_passed (λ r. in_range r.1) rows c.loop-row.row-index past c.loop-row.invariant
