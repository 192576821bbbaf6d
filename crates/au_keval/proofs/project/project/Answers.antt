-- One row more, or one whose numbers don't fit.
use Rattle.std.proofs.Common.{map}
use Rattle.std.proofs.lemmas.Result.{err_from_is_err_and}
use Rattle.au_expr.specs.Terms.{term}
use Rattle.au_keval.specs.Held.{held_entry}
use Rattle.au_keval.specs.Passes.{HaveKinds}
use Rattle.au_keval.specs.Reading.{annotations, project_fits}
use Rattle.au_keval.proofs.Passes.{all_at_view, fails_at}
use Rattle.au_keval.proofs.project.project.Goals as goal

pub project_row-requires : goal.project_row-requires
project_row-requires g c =
    all_at_view (HaveKinds g.D.Domain.is_kind (map term c.args.items.now)) held_entry c.args.rows.now c.loop-row.row-index c.row-item.result c.loop-row-test.true c.row-item.is c.requires

pub returns-in_err-project_row : goal.returns-in_err-project_row
returns-in_err-project_row g c =
    let d = g.D.Domain in
    let k = g.K.Annot in
    let a = annotations k.zero k.one k.plus k.times k.at_most g.K.Weigh.weight d.truth_of in
    let p = err_from_is_err_and c.from_residual.result c.from_residual.ensures.1 in
    rw (p.1, p.2)
    (λ o. fails_at (project_fits d.operators d.figures a k.in_range (map term c.args.items.now)) held_entry c.args.rows.now c.loop-row.row-index c.row-item.result c.loop-row-test.true c.row-item.is (c.in_err-project_row.ensures o))
