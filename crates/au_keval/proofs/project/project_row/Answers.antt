-- The row's items, with its annotation.
use Rattle.std.proofs.Common.{map}
use Rattle.std.proofs.lemmas.Result.{err_from_is_err_and, MatchResult-weaker}
use Rattle.au_expr.specs.Terms.{term}
use Rattle.au_keval.specs.Held.{held_entry, held_entries}
use Rattle.au_keval.specs.Reading.{annotations}
use Rattle.au_keval.proofs.OneRow.{projected_passed}
use Rattle.au_keval.proofs.project.project_row.Goals as goal

pub returns-in_err-cells : goal.returns-in_err-cells
returns-in_err-cells g c =
    let p = err_from_is_err_and c.from_residual.result c.from_residual.ensures.1 in
    rw (p.1, p.2) (λ o. (let h = c.in_err-cells.ensures o in rw c.as_slice.ensures.value at h))

pub returns : goal.returns
returns g c =
    let d = g.D.Domain in
    let k = g.K.Annot in
    let a = annotations k.zero k.one k.plus k.times k.at_most g.K.Weigh.weight d.truth_of in
    MatchResult-weaker c.push.result c.push.ensures
    (λ u e. projected_passed d.operators d.figures a k.in_range d.is_kind (map term c.args.items.now) (held_entry c.args.row.now) c.in_ok-cells.cells.items (held_entries c.args.done.now.items) (held_entries c.push.new.done.items) (let h = c.in_ok-cells.ensures in rw c.as_slice.ensures.value at h) e)
    (λ f e o. absurd (cc))
