-- A row that fails.
use Rattle.std.proofs.lemmas.Result.{err_from_is_err_and}
use Rattle.au_expr.specs.Terms.{term}
use Rattle.au_keval.specs.Held.{held_entry}
use Rattle.au_keval.specs.Passes.{IsCondition}
use Rattle.au_keval.specs.Reading.{annotations, select_fits}
use Rattle.au_keval.proofs.Passes.{all_at_view, fails_at}
use Rattle.au_keval.proofs.select.select_from.Goals as goal

pub select_lent-requires : goal.select_lent-requires
select_lent-requires g c =
    all_at_view (IsCondition g.D.Domain.is_kind (term c.args.condition.now)) held_entry c.args.rows.now c.loop-row.row-index c.row-item.result c.loop-row-test.true c.row-item.is c.requires

pub returns-in_err-select_lent : goal.returns-in_err-select_lent
returns-in_err-select_lent g c =
    let d = g.D.Domain in
    let k = g.K.Annot in
    let a = annotations k.zero k.one k.plus k.times k.at_most g.K.Weigh.weight d.truth_of in
    let p = err_from_is_err_and c.from_residual.result c.from_residual.ensures.1 in
    rw (p.1, p.2)
    (λ o. fails_at (select_fits d.operators d.figures a k.in_range (term c.args.condition.now)) held_entry c.args.rows.now c.loop-row.row-index c.row-item.result c.loop-row-test.true c.row-item.is (c.in_err-select_lent.ensures o))
