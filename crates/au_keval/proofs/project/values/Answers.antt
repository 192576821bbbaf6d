-- One item more, or one whose numbers don't fit.
use Rattle.std.proofs.lemmas.Result.{err_from_is_err_and}
use Rattle.au_expr.specs.Terms.{term}
use Rattle.au_keval.specs.Passes.{HasSomeKind, value_fits}
use Rattle.au_keval.proofs.Passes.{all_at_view, fails_at}
use Rattle.au_keval.proofs.project.values.Goals as goal

pub push_value-requires : goal.push_value-requires
push_value-requires g c =
    all_at_view (HasSomeKind g.D.Domain.is_kind c.args.row.now) term c.args.items.now c.loop-item.item-index c.item-item.result c.loop-item-test.true c.item-item.is c.requires

pub returns-in_err-push_value : goal.returns-in_err-push_value
returns-in_err-push_value g c =
    let d = g.D.Domain in
    let p = err_from_is_err_and c.from_residual.result c.from_residual.ensures.1 in
    rw (p.1, p.2)
    (λ o. fails_at (value_fits d.operators d.figures c.args.row.now) term c.args.items.now c.loop-item.item-index c.item-item.result c.loop-item-test.true c.item-item.is (c.in_err-push_value.ensures o))
