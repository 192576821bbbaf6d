-- The embedded rows are relations of the tables' kinds.
use Rattle.std.proofs.Common.{◌≡◌, ◌∙◌, ap, sym, subst}
use Rattle.std.proofs.lemmas.Result.{err_from_is_err_and}
use Rattle.au_algebra.specs.Laws.{IsRelation}
use Rattle.au_kfull.specs.Embedding.{embedded}
use Rattle.au_kfull.specs.Numbers.{difference_fits}
use Rattle.au_kfull.proofs.NonPositiveValues.{tables_alike}
use Rattle.au_kfull.proofs.values.difference.Goals as goal

pub difference-requires : goal.difference-requires
difference-requires c =
    let o = tables_alike c.args.left.now c.args.right.now c.requires in (
      o.0,
      subst (IsRelation o.0) (sym (c.in_ok-left.ensures ∙ ap embedded c.rows.ensures)) o.1,
      subst (IsRelation o.0) (sym (c.in_ok-right.ensures ∙ ap embedded c.rows-2.ensures)) o.2,
    )

pub returns-in_err-rest : goal.returns-in_err-rest
returns-in_err-rest c =
    let p = err_from_is_err_and c.from_residual-in_err-rest.result c.from_residual-in_err-rest.ensures.1 in
    let left : embedded c.args.left.now ≡ c.in_ok-left.left = sym (c.in_ok-left.ensures ∙ ap embedded c.rows.ensures) in
    let right : embedded c.args.right.now ≡ c.in_ok-right.right = sym (c.in_ok-right.ensures ∙ ap embedded c.rows-2.ensures) in
    rw (p.1, p.2) (λ o. (λ i. difference_fits (left i) (right i)) ∙ c.in_err-rest.ensures.overflow o)
