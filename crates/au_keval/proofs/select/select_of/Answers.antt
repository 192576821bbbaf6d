-- One row more, or one that fails.
use Rattle.std.proofs.Common.{◌≡◌, ◌++◌, ◌∷◌, false, subst, sym, ap, ◌∙◌}
use Rattle.std.proofs.lemmas.Result.{err_from_is_err_and}
use Rattle.std.specs.List.{list_all, AllByRecursion}
use Rattle.std.specs.Vec.Iter.{into_iter_items}
use Rattle.au_expr.specs.Terms.{term}
use Rattle.au_keval.specs.Held.{held_entry, held_entries}
use Rattle.au_keval.specs.Passes.{IsCondition}
use Rattle.au_keval.specs.Reading.{annotations, select_fits}
use Rattle.au_keval.proofs.Passes.{all_at_front, fails_behind}
use Rattle.au_keval.proofs.select.select_of.Goals as goal

pub select_made-requires : goal.select_made-requires
select_made-requires g c =
    let whole : c.loop-row.yielded ++ c.in-Some.row ∷ into_iter_items c.next.new.self ≡ c.args.rows.items =
    ap (λ xs. c.loop-row.yielded ++ xs) (sym c.in-Some.ensures.steps.0) ∙ c.loop-row.invariant.left ∙ c.into_iter-row-iterator.ensures.into_iter_gives.0 in
    all_at_front (IsCondition g.D.Domain.is_kind (term c.args.condition.now)) held_entry c.loop-row.yielded c.in-Some.row (into_iter_items c.next.new.self)
    (subst (λ xs. AllByRecursion (IsCondition g.D.Domain.is_kind (term c.args.condition.now)) (held_entries xs)) (sym whole) c.requires)

pub returns-in_err-select_made : goal.returns-in_err-select_made
returns-in_err-select_made g c =
    let d = g.D.Domain in
    let k = g.K.Annot in
    let a = annotations k.zero k.one k.plus k.times k.at_most g.K.Weigh.weight d.truth_of in
    let whole : c.loop-row.yielded ++ c.in-Some.row ∷ into_iter_items c.next.new.self ≡ c.args.rows.items =
    ap (λ xs. c.loop-row.yielded ++ xs) (sym c.in-Some.ensures.steps.0) ∙ c.loop-row.invariant.left ∙ c.into_iter-row-iterator.ensures.into_iter_gives.0 in
    let test = select_fits d.operators d.figures a k.in_range (term c.args.condition.now) in
    let p = err_from_is_err_and c.from_residual.result c.from_residual.ensures.1 in
    rw (p.1, p.2)
    (λ o. subst (λ xs. list_all test (held_entries xs) ≡ false) whole
    (fails_behind test held_entry c.loop-row.yielded c.in-Some.row (into_iter_items c.next.new.self) (c.in_err-select_made.ensures o)))
