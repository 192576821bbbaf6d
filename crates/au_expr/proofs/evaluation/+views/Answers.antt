-- Each step finds the value of its term.
use Rattle.std.specs.Prelude.{Some}
use Rattle.au_value.specs.declared.kinds.Kind.{Kind}
use Rattle.au_expr.specs.Evaluate.{HasKind}
use Rattle.std.proofs.Common.{rules, sym, subst, inl, inr, ap, ◌∙◌}
use Rattle.au_expr.specs.Terms.{term}
use Rattle.au_expr.specs.Steps.{Found, Combined}
use Rattle.au_expr.specs.Views.{seen}
use Rattle.au_expr.proofs.Steps.{Parts, step_found, step_fits, column_found, get_or_some, sum, difference, product, negation, comparison, conjunction, disjunction, opposite}
use Rattle.au_expr.proofs.evaluation.+views.Goals as goal

pub view_of-returns-in_ok-combine-in-Negate-clause-found : goal.view_of-returns-in_ok-combine-in-Negate-clause-found
view_of-returns-in_ok-combine-in-Negate-clause-found g t c =
    let d = g.D.Domain in
    let row = c.args.row.now in
    let a = term c.in-Negate.a.value in
    let e = term c.args.tree.now in
    let x = seen c.in_ok-x-in-Negate.x in
    let parts : Parts e a a = elim c.in-Negate.is [ inl h ↦ rw h negation | inr h ↦ rw h opposite ] in
    let fx : Found d.operators d.is_kind d.figures d.stands_for row a x = search (rules, c.in_ok-x-in-Negate.ensures.found) in
    let k : Combined d.operators d.is_kind d.figures d.stands_for e x x c.in_ok-combine-in-Negate.field-0 = search (rules, c.in_ok-combine-in-Negate.ensures) in
    step_found d.operators d.is_kind d.figures d.stands_for row e a a x x _ parts fx fx k

pub view_of-returns-in_ok-combine-in-Negate-clause-made : goal.view_of-returns-in_ok-combine-in-Negate-clause-made
view_of-returns-in_ok-combine-in-Negate-clause-made g t c =
    let d = g.D.Domain in
    let row = c.args.row.now in
    let a = term c.in-Negate.a.value in
    let e = term c.args.tree.now in
    let x = seen c.in_ok-x-in-Negate.x in
    let parts : Parts e a a = elim c.in-Negate.is [ inl h ↦ rw h negation | inr h ↦ rw h opposite ] in
    let fx : Found d.operators d.is_kind d.figures d.stands_for row a x = search (rules, c.in_ok-x-in-Negate.ensures.found) in
    let k : Combined d.operators d.is_kind d.figures d.stands_for e x x c.in_ok-combine-in-Negate.field-0 = search (rules, c.in_ok-combine-in-Negate.ensures) in
    step_fits d.operators d.is_kind d.figures d.stands_for row e a a x x _ parts fx fx k

pub view_of-returns-in_ok-combine-in-Add-clause-found : goal.view_of-returns-in_ok-combine-in-Add-clause-found
view_of-returns-in_ok-combine-in-Add-clause-found g t c =
    let d = g.D.Domain in
    let row = c.args.row.now in
    let a = term c.in-Add.a.value in
    let b = term c.in-Add.b.value in
    let e = term c.args.tree.now in
    let x = seen c.in_ok-x-in-Add.x in
    let y = seen c.in_ok-y-in-Add.y in
    let parts : Parts e a b = elim c.in-Add.is [
      | inl h ↦ rw h sum
      | inr r ↦ elim r [
        | inl h ↦ rw h difference
        | inr r ↦ elim r [
          | inl h ↦ rw h product
          | inr r ↦ elim r [
            | inl h ↦ rw h.1 comparison
            | inr r ↦ elim r [ inl h ↦ rw h conjunction | inr h ↦ rw h disjunction ]
          ]
        ]
      ]
    ] in
    let fx : Found d.operators d.is_kind d.figures d.stands_for row a x = search (rules, c.in_ok-x-in-Add.ensures.found) in
    let fy : Found d.operators d.is_kind d.figures d.stands_for row b y = search (rules, c.in_ok-y-in-Add.ensures.found) in
    let k : Combined d.operators d.is_kind d.figures d.stands_for e x y c.in_ok-combine-in-Add.field-0 = search (rules, c.in_ok-combine-in-Add.ensures) in
    step_found d.operators d.is_kind d.figures d.stands_for row e a b x y _ parts fx fy k

pub view_of-returns-in_ok-combine-in-Add-clause-made : goal.view_of-returns-in_ok-combine-in-Add-clause-made
view_of-returns-in_ok-combine-in-Add-clause-made g t c =
    let d = g.D.Domain in
    let row = c.args.row.now in
    let a = term c.in-Add.a.value in
    let b = term c.in-Add.b.value in
    let e = term c.args.tree.now in
    let x = seen c.in_ok-x-in-Add.x in
    let y = seen c.in_ok-y-in-Add.y in
    let parts : Parts e a b = elim c.in-Add.is [
      | inl h ↦ rw h sum
      | inr r ↦ elim r [
        | inl h ↦ rw h difference
        | inr r ↦ elim r [
          | inl h ↦ rw h product
          | inr r ↦ elim r [
            | inl h ↦ rw h.1 comparison
            | inr r ↦ elim r [ inl h ↦ rw h conjunction | inr h ↦ rw h disjunction ]
          ]
        ]
      ]
    ] in
    let fx : Found d.operators d.is_kind d.figures d.stands_for row a x = search (rules, c.in_ok-x-in-Add.ensures.found) in
    let fy : Found d.operators d.is_kind d.figures d.stands_for row b y = search (rules, c.in_ok-y-in-Add.ensures.found) in
    let k : Combined d.operators d.is_kind d.figures d.stands_for e x y c.in_ok-combine-in-Add.field-0 = search (rules, c.in_ok-combine-in-Add.ensures) in
    step_fits d.operators d.is_kind d.figures d.stands_for row e a b x y _ parts fx fy k

pub view_of-returns-in-Column-clause-found : goal.view_of-returns-in-Column-clause-found
view_of-returns-in-Column-clause-found g t c =
    let d = g.D.Domain in
    let row = c.args.row.now in
    let there = subst (λ e. (k : Kind) × HasKind d.is_kind row (term e) k) c.in-Column.is c.requires in
    let here = sym (c.index-row-i.is ∙ get_or_some row c.in-Column.i _ c.index-row-i.result there.1.1) in
    subst (λ e. Found d.operators d.is_kind d.figures d.stands_for row (term e) c.index-row-i.result) (sym c.in-Column.is)
    (column_found d.operators d.is_kind d.figures d.stands_for row c.in-Column.i c.index-row-i.result (there.1.1 ∙ ap Some here))

pub part_of-returns-in-Column-clause-found : goal.part_of-returns-in-Column-clause-found
part_of-returns-in-Column-clause-found g t c =
    let d = g.D.Domain in
    let row = c.args.row.now in
    let there = subst (λ e. (k : Kind) × HasKind d.is_kind row (term e) k) c.in-Column.is c.requires in
    let here = sym (c.index-row-i.is ∙ get_or_some row c.in-Column.i _ c.index-row-i.result there.1.1) in
    subst (λ e. Found d.operators d.is_kind d.figures d.stands_for row (term e) c.index-row-i.result) (sym c.in-Column.is)
    (column_found d.operators d.is_kind d.figures d.stands_for row c.in-Column.i c.index-row-i.result (there.1.1 ∙ ap Some here))
