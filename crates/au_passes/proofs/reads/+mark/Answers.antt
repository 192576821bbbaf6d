-- The columns of an expression are those of its parts, in turn.
use Rattle.std.proofs.Common.{◌≡◌, ◌++◌, suc, rules, refl, sym, ap, ◌∙◌, inl, inr, flat_map, drop, add-one}
use Rattle.au_plain.specs.declared.expr.PExpr.{PExpr}
use Rattle.au_plain.specs.PTerms.{pterm}
use Rattle.au_passes.specs.Reading.{columns, mark_all}
use Rattle.au_passes.proofs.Marks.{in_two, left_to_mark, least_columns, greatest_columns}
use Rattle.au_passes.proofs.reads.+mark.Goals as goal

pub mark-returns-in-Case : goal.mark-returns-in-Case
mark-returns-in-Case t c =
    let whole : columns (pterm c.args.tree.now) ≡ columns (pterm c.in-Case.c.value) ++ (columns (pterm c.in-Case.a.value) ++ columns (pterm c.in-Case.b.value)) = search rules in
    let parts = whole ∙ (λ i. columns (pterm (sym c.deref.ensures i)) ++ (columns (pterm (sym c.deref-in-Case.ensures i)) ++ columns (pterm (sym c.deref-in-Case-2.ensures i)))) in
    let first = columns (pterm c.deref.result.now) in
    let second = columns (pterm c.deref-in-Case.result.now) in
    let third = columns (pterm c.deref-in-Case-2.result.now) in
    in_two _ first (second ++ third) _ c.mark.new.marks _ parts c.mark.ensures
    (in_two _ second third _ c.mark-in-Case.new.marks _ refl c.mark-in-Case.ensures c.mark-in-Case-2.ensures)

pub mark-returns-in-Least : goal.mark-returns-in-Least
mark-returns-in-Least t c =
    let whole : columns (pterm c.args.tree.now) ≡ flat_map (λ e. columns (pterm e)) c.in-Least.es.items =
    elim c.in-Least.is [ inl e ↦ ap (λ t. columns (pterm t)) e ∙ least_columns c.in-Least.es | inr e ↦ ap (λ t. columns (pterm t)) e ∙ greatest_columns c.in-Least.es ]
    in
    c.mark_each.ensures ∙ ap (λ es. mark_all (flat_map (λ e. columns (pterm e)) es) c.args.marks.now) c.deref-in-Least.ensures.value
    ∙ sym (ap (λ cs. mark_all cs c.args.marks.now) whole)

pub mark-returns-in-Add : goal.mark-returns-in-Add
mark-returns-in-Add t c =
    let whole : columns (pterm c.args.tree.now) ≡ columns (pterm c.in-Add.a.value) ++ columns (pterm c.in-Add.b.value) = search rules in
    let parts = whole ∙ (λ i. columns (pterm (sym c.deref-in-Add.ensures i)) ++ columns (pterm (sym c.deref-in-Add-2.ensures i))) in
    in_two _ (columns (pterm c.deref-in-Add.result.now)) (columns (pterm c.deref-in-Add-2.result.now)) _ c.mark-in-Add.new.marks _ parts
    c.mark-in-Add.ensures c.mark-in-Add-2.ensures

pub mark_each-loop-e-preserved : goal.mark_each-loop-e-preserved
mark_each-loop-e-preserved t c =
    let f = λ (e : PExpr). columns (pterm e) in
    let es = c.args.es.now in
    let i = c.loop-e.e-index in
    ap (λ n. mark_all (flat_map f (drop n es)) c.mark.new.marks) (add-one i)
    ∙ ap (mark_all (flat_map f (drop (suc i) es))) (c.mark.ensures ∙ ap (λ e. mark_all (f e) c.loop-e.marks) c.e-item.is)
    ∙ sym (left_to_mark f es i c.e-item.result c.loop-e.marks c.loop-e-test.true)
    ∙ c.loop-e.invariant
