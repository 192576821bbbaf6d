-- The rows so far are passed.
use Rattle.std.proofs.Common.{[], take}
use Rattle.au_expr.specs.Terms.{term}
use Rattle.au_keval.specs.Held.{held_entries}
use Rattle.au_keval.specs.Passes.{Passed, selected, WeightIsValid}
use Rattle.au_keval.specs.Reading.{annotations, select_fits}
use Rattle.au_keval.proofs.select.select_from.Given as goal

abbrev pub invariant-loop-row : goal.invariant-loop-row
invariant-loop-row g l =
    let d = g.D.Domain in
    let k = g.K.Annot in
    let a = annotations k.zero k.one k.plus k.times k.at_most g.K.Weigh.weight d.truth_of in
    let e = term l.condition in
    Passed (selected a d.operators e) (select_fits d.operators d.figures a k.in_range e) (WeightIsValid d.operators a k.IsValid e)
    (held_entries (take l.row-index l.rows)) [] (held_entries l.done.items)
