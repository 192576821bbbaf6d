-- The rows so far are passed.
use Rattle.std.proofs.Common.{[], map, take}
use Rattle.au_expr.specs.Terms.{term}
use Rattle.au_keval.specs.Held.{held_entries}
use Rattle.au_keval.specs.Passes.{Passed, projected, KeepKinds}
use Rattle.au_keval.specs.Reading.{annotations, project_fits}
use Rattle.au_keval.proofs.project.project.Given as goal

abbrev pub invariant-loop-row : goal.invariant-loop-row
invariant-loop-row g l =
    let d = g.D.Domain in
    let k = g.K.Annot in
    let a = annotations k.zero k.one k.plus k.times k.at_most g.K.Weigh.weight d.truth_of in
    let items = map term l.items in
    Passed (projected a d.operators items) (project_fits d.operators d.figures a k.in_range items) (KeepKinds d.operators d.is_kind items)
    (held_entries (take l.row-index l.rows)) [] (held_entries l.done.items)
