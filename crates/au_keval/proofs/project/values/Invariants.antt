-- The items so far are passed.
use Rattle.std.proofs.Common.{[], map, take}
use Rattle.au_expr.specs.Terms.{term}
use Rattle.au_keval.specs.Passes.{Passed, value_step, value_fits, KeepsKind}
use Rattle.au_keval.proofs.project.values.Given as goal

abbrev pub invariant-loop-item : goal.invariant-loop-item
invariant-loop-item g l =
    let d = g.D.Domain in
    Passed (value_step d.operators l.row) (value_fits d.operators d.figures l.row) (KeepsKind d.operators d.is_kind l.row)
    (map term (take l.item-index l.items)) [] l.done.items
