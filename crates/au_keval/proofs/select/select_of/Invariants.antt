-- The rows that came are passed.
use Rattle.std.proofs.Common.{◌≡◌, ◌++◌, [], length}
use Rattle.std.specs.Vec.Iter.{into_iter_items, into_iter_len}
use Rattle.au_expr.specs.Terms.{term}
use Rattle.au_keval.specs.Held.{held_entries}
use Rattle.au_keval.specs.Passes.{Passed, selected, WeightIsValid}
use Rattle.au_keval.specs.Reading.{annotations, select_fits}
use Rattle.au_keval.proofs.select.select_of.Given as goal

abbrev pub invariant-loop-row : goal.invariant-loop-row
invariant-loop-row g l =
    let d = g.D.Domain in
    let k = g.K.Annot in
    let a = annotations k.zero k.one k.plus k.times k.at_most g.K.Weigh.weight d.truth_of in
    let e = term l.condition in
    record {
      can : (goal.iterator-loop-row g).can_next l.row-iterator;
      finite : (goal.iterator-loop-row g).is_finite l.row-iterator;
      left : l.yielded ++ into_iter_items l.row-iterator ≡ into_iter_items l.initial.row-iterator;
      count : into_iter_len l.row-iterator ≡ length (into_iter_items l.row-iterator);
      passed : Passed (selected a d.operators e) (select_fits d.operators d.figures a k.in_range e) (WeightIsValid d.operators a k.IsValid e)
          (held_entries l.yielded) [] (held_entries l.done.items);
    }
