-- The rows so far are behind the others.
use Rattle.std.proofs.Common.{◌≡◌, ◌++◌, take}
use Rattle.std.specs.Prelude.{flat_map}
use Rattle.au_keval.specs.Held.{held_entries}
use Rattle.au_keval.specs.Passes.{kept}
use Rattle.au_keval.specs.Reading.{annotations}
use Rattle.au_keval.proofs.rows.push_present.Given as goal

abbrev pub invariant-loop-row : goal.invariant-loop-row
invariant-loop-row g l =
    let d = g.D.Domain in
    let k = g.K.Annot in
    let a = annotations k.zero k.one k.plus k.times k.at_most g.K.Weigh.weight d.truth_of in
    held_entries l.done.items
    ≡ held_entries l.initial.done.items ++ flat_map (kept a) (held_entries (take l.row-index l.rows))
