-- The row at a place is the one that is read.
use Rattle.std.proofs.Common.{arith, ◌∙◌, ap, map, Vec, Global, ℕ}
use Rattle.au_value.specs.declared.value.Value.{Value}
use Rattle.au_algebra.specs.Counted.{CountedRow}
use Rattle.au_algebra.specs.Entries.{entry}
use Rattle.au_print.specs.Places.{row_at}
use Rattle.au_print.proofs.PlacedRows.{one_found, none_found}
use Rattle.au_print.proofs.guess_rows.occurring_rows.Goals as goal
use Rattle.au_print.proofs.guess_rows.occurring_rows.Goals.{then-get-gt0+in_ok-push, else-get-gt0}

abbrev row : Vec Value Global × ℕ → CountedRow
row r = entry r.0.items r.1

pub loop-place-preserved : goal.loop-place-preserved
loop-place-preserved c =
    let rows = c.args.rows.now in
    let item = c.index-rows-place.result in
    let count = c.get.ensures.value in
    elim c.if-get-gt0.branch [
      | then-get-gt0+in_ok-push w ↦ one_found row rows c.loop-place.place item c.loop-place-test.true c.index-rows-place.is c.loop-place.found.items c.if-get-gt0.found.items c.loop-place.invariant (omega (arith, w.if-get-gt0.true, count)) (ap (λ v. v.items) w.found-is ∙ w.in_ok-push.ensures.items)
      | else-get-gt0 w ↦ ap (λ v. map (row_at (map row rows)) v.items) w.found-is ∙ none_found row rows c.loop-place.place item c.loop-place-test.true c.index-rows-place.is c.loop-place.found.items c.loop-place.invariant (omega (arith, w.if-get-gt0.false, count))
    ]
