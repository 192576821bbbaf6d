-- A record with a defect, and one without.
use Rattle.std.proofs.Common.{◌≡◌, ◌∙◌, ◌+◌, [], get_or, sym}
use Rattle.std.proofs.lemmas.List.{get_or_read}
use Rattle.au_blocks.specs.Defects.{record_defects}
use Rattle.au_blocks.proofs.First.{scan-more, scan-here}
use Rattle.au_blocks.proofs.row_faults.row_fault.Goals as goal

pub returns-in-Some : goal.returns-in-Some
returns-in-Some c =
    let rows = c.args.rows.now in
    let i = c.loop-place.place in
    let found : c.index-rows-place.result ≡ get_or rows i [] = get_or_read rows i c.index-rows-place.result c.loop-place-test.true c.index-rows-place.is [] in
    let here = rw found at (sym c.in-Some.ensures) in
    sym (c.loop-place.invariant ∙ scan-here (record_defects c.args.format c.args.width c.args.written.now) (i + 1) rows i [] c.in-Some.fault c.loop-place-test.true here)

pub loop-place-preserved : goal.loop-place-preserved
loop-place-preserved c =
    let rows = c.args.rows.now in
    let i = c.loop-place.place in
    let found : c.index-rows-place.result ≡ get_or rows i [] = get_or_read rows i c.index-rows-place.result c.loop-place-test.true c.index-rows-place.is [] in
    let here = rw found at (sym c.in_default.ensures) in
    c.loop-place.invariant ∙ scan-more (record_defects c.args.format c.args.width c.args.written.now) (i + 1) rows i [] c.loop-place-test.true here
