-- A cell that is no value of the written kind, and one that is.
use Rattle.std.proofs.Common.{◌≡◌, ◌∙◌, ◌<◌, ℕ, List, [], Option, None, Bool, get_or, length, min, refl, sym, arith}
use Rattle.std.specs.Prelude.{zip, not}
use Rattle.std.proofs.lemmas.Slice.Zip.{length-zip, get_or-zip}
use Rattle.au_value.specs.declared.kinds.Kind.{Kind}
use Rattle.au_blocks.specs.declared.format.Format.{Format}
use Rattle.au_blocks.specs.declared.faults.TableFault.{TableFault}
use Rattle.au_blocks.specs.declared.faults.TableFault.TheVariants as fault
use Rattle.au_blocks.specs.Headers.{cells_of}
use Rattle.au_blocks.specs.Defects.{is_field, where_true}
use Rattle.au_blocks.proofs.First.{scan-more, scan-here, scan-end}
use Rattle.au_blocks.proofs.row_faults.bad_field.Goals as goal

abbrev of_cell : Format → ℕ → ℕ × (Option Kind × List ℕ) → List TableFault
of_cell f number c = where_true (not (is_field f c.1.0 c.1.1)) (fault.BadField number c.0)

-- the defects of the cell at a place, by the test of its value
defects-at : (f : Format) (number : ℕ) (written : List (Option Kind)) (cells : List (List ℕ)) (i : ℕ) (b : Bool) → i < length written → i < length cells
    → b ≡ is_field f (get_or written i None) (get_or cells i [])
    → of_cell f number (i, get_or (zip written cells) i (None, [])) ≡ where_true (not b) (fault.BadField number i)
defects-at f number written cells i b in_written in_cells is =
    rw (get_or-zip written cells i (None, []) in_written in_cells, is) refl

pub returns-then-not-is_field : goal.returns-then-not-is_field
returns-then-not-is_field c =
    let written = c.args.written.now in
    let cells = cells_of c.args.format c.args.record.now in
    let i = c.loop-place.place in
    let end : c.min-place-end.result ≡ min (length written) (length cells) = rw c.cell_count.ensures at c.min-place-end.ensures in
    let in_cells : i < length cells = omega arith in
    let at = defects-at c.args.format c.args.number written cells i c.is_field.result (omega arith) in_cells (rw c.cell_text.ensures at c.is_field.ensures) in
    sym (c.loop-place.invariant ∙ scan-here (of_cell c.args.format c.args.number) i (zip written cells) i (None, []) (fault.BadField c.args.number i) (omega (arith, length-zip written cells)) (rw (at, c.if-not-is_field.true) refl))

pub loop-place-preserved : goal.loop-place-preserved
loop-place-preserved c =
    let written = c.args.written.now in
    let cells = cells_of c.args.format c.args.record.now in
    let i = c.loop-place.place in
    let end : c.min-place-end.result ≡ min (length written) (length cells) = rw c.cell_count.ensures at c.min-place-end.ensures in
    let in_cells : i < length cells = omega arith in
    let at = defects-at c.args.format c.args.number written cells i c.is_field.result (omega arith) in_cells (rw c.cell_text.ensures at c.is_field.ensures) in
    c.loop-place.invariant ∙ scan-more (of_cell c.args.format c.args.number) i (zip written cells) i (None, []) (omega (arith, length-zip written cells)) (rw (at, c.if-not-is_field.false) refl)

pub returns : goal.returns
returns c =
    let written = c.args.written.now in
    let cells = cells_of c.args.format c.args.record.now in
    let end : c.min-place-end.result ≡ min (length written) (length cells) = rw c.cell_count.ensures at c.min-place-end.ensures in
    sym (c.loop-place.invariant ∙ scan-end (of_cell c.args.format c.args.number) c.loop-place.place (zip written cells) c.loop-place.place (omega (arith, length-zip written cells)))
