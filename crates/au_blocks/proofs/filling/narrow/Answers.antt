-- One number more.
use Rattle.std.proofs.Common.{[], ◌≡◌, ◌∙◌, ℤ, Bor, arith, get_or, of_z, ap, to_z}
use Rattle.std.specs.Int.{w64}
use Rattle.std.proofs.lemmas.Int.{ints, to_z-of_z}
use Rattle.std.proofs.lemmas.List.{get_or_read}
use Rattle.au_value.specs.declared.value.Value.TheVariants as value
use Rattle.au_value.specs.Ranges.{certain}
use Rattle.au_csv.specs.Texts.{Record}
use Rattle.au_blocks.specs.Columns.{column_cells}
use Rattle.au_blocks.specs.Entries.{field}
use Rattle.au_blocks.specs.Headers.{cells_of}
use Rattle.au_blocks.specs.Read.{cell}
use Rattle.au_blocks.proofs.Filled.{filled-more, number-cell}
use Rattle.au_blocks.proofs.filling.narrow.Goals as goal

pub loop-record-preserved : goal.loop-record-preserved
loop-record-preserved c =
    let f = c.args.format in
    let k = c.args.kind in
    let place = c.args.place in
    let rows = c.args.records.now in
    let i = c.loop-record.record-index in
    let n = c.in-Some.number in
    let within = c.loop-record-test.true in
    let none : Bor Record = record { ref_ptr = (0, 0); now = [] } in
    let at : c.record-item.result ≡ get_or rows i none = get_or_read rows i c.record-item.result within c.record-item.is none in
    let is : certain (value.Int n) ≡ cell (k, field place (cells_of f (get_or rows i none).now)) =
    number-cell k c.cell_text.result.now n c.requires (c.in-Some.ensures) ∙ ap (λ t. cell (k, t)) (c.cell_text.ensures ∙ ap (λ (r : Bor Record). field place (cells_of f r.now)) at) in
    let fits : to_z w64 (of_z w64 n) ≡ n = search (arith, ints, to_z-of_z) in
    rw (c.in_ok-push.ensures.items, fits) (filled-more (λ (m : ℤ). certain (value.Int m)) f k place rows i none n c.loop-record.numbers.items (column_cells f k place rows) within is c.loop-record.invariant)
