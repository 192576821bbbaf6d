-- One key more.
use Rattle.std.proofs.Common.{◌≡◌, ◌+◌, ◌∷◌, ◌++◌, [], ℤ, List, ap, append_assoc, drop, map, sym, true, ◌∙◌, arith, to_z, of_z}
use Rattle.std.specs.Int.{w128}
use Rattle.std.proofs.lemmas.Int.{ints, to_z-of_z}
use Rattle.std.proofs.lemmas.List.{append-nil, map-append}
use Rattle.au_codes.specs.Codes.{Cells, CellRows}
use Rattle.au_codes.specs.CellMeaning.{same_cells}
use Rattle.au_columns.specs.Batches.{row_at, rows_of}
use Rattle.au_folds.specs.Keyed.{lists}
use Rattle.au_folds.specs.Packed.{unpacked, width_of}
use Rattle.au_folds.proofs.CellKeys.{same}
use Rattle.au_folds.proofs.KeyRows.{next_row, no_row}
use Rattle.au_folds.proofs.packed.packed_keys.Goals as goal

pub loop-row-preserved : goal.loop-row-preserved
loop-row-preserved c =
    let count = c.args.count in
    let d = c.args.deep in
    let cols = lists c.args.columns.now in
    let row = c.loop-row.row in
    let key = c.row_packed-key.result in
    let u : ℤ → Cells = λ z. unpacked (width_of d) d z in
    let later = drop (row + 1) (rows_of count cols) in
    let done = map u c.loop-row.keys.items in
    let kept : to_z w128 (of_z w128 key) ≡ key = search (arith, ints, to_z-of_z) in
    let alike : same_cells (row_at cols row) (u key) ≡ true =
    sym (λ j. same_cells (row_at cols row) (unpacked (c.width-width.ensures.is j) d (kept j))) ∙ c.holds_row.ensures c.if-not-holds_row.false in
    let put : c.push.new.self.items ≡ c.loop-row.keys.items ++ key ∷ [] = c.in_ok-push.ensures.items ∙ ap (λ (z : ℤ). c.loop-row.keys.items ++ z ∷ []) kept in
    ap (λ (ks : List ℤ). map u ks ++ later) put
    ∙ ap (λ (rows : CellRows). rows ++ later) (map-append u c.loop-row.keys.items (key ∷ []))
    ∙ append_assoc done (u key ∷ []) later
    ∙ ap (λ (cells : Cells). done ++ cells ∷ later) (sym (same (row_at cols row) (u key) alike))
    ∙ ap (λ (rows : CellRows). done ++ rows) (sym (next_row count cols row c.loop-row-test.true))
    ∙ c.loop-row.invariant

pub returns : goal.returns
returns c =
    let d = c.args.deep in
    let u : ℤ → Cells = λ z. unpacked (width_of d) d z in
    let none = no_row c.args.count (lists c.args.columns.now) c.loop-row.row c.loop-row-test.false in
    sym (append-nil (map u c.loop-row.keys.items)) ∙ ap (λ (rows : CellRows). map u c.loop-row.keys.items ++ rows) (sym none) ∙ c.loop-row.invariant
