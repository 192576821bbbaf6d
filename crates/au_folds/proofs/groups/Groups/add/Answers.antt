-- The table with more rows.
use Rattle.std.proofs.Common.{◌≡◌, [], ap, length, map, sym, ◌∙◌}
use Rattle.std.proofs.lemmas.List.{length-map, with_items_is}
use Rattle.std.specs.Vec.{with_items}
use Rattle.au_expr.specs.Figures.{fit}
use Rattle.au_codes.specs.CellMeaning.{cells_kept}
use Rattle.au_folds.specs.Held.{held_table, kept_in, kept_in_all}
use Rattle.au_folds.specs.Kept.{kept_with}
use Rattle.au_folds.specs.Keyed.{key_cells, key_places}
use Rattle.au_folds.specs.Tables.{Table, grown, keys_of, table_numbers, table_with}
use Rattle.au_folds.proofs.KeyRows.{places_long}
use Rattle.au_folds.proofs.PutLaws.{handed}
use Rattle.au_folds.proofs.TableShapes.{grown_is_table}
use Rattle.au_folds.proofs.groups.Groups.add.Goals as goal

pub put_all-requires-clause-long : goal.put_all-requires-clause-long
put_all-requires-clause-long c =
    let rows = c.args.rows.now in
    let seen = c.self.inside.seen in
    ap length (c.deref.ensures.value ∙ c.in_ok-places.ensures.places)
    ∙ places_long (key_cells seen) (keys_of (key_places seen) rows)
    ∙ length-map rows (cells_kept (key_places seen))

pub returns-in_err-put_all : goal.returns-in_err-put_all
returns-in_err-put_all c =
    let rows = c.args.rows.now in
    let places = c.deref.ensures.value ∙ c.in_ok-places.ensures.places in
    let folds = c.deref_mut.ensures.value in
    let numbers = ap (λ (t : Table). fit (table_numbers (grown t rows))) (sym c.self.view_is) in
    handed c.from_residual-in_err-put_all.result _ c.in_err-put_all.field-0.0 _ c.from_residual-in_err-put_all.ensures.1
    (λ over.
    numbers
    ∙ (λ i. fit (table_numbers (table_with [] [] (map (kept_with (sym places i) rows) (kept_in_all (sym folds i))))))
    ∙ c.in_err-put_all.ensures over)

pub invariant_of-result : goal.invariant_of-result
invariant_of-result c =
    let rows = c.args.rows.now in
    let seen = c.self.inside.seen in
    let held = c.self.inside.folds in
    let places = c.deref.ensures.value ∙ c.in_ok-places.ensures.places in
    let folds = c.deref_mut.ensures.value in
    let kept = c.in_ok-put_all.ensures.0 ∙ (λ i. map (kept_with (places i) rows) (kept_in_all (folds i))) in
    let long : length c.put_all.new.folds ≡ held.len =
    sym (length-map c.put_all.new.folds kept_in) ∙ ap length kept ∙ length-map (kept_in_all held.items) _ ∙ length-map held.items kept_in ∙ sym held.ok.0 in
    let whole : kept_in_all (with_items held c.put_all.new.folds).items ≡ kept_in_all c.put_all.new.folds = ap kept_in_all (with_items_is held c.put_all.new.folds long) in
    let now = held_table c.row_places.new.seen (with_items held c.put_all.new.folds).items in
    grown_is_table (held_table seen held.items) now rows c.self.invariant
    (λ i. table_with (c.in_ok-places.ensures.keys i) (c.in_ok-places.ensures.seen i) ((whole ∙ kept) i))
    (ap (λ ks. fit (table_numbers (table_with [] [] ks))) whole ∙ c.in_ok-put_all.ensures.1)
