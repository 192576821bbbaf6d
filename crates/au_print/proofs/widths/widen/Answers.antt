-- One text more widens one column, if there is one.
use Rattle.std.proofs.Common.{◌≡◌, ◌+◌, ◌<◌, length, arith, refl, sym, ◌∙◌, ap, subst, get_or, ltb-true, ltb-false, ◌++◌, ◌∷◌, [], take, Some, None}
use Rattle.std.specs.Prelude.{IfSome, is_some, slice_get}
use Rattle.std.proofs.lemmas.List.{length-take}
use Rattle.std.proofs.lemmas.Option.{slice_get_past, slice_get_read}
use Rattle.au_print.specs.Tables.{characters, cell_text, cell_texts, widened, widened_at}
use Rattle.au_print.proofs.KindCells.{cells_past, cells_push, cells_size, no_cells}
use Rattle.au_print.proofs.PlacedRows.{item_next}
use Rattle.au_print.proofs.TableWidths.{none_widened, widened_more}
use Rattle.au_print.proofs.widths.widen.Goals as goal
use Rattle.au_print.proofs.widths.widen.Goals.{in-Some+in_ok-push_cell, in_default}

pub loop-i-init : goal.loop-i-init
loop-i-init c = sym (ap (widened c.args.columns.now.items) (no_cells c.args.kinds.now) ∙ none_widened c.args.columns.now.items)

pub loop-i-preserved : goal.loop-i-preserved
loop-i-preserved c =
    let ranges = c.args.ranges.now in
    let kinds = c.args.kinds.now in
    let columns = c.args.columns.now.items in
    let item = c.index-ranges-i.result in
    let seen = take c.loop-i.i ranges in
    let next : take (c.loop-i.i + 1) ranges ≡ seen ++ item ∷ [] = item_next ranges c.loop-i.i item c.loop-i-test.true c.index-ranges-i.is in
    let size : length seen ≡ c.loop-i.i = omega (arith, length-take c.loop-i.i ranges, c.loop-i-test.true) in
    elim c.match-get.branch [
      | in-Some+in_ok-push_cell w ↦ (
          let kind = w.in-Some.kind.now in
          let inside : c.loop-i.i < length kinds = ltb-true c.loop-i.i (length kinds) (sym c.get.ensures.lookup.0 ∙ ap is_some w.in-Some.is) in
          let at = subst (λ o. IfSome o (λ k. k.now ≡ get_or kinds c.loop-i.i k.now)) w.in-Some.is c.get.ensures.lookup.1 in
          let found : slice_get kinds (length seen) ≡ Some kind = ap (slice_get kinds) size ∙ slice_get_read kinds (length kinds) c.loop-i.i kind refl inside at in
          let long : length (cell_texts kinds seen) ≡ c.loop-i.i = cells_size kinds seen (omega (arith, size, inside)) ∙ size in
          let text = w.as_slice.ensures.value ∙ w.in_ok-push_cell.ensures ∙ ap (λ t. t ++ cell_text kind item) w.clear.ensures.items in
          let width = w.characters-width.ensures ∙ ap characters text in
          ap (λ v. v.items) w.columns-is
          ∙ w.widen_at.ensures
          ∙ (λ j. widened_at (c.loop-i.invariant j) (sym long j) (width j))
          ∙ sym (widened_more columns (cell_texts kinds seen) (cell_text kind item))
          ∙ ap (widened columns) (sym (ap (cell_texts kinds) next ∙ cells_push kinds seen kind item found)))
      | in_default w ↦ (
          let outside = ltb-false c.loop-i.i (length kinds) (sym c.get.ensures.lookup.0 ∙ ap is_some w.in_default.is) in
          let gone : slice_get kinds (length seen) ≡ None = ap (slice_get kinds) size ∙ slice_get_past kinds c.loop-i.i outside in
          ap (λ v. v.items) w.columns-is
          ∙ c.loop-i.invariant
          ∙ ap (widened columns) (sym (ap (cell_texts kinds) next ∙ cells_past kinds seen item gone)))
    ]
