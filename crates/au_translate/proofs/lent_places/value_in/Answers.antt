-- The value is that of the place's column, and a place behind all columns is one of a count.
use Rattle.std.proofs.Common.{◌≡◌, ◌∙◌, ◌<◌, ◌/◌, ◌%◌, ◌+◌, ◌*◌, ◌-◌, [], ◌∷◌, ap, arith, length, sym, subst}
use Rattle.au_algebra.specs.Lists.{value_at}
use Rattle.au_encode.specs.Encode.{encode_cells, encode_counts}
use Rattle.au_translate.specs.Translate.{candidate_cell, ranges_of, marked_or_first, span_in, triple_of}
use Rattle.au_translate.proofs.PlaceValues.{behind_cells, by_column, length-spans, span_at}
use Rattle.au_translate.proofs.ShownCells.{cell_at, wide}
use Rattle.au_translate.proofs.lent_places.value_in.Goals as goal

pub part-requires-clause-wide : goal.part-requires-clause-wide
part-requires-clause-wide c =
    let at = c.args.place / 3 in
    let low = subst (λ n. at < n) (c.width-width.ensures ∙ ap (λ a. length a.cells) c.requires.shown) c.if-at-width.true in
    wide c.requires.kinds.0 c.args.block.now c.requires.kinds.1 c.requires.place at low

pub returns-then-at-width : goal.returns-then-at-width
returns-then-at-width c =
    let b = c.args.block.now in
    let shown = marked_or_first b in
    let at = c.args.place / 3 in
    let low = subst (λ n. at < n) (c.width-width.ensures ∙ ap (λ a. length a.cells) c.requires.shown) c.if-at-width.true in
    let u = candidate_cell at shown in
    let here = span_at b.alternatives shown.cells 0 at at u (omega arith) (cell_at shown at low) in
    let whole = by_column (ranges_of b) (encode_counts (triple_of b)) c.args.place (span_in b.alternatives at u.sg) here in
    c.part.ensures ∙ ap (λ a. value_at (encode_cells (span_in b.alternatives at (candidate_cell at a).sg ∷ [])) (c.args.place % 3)) c.requires.shown ∙ sym whole

pub returns : goal.returns
returns c =
    let b = c.args.block.now in
    let n = c.width-width.result in
    let long : length (ranges_of b) ≡ n = length-spans b.alternatives (marked_or_first b).cells 0 ∙ sym (c.width-width.ensures ∙ ap (λ a. length a.cells) c.requires.shown) in
    let at : c.args.place ≡ 3 * length (ranges_of b) + (c.args.place - 3 * n) = omega (arith, long, c.if-at-width.false) in
    c.count_at.ensures ∙ ap (λ t. value_at (encode_counts t) (c.args.place - 3 * n)) c.triple.ensures ∙ sym (behind_cells (ranges_of b) (encode_counts (triple_of b)) (c.args.place - 3 * n) c.args.place at)
