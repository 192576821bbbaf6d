-- The alternatives fit some kinds, the row that is shown is one of them, and the range of a column is the next one.
use Rattle.std.proofs.Common.{◌<◌, ◌+◌, ◌∙◌, [], ◌∷◌, ap, drop, length, subst}
use Rattle.au_value.specs.Ranges.{guesses}
use Rattle.au_encode.specs.Encode.{encode_cells}
use Rattle.au_translate.specs.Translate.{candidate_cell, span_in}
use Rattle.au_translate.proofs.Alternatives.{spans_from}
use Rattle.au_translate.proofs.Places.{next_part}
use Rattle.au_translate.proofs.ShownCells.{next_span, wide}
use Rattle.au_translate.proofs.encodings.encoded_row.Goals as goal

pub push_column-requires-clause-wide : goal.push_column-requires-clause-wide
push_column-requires-clause-wide c =
    let low = subst (λ n. c.loop-at.at < n) (c.width-at-end.ensures ∙ ap (λ a. length a.cells) c.marked_or_first-shown.ensures.of) c.loop-at-test.true in
    wide c.requires.0 c.args.block.now c.requires.1 c.marked_or_first-shown.ensures.place c.loop-at.at low

pub loop-at-preserved : goal.loop-at-preserved
loop-at-preserved c =
    let alternatives = c.args.block.now.alternatives in
    let shown = c.marked_or_first-shown.result in
    let at = c.loop-at.at in
    let low = subst (λ n. at < n) c.width-at-end.ensures c.loop-at-test.true in
    let here = encode_cells (span_in alternatives at (candidate_cell at shown).sg ∷ []) in
    let later = encode_cells (spans_from alternatives (at + 1) (guesses (drop (at + 1) shown.cells))) in
    let left = encode_cells (spans_from alternatives at (guesses (drop at shown.cells))) in
    record {
      values = next_part c.loop-at.row.items here later left _ _ c.in_ok-push_column.ensures.row (ap encode_cells (next_span alternatives shown at low)) c.loop-at.invariant.values;
      fits = c.in_ok-push_column.ensures.fits c.loop-at.invariant.fits;
    }
