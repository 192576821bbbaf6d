-- The alternatives fit some kinds, the row that is shown is one of them, and the range of a column is the next one.
use Rattle.std.proofs.Common.{◌≤◌, ◌<◌, ◌+◌, ◌∙◌, [], ◌∷◌, ◌++◌, ap, drop, length, subst, sym}
use Rattle.au_value.specs.Ranges.{IsRange, guesses}
use Rattle.au_translate.specs.Translate.{candidate_cell, span_in}
use Rattle.au_translate.proofs.Alternatives.{spans_from}
use Rattle.au_translate.proofs.Places.{next_part}
use Rattle.au_translate.proofs.ShownCells.{next_span, shown_range, wide}
use Rattle.au_translate.proofs.relations.ranges.Goals as goal

pub column_range-requires-clause-wide : goal.column_range-requires-clause-wide
column_range-requires-clause-wide c =
    let low = subst (λ n. c.loop-at.at < n) (c.width-at-end.ensures ∙ ap (λ a. length a.cells) c.marked_or_first-shown.ensures.of) c.loop-at-test.true in
    wide c.requires.0 c.args.block.now c.requires.1 c.marked_or_first-shown.ensures.place c.loop-at.at low

pub column_range-requires-clause-range : goal.column_range-requires-clause-range
column_range-requires-clause-range c =
    let b = c.args.block.now in
    let low = subst (λ n. c.loop-at.at < n) (c.width-at-end.ensures ∙ ap (λ a. length a.cells) c.marked_or_first-shown.ensures.of) c.loop-at-test.true in
    subst (λ a. IsRange (span_in b.alternatives c.loop-at.at (candidate_cell c.loop-at.at a).sg)) (sym c.marked_or_first-shown.ensures.of)
    (shown_range c.requires.0 b c.requires.1 c.marked_or_first-shown.ensures.place c.loop-at.at low)

pub loop-at-preserved : goal.loop-at-preserved
loop-at-preserved c =
    let alternatives = c.args.block.now.alternatives in
    let shown = c.marked_or_first-shown.result in
    let at = c.loop-at.at in
    let low = subst (λ n. at < n) c.width-at-end.ensures c.loop-at-test.true in
    let here = span_in alternatives at (candidate_cell at shown).sg in
    let later = spans_from alternatives (at + 1) (guesses (drop (at + 1) shown.cells)) in
    let left = spans_from alternatives at (guesses (drop at shown.cells)) in
    let done = c.loop-at.ranges.items in
    let pushed = c.push_reserved.ensures.items ∙ ap (λ r. done ++ (r ∷ [])) c.in_ok-range.ensures in
    record {
      ranges = next_part done (here ∷ []) later left _ _ pushed (next_span alternatives shown at low) c.loop-at.invariant.ranges;
      made = c.push_reserved.ensures.len ∙ ap (λ n. n + 1) c.loop-at.invariant.made;
      room = subst (λ n. length shown.cells ≤ n) (sym c.push_reserved.ensures.capacity) c.loop-at.invariant.room;
    }
