-- One row more.
use Rattle.std.proofs.Common.{◌+◌, drop, ap, sym, ◌∙◌, ◌++◌}
use Rattle.std.proofs.lemmas.List.{append-nil}
use Rattle.au_codes.specs.Codes.{CellRows}
use Rattle.au_columns.specs.Batches.{row_at, rows_of}
use Rattle.au_folds.specs.Keyed.{lists}
use Rattle.au_folds.specs.Places.{places_among, seen_after}
use Rattle.au_folds.proofs.KeyRows.{next_row, no_row, place_step, seen_step}
use Rattle.au_folds.proofs.keyed.list_places.Goals as goal

pub loop-row-preserved : goal.loop-row-preserved
loop-row-preserved c =
    let count = c.args.count in
    let cols = lists c.args.columns.now in
    let row = c.loop-row.row in
    let seen = lists c.loop-row.known.keys in
    let more = lists c.list_place.new.known.keys in
    let left = drop row (rows_of count cols) in
    let later = drop (row + 1) (rows_of count cols) in
    let is = next_row count cols row c.loop-row-test.true in
    let grown = c.in_ok-recent.ensures.seen in
    let first = lists c.args.known.now.keys in
    record {
      places = place_step seen more (row_at cols row) left later is grown c.loop-row.places.items c.push.new.self.items (places_among first (rows_of count cols)) c.in_ok-recent.recent c.in_ok-recent.ensures.place c.in_ok-push.ensures.items c.loop-row.invariant.places;
      seen = seen_step seen more (row_at cols row) left later is grown (seen_after first (rows_of count cols)) c.loop-row.invariant.seen;
    }

pub returns-clause-places : goal.returns-clause-places
returns-clause-places c =
    let none = no_row c.args.count (lists c.args.columns.now) c.loop-row.row c.loop-row-test.false in
    sym (append-nil c.loop-row.places.items)
    ∙ ap (λ (rows : CellRows). c.loop-row.places.items ++ places_among (lists c.loop-row.known.keys) rows) (sym none)
    ∙ c.loop-row.invariant.places

pub returns-clause-seen : goal.returns-clause-seen
returns-clause-seen c =
    let none = no_row c.args.count (lists c.args.columns.now) c.loop-row.row c.loop-row-test.false in
    ap (seen_after (lists c.loop-row.known.keys)) (sym none) ∙ c.loop-row.invariant.seen
