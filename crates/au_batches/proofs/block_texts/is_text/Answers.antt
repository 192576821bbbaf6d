-- The kind is that of the place's column, and behind the columns stand counts.
use Rattle.std.proofs.Common.{◌<◌, ◌≤◌, ◌/◌, ◌∙◌, arith, length}
use Rattle.au_batches.proofs.TextPlaces.{past_columns, text_column}
use Rattle.au_batches.proofs.block_texts.is_text.Goals as goal

pub returns-then-at-columns : goal.returns-then-at-columns
returns-then-at-columns c =
    let at = c.args.place / 3 in
    let below : at < length c.args.columns.now = grind (arith, c.if-at-columns.true) in
    c.is_text_kind.ensures ∙ text_column c.args.columns.now at _ below

pub returns-else-at-columns : goal.returns-else-at-columns
returns-else-at-columns c =
    let at = c.args.place / 3 in
    let past : length c.args.columns.now ≤ at = grind (arith, c.if-at-columns.false) in
    past_columns c.args.columns.now at past
