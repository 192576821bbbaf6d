-- Each column has as many counts as there are rows.
use Rattle.std.proofs.Common.{sym, ◌∙◌}
use Rattle.au_settled.specs.declared.gathering.Part.TheVariants.{Least, Guess, Most}
use Rattle.au_settled.proofs.Gathered.{more_long, parts_long}
use Rattle.au_settled.proofs.gathering.with_counts.Goals as goal

pub with_column-requires-2 : goal.with_column-requires-2
with_column-requires-2 c =
    let runs = c.args.runs.now in
    let one = more_long Least runs c.in_ok-counts_of.field-0 c.args.rows c.in_ok-rows.rows c.in_ok-counts_of.ensures c.in_ok-rows.ensures c.requires in
    parts_long Guess runs c.in_ok-counts_of-2.field-0 c.in_ok-counts_of-2.ensures ∙ sym one

pub with_column-requires-3 : goal.with_column-requires-3
with_column-requires-3 c =
    let runs = c.args.runs.now in
    let one = more_long Least runs c.in_ok-counts_of.field-0 c.args.rows c.in_ok-rows.rows c.in_ok-counts_of.ensures c.in_ok-rows.ensures c.requires in
    let two = more_long Guess runs c.in_ok-counts_of-2.field-0 c.in_ok-rows.rows c.in_ok-rows-2.rows c.in_ok-counts_of-2.ensures c.in_ok-rows-2.ensures one in
    parts_long Most runs c.in_ok-counts_of-3.field-0 c.in_ok-counts_of-3.ensures ∙ sym two
