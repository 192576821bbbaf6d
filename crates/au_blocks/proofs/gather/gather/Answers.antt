-- Runs are the records of each label, and else the records are ordered by the numbers of their labels.
use Rattle.std.proofs.Common.{◌≡◌, ◌∙◌, length, ap}
use Rattle.au_blocks.specs.Order.{by_numbers, labels}
use Rattle.au_blocks.specs.Runs.{by_labels, lent_runs}
use Rattle.au_blocks.proofs.Numbering.{all-below, numbered-chosen}
use Rattle.au_blocks.proofs.RunEntries.{runs-chosen, runs-tallies}
use Rattle.au_blocks.proofs.gather.gather.Goals as goal

pub returns-in-Some-clause-tallies : goal.returns-in-Some-clause-tallies
returns-in-Some-clause-tallies c =
    let are : lent_runs c.in-Some.found.items ≡ by_labels c.args.rows.now = rw c.in-Some.is at c.in_ok-found.ensures in
    c.in_ok-tallies.ensures ∙ runs-tallies c.args.format c.args.rows.now c.deref.result.now c.requires.blocks (ap lent_runs c.deref.ensures.value ∙ are)

pub returns-in-Some-clause-records : goal.returns-in-Some-clause-records
returns-in-Some-clause-records c =
    let are : lent_runs c.in-Some.found.items ≡ by_labels c.args.rows.now = rw c.in-Some.is at c.in_ok-found.ensures in
    c.in_ok-records.ensures ∙ runs-chosen c.args.format c.args.rows.now c.deref-in-Some.result.now c.requires.blocks (ap lent_runs c.deref-in-Some.ensures.value ∙ are)

pub returns-clause-records : goal.returns-clause-records
returns-clause-records c =
    let f = c.args.format in
    let rows = c.args.rows.now in
    let are = c.in_ok-tallies-2.ensures.records in
    c.in_ok-records-2.ensures (length (labels rows)) (all-below f rows c.in_ok-tallies-2.numbered.items are)
    ∙ ap (by_numbers (length (labels rows))) are ∙ numbered-chosen f rows c.requires.blocks
