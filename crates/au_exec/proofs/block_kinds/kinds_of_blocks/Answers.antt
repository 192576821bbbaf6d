-- The first block that has a row has the first row.
use Rattle.std.proofs.Common.{◌≡◌, ◌∙◌, sym, true, false}
use Rattle.std.specs.Prelude.{is_some}
use Rattle.std.specs.List.{list_all}
use Rattle.au_blocks.specs.Blocks.{Candidate, Choices}
use Rattle.au_blocks.specs.Tables.{column_kinds, fits_kinds, table}
use Rattle.au_translate.proofs.Alternatives.{passes_at}
use Rattle.au_exec.proofs.FirstRows.{next_block, this_block}
use Rattle.au_exec.proofs.block_kinds.kinds_of_blocks.Goals as goal

pub kinds_of_block-requires : goal.kinds_of_block-requires
kinds_of_block-requires c =
    let t = table c.args.columns.now c.args.blocks.now in
    let fits = λ (b : Choices). list_all (λ (a : Candidate). fits_kinds (column_kinds t) a.cells) b.alternatives in
    (column_kinds t, passes_at fits t.blocks c.requires.table.rows c.loop-at.at c.get.result c.get.ensures)

pub returns-then-is_some : goal.returns-then-is_some
returns-then-is_some c =
    let some : is_some c.in_ok-found.found ≡ true = sym c.is_some.ensures ∙ c.if-is_some.true in
    this_block c.args.places.now c.args.blocks.now c.loop-at.at c.get.result c.in_ok-found.found _ c.get.ensures c.in_ok-found.ensures some c.loop-at.invariant

pub loop-at-preserved : goal.loop-at-preserved
loop-at-preserved c =
    let none : is_some c.in_ok-found.found ≡ false = sym c.is_some.ensures ∙ c.if-is_some.false in
    next_block c.args.places.now c.args.blocks.now c.loop-at.at c.get.result c.in_ok-found.found _ c.get.ensures c.in_ok-found.ensures none c.loop-at.invariant
