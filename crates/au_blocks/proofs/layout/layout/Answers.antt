-- The first defect of the blocks, and as many alternatives as the tallies say.
use Rattle.std.proofs.Common.{◌≡◌, ◌∙◌, [], inr, length, sym, ap}
use Rattle.std.specs.Prelude.{sum_by}
use Rattle.std.proofs.lemmas.List.{length-map}
use Rattle.au_blocks.specs.declared.tally.Tally.{Tally}
use Rattle.au_blocks.specs.Defects.{blocks_defects}
use Rattle.au_blocks.specs.Entries.{entry_blocks}
use Rattle.au_blocks.specs.Read.{first}
use Rattle.au_blocks.specs.Tallies.{tallies_defect}
use Rattle.au_blocks.proofs.Laying.{all-counted}
use Rattle.au_blocks.proofs.Tallying.{first-defect}
use Rattle.au_blocks.proofs.layout.layout.Goals as goal

pub returns-in-Some-clause-fault : goal.returns-in-Some-clause-fault
returns-in-Some-clause-fault c =
    let blocks = entry_blocks c.args.format c.args.rows.now in
    let is : tallies_defect 0 c.deref.result.now ≡ first (blocks_defects blocks) = ap (tallies_defect 0) (c.deref.ensures.value ∙ c.in_ok-tallies.ensures.tallies) ∙ first-defect blocks in
    inr (sym is ∙ sym c.in-Some.ensures)

pub extents-requires : goal.extents-requires
extents-requires c =
    let f = c.args.format in
    let rows = c.args.rows.now in
    let records = c.in_ok-tallies.records in
    ap (sum_by (λ (t : Tally). t.count)) (c.deref-2.ensures.value ∙ c.in_ok-tallies.ensures.tallies) ∙ all-counted f [] rows
    ∙ ap length (sym c.in_ok-tallies.ensures.records) ∙ length-map records.items (λ r. r.now) ∙ sym records.ok.0 ∙ sym c.len.ensures

pub returns-clause-sound : goal.returns-clause-sound
returns-clause-sound c =
    let blocks = entry_blocks c.args.format c.args.rows.now in
    let is : tallies_defect 0 c.deref.result.now ≡ first (blocks_defects blocks) = ap (tallies_defect 0) (c.deref.ensures.value ∙ c.in_ok-tallies.ensures.tallies) ∙ first-defect blocks in
    sym is ∙ sym c.in_default.ensures
