-- In the places that are read the rows are those that are kept, whose numbers lie in the range.
use Rattle.std.proofs.Common.{◌≡◌, ◌∙◌, ap, subst, sym}
use Rattle.au_encode.specs.Encode.{encode}
use Rattle.au_plain.specs.PlanKinds.{FitRows}
use Rattle.au_translate.specs.Translate.{bounded_blocks}
use Rattle.au_batches.specs.BlockRows.{block_rows}
use Rattle.au_program.specs.KeptRows.{kept_rows}
use Rattle.au_program.proofs.HeldSources.{kept_fit}
use Rattle.au_engine.proofs.ReadPlaces.{all_read}
use Rattle.au_engine.proofs.running.finding.blocks_kept.Goals as goal

pub of-requires : goal.of-requires
of-requires c =
    let blocks = c.args.blocks in
    let kept = c.args.kept.now in
    let is = c.of_blocks.ensures ∙ ap (λ ps. block_rows ps blocks) c.in_ok-places.ensures ∙ all_read c.args.columns.now blocks kept c.requires.table in
    subst FitRows (sym is) (kept_fit kept (encode (bounded_blocks blocks)) c.requires.fit)

pub returns : goal.returns
returns c =
    let blocks = c.args.blocks in
    let kept = c.args.kept.now in
    c.of.ensures ∙ c.of_blocks.ensures ∙ ap (λ ps. block_rows ps blocks) c.in_ok-places.ensures ∙ all_read c.args.columns.now blocks kept c.requires.table
