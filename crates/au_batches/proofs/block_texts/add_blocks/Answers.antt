-- The blocks fit the columns' kinds, and the texts of one more are added.
use Rattle.std.proofs.Common.{◌≡◌, ◌∙◌, ◌+◌, ◌∷◌, [], ap, drop, map, refl, subst, sym}
use Rattle.std.specs.List.{list_all}
use Rattle.au_value.specs.Order.{kind_of}
use Rattle.au_blocks.specs.Blocks.{Candidate, Choices}
use Rattle.au_blocks.specs.Tables.{column_kinds, fits_kinds, table}
use Rattle.au_plain.specs.PlanKinds.{HaveKinds}
use Rattle.au_encode.specs.Encode.{encode}
use Rattle.au_encode.proofs.EncodedKinds.{rows_have_kinds}
use Rattle.au_codes.specs.Gathering.{with_rows}
use Rattle.au_translate.proofs.Alternatives.{passes_at}
use Rattle.au_translate.proofs.BlockRelation.{table_relation}
use Rattle.au_translate.proofs.Places.{left_at}
use Rattle.au_translate.specs.EncodingPieces.{encoded_apart, kept_apart}
use Rattle.au_translate.specs.Translate.{bounded_blocks, bounded_table}
use Rattle.au_batches.specs.BlockRows.{block_rows}
use Rattle.au_batches.specs.TextPlaces.{row_kinds}
use Rattle.au_batches.proofs.KnownParts.{all_parts}
use Rattle.au_batches.proofs.PlaceTexts.{rows_append}
use Rattle.au_batches.proofs.block_texts.add_blocks.Goals as goal

pub loop-at-init : goal.loop-at-init
loop-at-init c =
    let t = table c.args.columns.now c.args.blocks.now in
    record {
      texts = refl;
      kinds = rows_have_kinds (column_kinds t) (bounded_table t) (table_relation t c.requires.table.table c.requires.table.blocks);
    }

pub add_block-requires-clause-fits : goal.add_block-requires-clause-fits
add_block-requires-clause-fits c =
    let t = table c.args.columns.now c.args.blocks.now in
    let fits = λ (b : Choices). list_all (λ (a : Candidate). fits_kinds (column_kinds t) a.cells) b.alternatives in
    (column_kinds t, passes_at fits t.blocks c.requires.table.table.rows c.loop-at.at c.get.result c.get.ensures)

pub add_block-requires-clause-kinds : goal.add_block-requires-clause-kinds
add_block-requires-clause-kinds c =
    let ks = row_kinds c.args.columns.now in
    let b = c.get.result in
    let later = drop (c.loop-at.at + 1) c.args.blocks.now in
    let apart = ap (λ bs. encode (bounded_blocks bs)) (left_at c.args.blocks.now c.loop-at.at b c.get.ensures) ∙ encoded_apart (b ∷ []) later in
    (all_parts (λ row. map kind_of row ≡ ks) (encode (bounded_blocks (b ∷ []))) (encode (bounded_blocks later)) (subst (HaveKinds ks) apart c.loop-at.invariant.kinds)).0

pub loop-at-preserved : goal.loop-at-preserved
loop-at-preserved c =
    let ks = row_kinds c.args.columns.now in
    let places = c.args.places.now in
    let b = c.get.result in
    let texts = c.loop-at.texts in
    let later = drop (c.loop-at.at + 1) c.args.blocks.now in
    let first = block_rows places (b ∷ []) in
    let rest = block_rows places later in
    let left = left_at c.args.blocks.now c.loop-at.at b c.get.ensures in
    let apart = ap (λ bs. encode (bounded_blocks bs)) left ∙ encoded_apart (b ∷ []) later in
    record {
      texts =
          ap (λ t. with_rows t rest) c.in_ok-add_block.ensures
          ∙ (sym (rows_append texts first rest)
          ∙ (ap (λ rows. with_rows texts rows) (sym (kept_apart places (b ∷ []) later))
          ∙ (ap (λ bs. with_rows texts (block_rows places bs)) (sym left) ∙ c.loop-at.invariant.texts)));
      kinds = (all_parts (λ row. map kind_of row ≡ ks) (encode (bounded_blocks (b ∷ []))) (encode (bounded_blocks later)) (subst (HaveKinds ks) apart c.loop-at.invariant.kinds)).1;
    }
