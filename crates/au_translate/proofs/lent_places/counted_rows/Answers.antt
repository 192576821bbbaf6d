-- The rows of one block more.
use Rattle.std.proofs.Common.{◌≡◌, ◌∙◌, ◌+◌, ◌∷◌, [], ap, arith, drop, length}
use Rattle.std.proofs.lemmas.List.{length-append}
use Rattle.au_translate.specs.EncodingPieces.{bounded_apart}
use Rattle.au_translate.specs.Translate.{bounded_blocks}
use Rattle.au_translate.proofs.Places.{left_at}
use Rattle.au_translate.proofs.lent_places.counted_rows.Goals as goal

pub loop-place-preserved : goal.loop-place-preserved
loop-place-preserved c =
    let i = c.loop-place.place in
    let b = c.get.result in
    let later = drop (i + 1) c.args.blocks.now in
    let left : length (bounded_blocks (drop i c.args.blocks.now)) ≡ length (bounded_blocks (b ∷ [])) + length (bounded_blocks later) =
    ap (λ bs. length (bounded_blocks bs)) (left_at c.args.blocks.now i b c.get.ensures)
    ∙ (ap length (bounded_apart (b ∷ []) later) ∙ length-append (bounded_blocks (b ∷ [])) (bounded_blocks later)) in
    record {
      rows = omega (arith, left, c.rows_in-count.ensures.rows, c.loop-place.invariant.rows);
      few = omega (arith, c.rows_in-count.ensures.few, c.loop-place.invariant.few);
    }
