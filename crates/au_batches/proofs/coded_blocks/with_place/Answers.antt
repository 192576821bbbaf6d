-- One place more.
use Rattle.std.proofs.Common.{◌<◌, arith, refl}
use Rattle.std.proofs.lemmas.Result.{IfOk-weaker}
use Rattle.au_codes.specs.TextCodes.{text_code}
use Rattle.au_batches.proofs.SharedColumns.{place_again, place_more}
use Rattle.au_batches.proofs.coded_blocks.with_place.Goals as goal

pub returns-then-alike : goal.returns-then-alike
returns-then-alike c =
    let some : 0 < c.args.number = grind (arith, c.if-number-gt0.true) in
    IfOk-weaker c.with_copy.result _ _
    (λ made is. place_again (text_code c.args.book.now) c.args.places.now c.args.number _ _ c.args.blocks.now c.args.batch made some c.requires.number refl refl (c.alike.ensures c.if-alike.true) c.requires.batch is) c.with_copy.ensures

pub returns-in_ok-column : goal.returns-in_ok-column
returns-in_ok-column c =
    IfOk-weaker c.put.result _ _ (λ made is. place_more (text_code c.args.book.now) c.args.places.now c.args.number _ c.args.blocks.now c.args.batch made c.in_ok-column.column c.requires.number refl c.in_ok-column.ensures c.requires.batch is) c.put.ensures
